-- `begin` meets its contract: create, and enable, which is done.
use mathlib.Core.Path.{refl}
use mathlib.Core.Bool.{true}
use Rattle.rules.specs.Places.{tick}
use Rattle.rules.specs.Wheel.{enable}
use Rattle.story.specs.Held.{held}
use Rattle.story.proofs.Telling.{beginning, on, says}
use Rattle.story.proofs.chapters.begin.Goals as goal

pub expect-requires : goal.expect-requires
unfolding tick
expect-requires c = c.is_noted.ensures.yes (says (enable 168 2 true) _ _
    (beginning 7 (held c.create-s.result) _ c.create-s.ensures) c.enable.ensures _ refl)

pub returns : goal.returns
returns c = on (enable 168 2 true) _ _ (beginning 7 (held c.create-s.result) _
    c.create-s.ensures) c.enable.ensures
