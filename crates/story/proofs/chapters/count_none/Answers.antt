-- `count_none` meets its contract: after the hand-out no timer is armed.
use mathlib.Core.Path.{refl}
use Rattle.rules.specs.Places.{tick}
use Rattle.rules.specs.Wheel.{armed_count}
use Rattle.story.proofs.Telling.{says}
use Rattle.story.proofs.chapters.count_none.Goals as goal

pub expect-requires : goal.expect-requires
unfolding tick
expect-requires c = c.is_count.ensures.yes (says armed_count _ _ c.requires c.armed_count.ensures _ refl)
