-- `come_too_early` meets its contract: before the deadline the timer is placed anew.
use Prim.Native.Nat.{◌^◌, ◌+◌}
use mathlib.Core.Path.{refl}
use Rattle.rules.specs.Places.{tick}
use Rattle.rules.specs.Wheel.{pull, start}
use Rattle.story.proofs.Telling.{on, says}
use Rattle.story.proofs.chapters.come_too_early.Goals as goal

pub expect-requires : goal.expect-requires
unfolding tick
expect-requires c = c.is_noted.ensures.yes (says (start (2 ^ 30 + 4)) _ _ c.requires c.start.ensures _ refl)

pub expect-requires-2 : goal.expect-requires-2
unfolding tick
expect-requires-2 c =
    let r1 = on (start (2 ^ 30 + 4)) _ _ c.requires c.start.ensures in
    c.is_moved.ensures.yes (says pull _ _ r1 c.pull.ensures _ refl)

pub expect-requires-3 : goal.expect-requires-3
unfolding tick
expect-requires-3 c =
    let r1 = on (start (2 ^ 30 + 4)) _ _ c.requires c.start.ensures in
    let r2 = on pull _ _ r1 c.pull.ensures in
    c.is_end.ensures.yes (says pull _ _ r2 c.pull-2.ensures _ refl)

pub returns : goal.returns
returns c =
    let r1 = on (start (2 ^ 30 + 4)) _ _ c.requires c.start.ensures in
    let r2 = on pull _ _ r1 c.pull.ensures in
    let r3 = on pull _ _ r2 c.pull-2.ensures in
    r3
