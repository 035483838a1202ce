-- `arm` meets its contract: the timer is armed with the slot and the serial that the rules give.
use Prim.Native.Nat.{◌^◌, ◌+◌}
use mathlib.Core.Path.{refl}
use mathlib.Core.Option.{some}
use Rattle.rules.specs.Places.{tick}
use Rattle.rules.specs.Wheel.{schedule, set_entry}
use Rattle.story.proofs.Telling.{on, says, watching}
use Rattle.story.proofs.chapters.arm.Goals as goal

pub expect-requires : goal.expect-requires
unfolding tick
expect-requires c = c.is_noted.ensures.yes (says (set_entry 0 (some (2 ^ 30 + 5)) 1) _ _ c.requires c.set.ensures _ refl)

pub expect-requires-2 : goal.expect-requires-2
unfolding tick
expect-requires-2 c =
    let r1 = on (set_entry 0 (some (2 ^ 30 + 5)) 1) _ _ c.requires c.set.ensures in
    c.is_handle.ensures.yes (says (schedule 0 1) _ _ r1
    c.schedule.ensures _ refl)

pub returns : goal.returns
returns c =
    let r1 = on (set_entry 0 (some (2 ^ 30 + 5)) 1) _ _ c.requires c.set.ensures in
    watching _ _ r1 c.schedule.ensures
