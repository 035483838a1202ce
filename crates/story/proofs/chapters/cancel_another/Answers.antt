-- `cancel_another` meets its contract: another timer is armed, cancelled, and its handle refused.
use Prim.Native.Nat.{◌^◌}
use mathlib.Core.Path.{refl}
use mathlib.Core.Option.{some}
use Rattle.rules.specs.Places.{tick}
use Rattle.rules.specs.Wheel.{deschedule, schedule, set_entry}
use Rattle.story.proofs.Telling.{on, says}
use Rattle.story.proofs.chapters.cancel_another.Goals as goal

pub expect-requires : goal.expect-requires
unfolding tick
expect-requires c = c.is_noted.ensures.yes (says (set_entry 1 (some (2 ^ 36)) 3) _ _ c.requires.reached c.set.ensures _ refl)

pub expect-requires-2 : goal.expect-requires-2
unfolding tick
expect-requires-2 c =
    let r1 = on (set_entry 1 (some (2 ^ 36)) 3) _ _ c.requires.reached c.set.ensures in
    c.is_handle.ensures.yes (says (schedule 1 3) _ _ r1
    c.schedule.ensures _ refl)

pub expect-requires-3 : goal.expect-requires-3
unfolding tick
expect-requires-3 c =
    let r1 = on (set_entry 1 (some (2 ^ 36)) 3) _ _ c.requires.reached c.set.ensures in
    let r2 = on (schedule 1 3) _ _ r1 c.schedule.ensures in
    c.is_noted-2.ensures.yes (says (deschedule 166 8 3) _ _ r2
    c.deschedule.ensures _ refl)

pub expect-requires-4 : goal.expect-requires-4
unfolding tick
expect-requires-4 c =
    let r1 = on (set_entry 1 (some (2 ^ 36)) 3) _ _ c.requires.reached c.set.ensures in
    let r2 = on (schedule 1 3) _ _ r1 c.schedule.ensures in
    let r3 = on (deschedule 166 8 3) _ _ r2 c.deschedule.ensures in
    c.is_refused.ensures.yes (says (deschedule 166 8 3) _ _ r3
    c.deschedule-2.ensures _ refl)

pub returns : goal.returns
returns c =
    let r1 = on (set_entry 1 (some (2 ^ 36)) 3) _ _ c.requires.reached c.set.ensures in
    let r2 = on (schedule 1 3) _ _ r1 c.schedule.ensures in
    let r3 = on (deschedule 166 8 3) _ _ r2 c.deschedule.ensures in
    let r4 = on (deschedule 166 8 3) _ _ r3 c.deschedule-2.ensures in
    r4
