-- `place::visits::visited` meets its contract.
use Prim.Native.Nat.{◌^◌}
use native.Mathlib.Omega.{arith}
use mathlib.Core.Path.{refl}
use Rattle.wheel_rules.specs.place.Levels.{size01}
use Rattle.wheel_rules.proofs.place.Visiting.{visits_none, visits_few, visits_all}
use Rattle.wheel_timers.proofs.place.visits.visited.Goals as goal

pub returns-then-to-from : goal.returns-then-to-from
returns-then-to-from c =
    let a = c.args in
    visits_none a.level a.p a.q c.level_shift-shift.result (2 ^ size01 a.level) c.level_shift-shift.ensures refl c.if-to-from.true

pub returns-then-apart-count : goal.returns-then-apart-count
returns-then-apart-count c =
    let a = c.args in
    visits_few a.level a.p a.q c.level_shift-shift.result c.level_count-count.result
    c.level_shift-shift.ensures
    c.level_count-count.ensures (omega arith) c.if-apart-count.true

pub returns : goal.returns
returns c =
    let a = c.args in
    visits_all a.level a.p a.q c.level_shift-shift.result c.level_count-count.result
    c.level_shift-shift.ensures
    c.level_count-count.ensures (omega arith) c.if-apart-count.false
