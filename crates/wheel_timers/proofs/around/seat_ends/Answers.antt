-- `seat_ends` meets its contract.
use native.Mathlib.Omega.{arith}
use Rattle.wheel_rules.proofs.layout.Ends.{ends_end}
use Rattle.wheel_timers.proofs.around.seat_ends.Goals as goal

pub returns : goal.returns
returns c = ends_end _ _ _ _ _ c.requires c.loop-b.invariant (omega arith)
