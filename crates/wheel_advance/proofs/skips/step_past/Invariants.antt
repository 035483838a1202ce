-- `step_past` meets its contract.
use Prim.Native.Nat.{◌≤◌, max}
use Rattle.wheel_rules.proofs.pull.Skipping.{Passing}
use Rattle.wheel_advance.proofs.skips.step_past.Given as goal

abbrev pub invariant-loop-step : goal.invariant-loop-step
invariant-loop-step l = record {
  passing : Passing l.linked.heads.now l.linked.next.now l.clock l.step;
  upto : l.step ≤ max l.count l.clock.step;
}
