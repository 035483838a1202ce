-- `seat_ends` meets its contract.
use Rattle.wheel_rules.proofs.layout.Ends.{SeatingEnds}
use Rattle.wheel_timers.proofs.around.seat_ends.Given as goal

abbrev pub invariant-loop-b : goal.invariant-loop-b
invariant-loop-b l = SeatingEnds l.initial.heads l.initial.tails l.heads l.tails l.b
