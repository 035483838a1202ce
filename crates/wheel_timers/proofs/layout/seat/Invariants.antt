-- `seat` meets its contract.
use Rattle.wheel_rules.proofs.layout.Seating.{Seating}
use Rattle.deque.specs.Slices.{links_now, SameSlices}
use lib.ListN.{length}
use Rattle.wheel_timers.proofs.layout.seat.Given as goal

abbrev pub invariant-loop-b : goal.invariant-loop-b
invariant-loop-b l = record {
  seated : Seating (length l.initial.linked.heads.now) (length l.initial.linked.next.now) (links_now l.initial.linked) (links_now l.linked) l.free l.b;
  same : SameSlices l.fn.linked l.linked;
}
