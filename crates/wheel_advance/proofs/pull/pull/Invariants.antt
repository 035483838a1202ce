-- `pull` meets its contract.
use Rattle.rules.specs.Places.{wheel01}
use Rattle.wheel_rules.specs.popping.Pop.{left}
use Rattle.wheel_rules.proofs.pull.Pulling.{Pulling}
use Rattle.wheel_timers.specs.Slices.{nodes_now, SameNodes}
use Rattle.wheel_advance.proofs.pull.pull.Given as goal

abbrev pub invariant-loop-event : goal.invariant-loop-event
invariant-loop-event l = record {
  pulling : Pulling (nodes_now l.fn.nodes) l.entries.dated.now l.entries.deadline.now l.initial.c (nodes_now l.nodes) l.c;
  same : SameNodes l.fn.nodes l.nodes;
}

abbrev pub decreases-loop-event : goal.decreases-loop-event
decreases-loop-event l = left wheel01 l.nodes.linked.home.now l.c
