-- `queue` keeps the records those of a deque with a node to spare.
use Rattle.deque_alone.specs.Slices.{state_now}
use Rattle.deque_rules.specs.alone.Ready.{PushReady}
use Rattle.bench.proofs.deques.runs.queue.Given as goal

abbrev pub invariant-loop : goal.invariant-loop
invariant-loop l = PushReady (state_now l.deques l.cursors) l.spare 0
