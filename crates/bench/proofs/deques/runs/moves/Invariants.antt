-- `moves` keeps the records those of one deque that has every node.
use Rattle.deque_alone.specs.Slices.{state_now}
use Rattle.bench.specs.Ready.{Full}
use Rattle.bench.proofs.deques.runs.moves.Given as goal

abbrev pub invariant-loop : goal.invariant-loop
invariant-loop l = Full (state_now l.deques l.cursors) l.free
