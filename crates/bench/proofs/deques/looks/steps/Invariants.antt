-- `steps` keeps the records those of one deque.
use Rattle.deque_alone.specs.Slices.{state_of}
use Rattle.bench.specs.Ready.{Ready}
use Rattle.bench.proofs.deques.looks.steps.Given as goal

abbrev pub invariant-loop : goal.invariant-loop
invariant-loop l = Ready (state_of l.deques l.cursors) l.free
