-- `steps` keeps the records those of one deque.
use Rattle.bench.proofs.DequeStanding.{stepped_ready}
use Rattle.bench.proofs.deques.looks.steps.Goals as goal

pub loop-preserved : goal.loop-preserved
loop-preserved c = stepped_ready _ _ _ _ c.loop.invariant c.step.ensures
