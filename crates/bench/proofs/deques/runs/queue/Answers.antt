-- `queue` keeps the records those of a deque with a node to spare.
use Rattle.bench.proofs.DequeStanding.{pushed_front, popped_asks}
use Rattle.bench.proofs.deques.runs.queue.Goals as goal

pub release-sum-requires : goal.release-sum-requires
release-sum-requires c = search pushed_front

pub loop-preserved : goal.loop-preserved
loop-preserved c = popped_asks _ _ _ _ _ (pushed_front _ _ _ _ _ c.loop.invariant c.push-rest.ensures.does) c.release-sum.ensures.does
