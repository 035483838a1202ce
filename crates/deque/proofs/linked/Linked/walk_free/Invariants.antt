-- `walk_free` meets its contract: the invariant of its loop is `GoingFree`, and each way out has a law of
-- `WalkingFree`.
use Rattle.deque_rules.proofs.WalkingFree.{GoingFree}
use Rattle.deque.proofs.linked.Linked.walk_free.Given as goal

abbrev pub invariant-loop-k : goal.invariant-loop-k
invariant-loop-k l = GoingFree l.self.next.now l.self.home.now l.free l.x l.k
