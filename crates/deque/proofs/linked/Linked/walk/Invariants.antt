-- `walk` meets its contract: the invariant of its loop is `Going`, and each way out has a law of `Walking`.
use Rattle.deque_rules.proofs.Walking.{Going}
use Rattle.deque.specs.Slices.{links_of}
use Rattle.deque.proofs.linked.Linked.walk.Given as goal

abbrev pub invariant-loop-k : goal.invariant-loop-k
invariant-loop-k l = Going (links_of l.self) l.d l.b l.x l.k
