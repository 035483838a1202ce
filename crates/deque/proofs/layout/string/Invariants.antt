-- `string` meets its contract.
use Rattle.deque_rules.proofs.Laying.{Strung}
use Rattle.deque.proofs.layout.string.Given as goal

abbrev pub invariant-loop-s : goal.invariant-loop-s
invariant-loop-s l = Strung l.initial.next l.next l.s l.free
