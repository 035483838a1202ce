-- `make` meets its contract.
use Rattle.deque_rules.proofs.alone.Calling.{make_no}
use Rattle.deque_alone.proofs.lending.DequesMut.make.Goals as goal

pub returns-then-not-lent-clause-does : goal.returns-then-not-lent-clause-does
returns-then-not-lent-clause-does c = λ free. make_no _ free _ (rw (c.as_read.ensures.state _) at c.lent.ensures) c.if-not-lent.true
