-- `remove` meets its contract.
use Rattle.deque_rules.proofs.Pushing.{remove_does}
use Rattle.deque.proofs.linked.LinkedMut.remove.Goals as goal

pub returns-clause-does : goal.returns-clause-does
returns-clause-does c = search remove_does
