-- `push` meets its contract.
use Rattle.deque_rules.proofs.alone.Working.{push_fits, push_does}
use Rattle.deque_alone.proofs.lending.DequesMut.push.Goals as goal

pub overflow_add-self : goal.overflow_add-self
overflow_add-self c = search push_fits

pub returns-clause-does : goal.returns-clause-does
returns-clause-does c = search push_does
