-- `release` meets its contract.
use Rattle.deque_rules.proofs.alone.Working.{release_does}
use Rattle.deque_alone.proofs.lending.DequesMut.release.Goals as goal

pub returns-clause-does : goal.returns-clause-does
returns-clause-does c = let moved = rw c.as_read.ensures.next at c.step_off.ensures in search release_does
