-- `pop` meets its contract.
use Rattle.deque_rules.proofs.alone.Working.{pop_empty, pop_asks}
use Rattle.deque_alone.proofs.lending.DequesMut.pop.Goals as goal

pub returns-then-self-slot-clause-does : goal.returns-then-self-slot-clause-does
returns-then-self-slot-clause-does c = search pop_empty

pub release-element-requires : goal.release-element-requires
release-element-requires c = search pop_asks
