-- `push` meets its contract.
use Rattle.deque_rules.proofs.Pushing.{push_asks, push_does}
use Rattle.deque.proofs.linked.LinkedMut.push.Goals as goal

pub link_back-requires : goal.link_back-requires
link_back-requires c = push_asks _ _ _ _ _ _ _ _ (rw c.as_read.ensures.next at c.take-rest.ensures) c.requires

pub returns-clause-does : goal.returns-clause-does
returns-clause-does c = push_does _ _ _ _ _ _ _ _ (rw c.as_read.ensures.next at c.take-rest.ensures) _ c.link_back.ensures.does
