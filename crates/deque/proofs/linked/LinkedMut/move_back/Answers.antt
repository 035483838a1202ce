-- `move_back` meets its contract.
use Rattle.deque_rules.proofs.Moving.{move_asks_2, move_does}
use Rattle.deque.proofs.linked.LinkedMut.move_back.Goals as goal

pub link_back-requires : goal.link_back-requires
link_back-requires c = search move_asks_2

pub returns-clause-does : goal.returns-clause-does
returns-clause-does c = search move_does
