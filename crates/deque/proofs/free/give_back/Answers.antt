-- `give_back` meets its contract.
use Rattle.deque_rules.proofs.Freeing.{give_does}
use Rattle.deque.proofs.free.give_back.Goals as goal

pub returns : goal.returns
returns c = give_does _ _ _ _
