-- `take` meets its contract.
use Rattle.deque_rules.proofs.Freeing.{take_does}
use Rattle.deque.proofs.free.take.Goals as goal

pub returns : goal.returns
returns c = search take_does
