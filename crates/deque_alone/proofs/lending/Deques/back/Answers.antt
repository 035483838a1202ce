-- `back` meets its contract.
use Rattle.deque_rules.proofs.alone.Looking.{back_does}
use Rattle.deque_alone.proofs.lending.Deques.back.Goals as goal

pub returns : goal.returns
returns c = search back_does
