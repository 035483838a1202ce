-- `front` meets its contract.
use Rattle.deque_rules.proofs.alone.Looking.{front_does}
use Rattle.deque_alone.proofs.lending.Deques.front.Goals as goal

pub returns : goal.returns
returns c = search front_does
