-- `shift` meets its contract.
use Rattle.deque_rules.proofs.alone.Working.{move_stays, node_ahead, move_does}
use Rattle.deque_alone.proofs.unchecked.shift.Goals as goal

pub returns-then-tails-d : goal.returns-then-tails-d
returns-then-tails-d c = search move_stays

pub move_to_back-requires : goal.move_to_back-requires
move_to_back-requires c = search node_ahead

pub returns : goal.returns
returns c = search move_does
