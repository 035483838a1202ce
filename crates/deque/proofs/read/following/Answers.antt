-- `following` meets its contract.
use Rattle.deque_rules.proofs.Reading.{follows_does}
use Rattle.deque.proofs.read.following.Goals as goal

pub returns : goal.returns
returns c = follows_does _ _
