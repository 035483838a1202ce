-- `lay_out` meets its contract.
use Rattle.deque_rules.proofs.Laying.{lay_does}
use Rattle.deque.proofs.linked.LinkedMut.lay_out.Goals as goal

pub returns-clause-does : goal.returns-clause-does
returns-clause-does c = search lay_does
