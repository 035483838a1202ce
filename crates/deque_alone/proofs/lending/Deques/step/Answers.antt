-- `step` meets its contract.
use Rattle.deque_rules.proofs.alone.Looking.{step_ends}
use Rattle.deque_alone.proofs.lending.Deques.step.Goals as goal

pub returns-then-self-s : goal.returns-then-self-s
returns-then-self-s c = search step_ends
