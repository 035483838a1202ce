-- `pass_over` meets its contract.
use Rattle.wheel_rules.specs.pull.Skips.{stays}
use Rattle.wheel_advance.proofs.skips.pass_over.Goals as goal

pub returns-then-waiting-linked : goal.returns-then-waiting-linked
returns-then-waiting-linked c = stays
