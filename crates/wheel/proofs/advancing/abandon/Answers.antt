-- `abandon` meets its promise.
use Rattle.wheel_rules.proofs.calls.Calling.{abandon_yes}
use Rattle.std.proofs.Common.{rules}
use Rattle.wheel.proofs.advancing.abandon.Goals as goal

pub returns : goal.returns
returns c = search (rules, abandon_yes)
