-- `start` meets its promise.
use Rattle.wheel_rules.proofs.calls.Calling.{start_yes}
use Rattle.std.proofs.Common.{rules}
use Rattle.wheel.proofs.advancing.start.Goals as goal

pub returns : goal.returns
returns c = search (rules, start_yes)
