-- `armed_count` meets its promise.
use Rattle.wheel_rules.proofs.calls.Calling.{count_yes}
use Rattle.std.proofs.Common.{rules}
use Rattle.wheel.proofs.counts.armed_count.Goals as goal

pub returns : goal.returns
returns c = search (rules, count_yes)
