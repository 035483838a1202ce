-- `next_due` meets its promise.
use Rattle.wheel_rules.proofs.calls.Calling.{due_yes}
use Rattle.std.proofs.Common.{rules}
use Rattle.wheel.proofs.counts.next_due.Goals as goal

pub returns : goal.returns
returns c = search (rules, due_yes)
