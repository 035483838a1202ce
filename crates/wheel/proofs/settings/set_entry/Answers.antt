-- `set_entry` meets its promise.
use Rattle.wheel_rules.proofs.calls.Calling.{set_no, set_yes}
use Rattle.std.proofs.Common.{rules}
use Rattle.wheel.proofs.settings.set_entry.Goals as goal

pub returns-in_err-entry_refusal-clause-does : goal.returns-in_err-entry_refusal-clause-does
returns-in_err-entry_refusal-clause-does c = search (rules, set_no)

pub returns-clause-does : goal.returns-clause-does
returns-clause-does c = search (rules, set_yes)
