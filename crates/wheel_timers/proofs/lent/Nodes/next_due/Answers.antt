-- `next_due` meets its contract.
use borrow.Author.Rules.{rules}
use Rattle.wheel_rules.proofs.records.Counting.{finding_begins, found_all}
use Rattle.wheel_timers.proofs.lent.Nodes.next_due.Goals as goal

pub loop-x-init : goal.loop-x-init
loop-x-init c = finding_begins _ _ _ _ _ (search rules)

pub returns : goal.returns
returns c = search found_all
