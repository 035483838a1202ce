-- `next_due` meets its contract.
use Rattle.wheel_rules.proofs.records.Counting.{Finding}
use Rattle.wheel_timers.proofs.lent.Nodes.next_due.Given as goal

abbrev pub invariant-loop-x : goal.invariant-loop-x
invariant-loop-x l =
    Finding l.self.linked.heads.now l.self.linked.home.now l.self.entry.now l.entries.dated.now l.entries.deadline.now l.least l.x
