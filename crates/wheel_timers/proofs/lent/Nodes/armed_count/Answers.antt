-- `armed_count` meets its contract.
use borrow.Author.Rules.{rules}
use Rattle.wheel_timers.proofs.Counted.{counts_by}
use Rattle.wheel_timers.proofs.lent.Nodes.armed_count.Goals as goal

pub returns : goal.returns
returns c = counts_by _ _ _ c.requires (search rules)
