-- `unlink` meets its contract.
use Rattle.deque_rules.proofs.Cutting.{cut_asks, cut_asks_2, cut_does}
use borrow.Author.Rules.{rules}
use Rattle.deque.proofs.linked.LinkedMut.unlink.Goals as goal

pub put-requires : goal.put-requires
put-requires c = search cut_asks

pub put-requires-2 : goal.put-requires-2
put-requires-2 c = search cut_asks_2

pub returns-clause-does : goal.returns-clause-does
returns-clause-does c = cut_does _ _ (search rules) _ _ _ _ (search rules) (search rules) (search rules) (search rules)
