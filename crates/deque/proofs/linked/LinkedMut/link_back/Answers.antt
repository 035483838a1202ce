-- `link_back` meets its contract.
use Rattle.deque_rules.proofs.Linking.{link_asks, link_does}
use borrow.Author.Rules.{rules}
use Rattle.deque.proofs.linked.LinkedMut.link_back.Goals as goal

pub put-requires : goal.put-requires
put-requires c = search link_asks

pub returns-clause-does : goal.returns-clause-does
returns-clause-does c = link_does _ _ _ _ _ (search rules) (search rules) (search rules)
