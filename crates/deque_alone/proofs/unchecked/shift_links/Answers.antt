-- `shift_links` meets its contract.
use Rattle.deque_rules.proofs.alone.Working.{shift_asks, shift_does}
use Rattle.deque_alone.proofs.unchecked.shift_links.Goals as goal

pub to_back-requires : goal.to_back-requires
to_back-requires c = search shift_asks

pub returns-clause-does : goal.returns-clause-does
returns-clause-does c = search shift_does
