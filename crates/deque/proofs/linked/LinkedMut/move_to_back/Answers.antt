-- `move_to_back` meets its contract.
use Rattle.deque_rules.proofs.Moving.{after_index, after_bytes, send_asks, last_index, last_bytes, send_does}
use Rattle.deque.proofs.linked.LinkedMut.move_to_back.Goals as goal

pub offset_bounds-self-q : goal.offset_bounds-self-q
offset_bounds-self-q c = search after_bytes

pub bounds-self-q : goal.bounds-self-q
bounds-self-q c = search after_index

pub put-requires : goal.put-requires
put-requires c = search send_asks

pub offset_bounds-self-t : goal.offset_bounds-self-t
offset_bounds-self-t c = search last_bytes

pub bounds-self-t : goal.bounds-self-t
bounds-self-t c = search last_index

pub returns-clause-does : goal.returns-clause-does
returns-clause-does c = search send_does
