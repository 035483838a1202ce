-- `move_to_back` meets its contract.
use Rattle.deque_rules.proofs.Moving.{after_index, after_bytes, send_asks, last_index, last_bytes, send_does}
use Rattle.deque.proofs.change.move_to_back.Goals as goal

pub offset_bounds-prev-q : goal.offset_bounds-prev-q
offset_bounds-prev-q c = search after_bytes

pub bounds-prev-q : goal.bounds-prev-q
bounds-prev-q c = search after_index

pub put-requires : goal.put-requires
put-requires c = search send_asks

pub offset_bounds-next-t : goal.offset_bounds-next-t
offset_bounds-next-t c = search last_bytes

pub bounds-next-t : goal.bounds-next-t
bounds-next-t c = search last_index

pub returns : goal.returns
returns c = search send_does
