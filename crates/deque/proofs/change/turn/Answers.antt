-- `turn` meets its contract.
use Rattle.deque_rules.proofs.Turning.{turn_stays, turn_does}
use Rattle.deque_rules.proofs.Turning.{tail_index, tail_bytes, head_index, head_bytes}
use Rattle.deque.proofs.change.turn.Goals as goal

pub returns-then-next-q : goal.returns-then-next-q
returns-then-next-q c = search turn_stays

pub offset_bounds-next-t : goal.offset_bounds-next-t
offset_bounds-next-t c = search tail_bytes

pub bounds-next-t : goal.bounds-next-t
bounds-next-t c = search tail_index

pub offset_bounds-prev-h : goal.offset_bounds-prev-h
offset_bounds-prev-h c = search head_bytes

pub bounds-prev-h : goal.bounds-prev-h
bounds-prev-h c = search head_index

pub returns : goal.returns
returns c = search turn_does
