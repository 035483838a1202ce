-- `turn` meets its contract.
use Rattle.deque_rules.proofs.Turning.{turn_stays, turn_does}
use Rattle.deque_rules.proofs.Turning.{tail_index, tail_bytes, head_index, head_bytes}
use Rattle.deque.proofs.linked.LinkedMut.turn.Goals as goal

pub returns-then-self-q-clause-does : goal.returns-then-self-q-clause-does
returns-then-self-q-clause-does c = search turn_stays

pub offset_bounds-self-t : goal.offset_bounds-self-t
offset_bounds-self-t c = search tail_bytes

pub bounds-self-t : goal.bounds-self-t
bounds-self-t c = search tail_index

pub offset_bounds-self-h : goal.offset_bounds-self-h
offset_bounds-self-h c = search head_bytes

pub bounds-self-h : goal.bounds-self-h
bounds-self-h c = search head_index

pub returns-clause-does : goal.returns-clause-does
returns-clause-does c = search turn_does
