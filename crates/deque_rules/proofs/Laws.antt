-- What the layers above may cite of linked deques and free slots, beside the contracts and the definitions.
-- ---- the calls, on whatever lists the records stand for
-- push, remove, move to the back: the records that they make stand for the lists changed so
pub use Rattle.deque_rules.proofs.Pushing.{push_rep, remove_rep, move_rep}
-- so do those of a turn; a turn of a deque whose last is asked for writes nothing
pub use Rattle.deque_rules.proofs.Turning.{turn_rep, turn_stays}
-- records laid out stand for empty deques and free slots
pub use Rattle.deque_rules.proofs.Laying.{fresh_rep}
-- the contracts of these calls, of what they write alone
pub use Rattle.deque_rules.proofs.Doing.{pushes, removes, moves, turns, lays}
-- ---- what may be read
-- the head is the first, the tail the last, the next of a member the one after it
pub use Rattle.deque_rules.proofs.Reading.{head_is, tail_is, next_is}
-- the first of a list is a member, and the list is it and the rest
pub use Rattle.deque_rules.proofs.Slots.{first_in, some_first}
-- ---- who is where
-- a deque that has been replaced, and the others; the members after a push
pub use Rattle.deque_rules.proofs.Members.{deq_at, deq_off, deq_same, push_in}
-- the home of a slot says which deque it is in, and none that it is free; no slot is free twice
pub use Rattle.deque_rules.proofs.Members.{in-home, home_in, free_home, home_free, free_once}
-- a member is a slot and stands once
pub use Rattle.deque_rules.proofs.Swap.{slot_real, deq_once}
-- ---- the lists are unique: those computed from the records
pub use Rattle.deque_rules.proofs.Unique.{each_len, each_at, deq_is, free_is, listed_is, whole_listed}
-- ---- the lists determine the links, but for the prev of a free slot
pub use Rattle.deque_rules.proofs.Alike.{Alike, links_alike}
-- ---- for a test that looks at more of each deque: deques walked one after another, and what the counts say at the end
pub use Rattle.deque_rules.proofs.Judging.{Upto, begin, more, no_walk, no_walk_free, walk_counts, too_few, is_whole}
-- ---- what the calls write, record by record
-- the homes after each call
pub use Rattle.deque_rules.proofs.Fields.{home_linked, home_removed, home_moved, home_turned}
-- the prev of a free slot stays; that of a slot freed is none
pub use Rattle.deque_rules.proofs.Idle.{idle_linked, idle_moved, idle_removed, idle_turned, prev_removed}
-- a slot linked at the back: the ends and its links, for a deque that was empty all of them
pub use Rattle.deque_rules.proofs.Fields.{heads_long, next_long, tails_linked, prev_linked, heads_alone, next_alone}
-- records laid out
pub use Rattle.deque_rules.proofs.Fields.{fresh_heads, fresh_tails, fresh_prev, fresh_home, fresh_next_len, fresh_chained}
