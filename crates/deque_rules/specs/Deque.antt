-- 01, "The deque by itself": its records, when they are sound, what each call writes and answers, the promise of every
-- call, and histories of calls.
use Rattle.std.specs.Prelude.{ℕ, ◌≤◌, ◌<◌, ◌+◌, ◌-◌, cond, List, [], ◌∷◌, ◌⊎◌, ◌≡◌, eqb, length, get_or, replicate, set, Result, Ok, Err, Option, Some, None}
use Rattle.deque_rules.specs.Links.{Links, links, list_from, Chain, slot_after, home_of, Path, first, fresh, link_back, removed, move_back}
use Rattle.deque_rules.specs.declared.alone.Node.{Node}
use Rattle.deque_rules.specs.declared.alone.Placed.{Placed}
use Rattle.deque_rules.specs.declared.alone.Taken.{Taken}
use Rattle.deque_rules.specs.declared.alone.Freed.{Freed}
use Rattle.numbers.specs.Refusals.{number_of}
use Rattle.numbers.specs.declared.refusals.Refusal.{Refusal}
use Rattle.numbers.specs.Shared.{no_slot, In, past_end, unless, not_refused, up_from}

-- ======== the records

-- head, tail, recorded length and cursor of each deque; next, previous, deque and element of each node
pub record State : Type 0 where
  pub links : Links
  pub lens : List ℕ
  pub cursors : List ℕ
  pub elements : List ℕ

abbrev pub state : List ℕ → List ℕ → List ℕ → List ℕ → List ℕ → List ℕ → List ℕ → List ℕ → State
state h t l c n p o e = record { links = links h t n p o; lens = l; cursors = c; elements = e }

-- the lent lengths are the counts
abbrev pub deque_count : State → ℕ
deque_count a = length a.links.heads

abbrev pub node_count : State → ℕ
node_count a = length a.links.next

-- "1 to 256 deques of 64-bit elements share 1 to 4,096 nodes", in parallel slices of equal lengths
pub record LentDeques (heads tails lens cursors : List ℕ) : Type 0 where
  pub some : 1 ≤ length heads
  pub few : length heads ≤ 256
  pub tails_len : length tails ≡ length heads
  pub lens_len : length lens ≡ length heads
  pub cursors_len : length cursors ≡ length heads

pub record LentNodes (next prev home elements : List ℕ) : Type 0 where
  pub some : 1 ≤ length next
  pub small : length next ≤ no_slot
  pub prev_len : length prev ≡ length next
  pub home_len : length home ≡ length next
  pub elements_len : length elements ≡ length next

pub record Lent (a : State) : Type 0 where
  pub deques : LentDeques a.links.heads a.links.tails a.lens a.cursors
  pub nodes : LentNodes a.links.next a.links.prev a.links.home a.elements

-- "a cursor stands at none, at a node of its deque, or past the end"
abbrev pub Stands : ℕ → List ℕ → Type 0
Stands c xs = (c ≡ no_slot) ⊎ (c ≡ past_end) ⊎ In c xs

-- ======== sound

-- the nodes of the deque d from head to tail, and the free nodes from the first one on, as next leads
abbrev pub held : State → ℕ → List ℕ
held a d = list_from (node_count a) a.links.next (get_or a.links.heads d 0)

abbrev pub chain : State → ℕ → List ℕ
chain a free = list_from (node_count a) a.links.next free

-- the links of the deque d run from head to tail and back over its nodes: those that name it, and no others
pub record Linked (a : State) (d : ℕ) : Type 0 where
  pub runs : Chain no_slot (slot_after a.links.heads a.links.next d) (slot_after a.links.tails a.links.prev d) no_slot (held a d)
  pub only : (x : ℕ) → In x (held a d) → (x < node_count a) × (home_of a.links x ≡ d)
  pub all : (x : ℕ) → x < node_count a → home_of a.links x ≡ d → In x (held a d)

-- the free chain starts at the first free node and holds each free node once (a chain by next holds no node twice)
pub record FreeChain (a : State) (free : ℕ) : Type 0 where
  pub starts : first (chain a free) ≡ free
  pub runs : Path (λ (x : ℕ). get_or a.links.next x 0) (chain a free)
  pub only : (x : ℕ) → In x (chain a free) → (x < node_count a) × (home_of a.links x ≡ no_slot)
  pub all : (x : ℕ) → x < node_count a → home_of a.links x ≡ no_slot → In x (chain a free)

pub record Sound (a : State) (free : ℕ) : Type 0 where
  pub lent : Lent a
  -- "each node is in one deque or free"
  pub nodes : (x : ℕ) → x < node_count a → (home_of a.links x < deque_count a) ⊎ (home_of a.links x ≡ no_slot)
  pub links : (d : ℕ) → d < deque_count a → Linked a d
  pub free_chain : FreeChain a free
  -- the recorded length is the number of the deque's nodes
  pub lengths : (d : ℕ) → d < deque_count a → get_or a.lens d 0 ≡ length (held a d)
  pub cursors : (d : ℕ) → d < deque_count a → Stands (get_or a.cursors d 0) (held a d)

-- ======== what the calls write

abbrev pub next_of : State → ℕ → ℕ
next_of a s = get_or a.links.next s 0

abbrev pub front_of : State → ℕ → ℕ
front_of a d = get_or a.links.heads d 0

abbrev pub back_of : State → ℕ → ℕ
back_of a d = get_or a.links.tails d 0

abbrev pub recorded_length : State → ℕ → ℕ
recorded_length a d = get_or a.lens d 0

abbrev pub element_of : State → ℕ → ℕ
element_of a s = get_or a.elements s 0

-- ---- the cursor
-- moved on from s: to the node after it, or past the end
abbrev pub moved_on : List ℕ → ℕ → ℕ
moved_on next s = let q = get_or next s 0 in cond (eqb q no_slot) past_end q

-- "the cursor starts at the head": the node that next by cursor answers, or no node
abbrev pub start_at : List ℕ → List ℕ → ℕ → ℕ
start_at heads cursors d = let c = get_or cursors d 0 in cond (eqb c no_slot) (get_or heads d 0) c

abbrev pub cursor_node : State → ℕ → ℕ
cursor_node a d = start_at a.links.heads a.cursors d

-- ---- the calls
-- all deques empty, all nodes free from 0 upwards, every cursor at none
abbrev pub made : State → State
made a =
    record {
      links = fresh (deque_count a) (node_count a);
      lens = replicate (deque_count a) 0;
      cursors = replicate (deque_count a) no_slot;
      elements = replicate (node_count a) 0;
    }

-- the cursor of d stands at c
abbrev pub with_cursor : State → ℕ → ℕ → State
with_cursor a d c = record { links = a.links; lens = a.lens; cursors = set a.cursors d c; elements = a.elements }

-- next by cursor: from a node on to the next, from anywhere else to none
abbrev pub stepped : State → ℕ → State
stepped a d =
    let x = cursor_node a d in
    cond (eqb x no_slot) (with_cursor a d no_slot) (cond (eqb x past_end) (with_cursor a d no_slot) (with_cursor a d (moved_on a.links.next x)))

-- ---- the cursor
-- "removing the node at the cursor .. first moves the cursor on"
abbrev pub step_off : List ℕ → List ℕ → ℕ → ℕ → List ℕ
step_off cursors next d s = cond (eqb (get_or cursors d 0) s) (set cursors d (moved_on next s)) cursors

-- ---- the calls
-- the first free node goes to the back of d with the element e
abbrev pub pushed : State → ℕ → ℕ → ℕ → State
pushed a free d e =
    record {
      links = link_back a.links d free;
      lens = set a.lens d (recorded_length a d + 1);
      cursors = a.cursors;
      elements = set a.elements free e;
    }

-- the node s leaves d and is free: prev and home none, element 0, next the former first free node
abbrev pub released : State → ℕ → ℕ → ℕ → State
released a free d s =
    record {
      links = removed a.links free s;
      lens = set a.lens d (recorded_length a d - 1);
      cursors = step_off a.cursors a.links.next d s;
      elements = set a.elements s 0;
    }

-- the front of d leaves it, if there is one
abbrev pub popped : State → ℕ → ℕ → State
popped a free d = cond (eqb (front_of a d) no_slot) a (released a free d (front_of a d))

-- the node s goes to the back of d; the tail stays as it is, and so does the cursor there
abbrev pub shifted : State → ℕ → ℕ → State
shifted a d s =
    record { links = move_back a.links d s; lens = a.lens; cursors = step_off a.cursors a.links.next d s; elements = a.elements }

abbrev pub moved_back : State → ℕ → ℕ → State
moved_back a d s = cond (eqb (back_of a d) s) a (shifted a d s)

-- ======== answers

-- a refusal number of 01, Nothing, or values in the order of 01 (and last, where nodes are taken or freed, the first
-- free node then)
pub data DequeAnswer : Type 0 where
  refused : ℕ → DequeAnswer
  nothing : DequeAnswer
  values : List ℕ → DequeAnswer

-- ---- what the code's calls answer with
abbrev pub Made : Type 0
Made = Result ℕ Refusal

abbrev pub Pushed : Type 0
Pushed = Result Placed Refusal

abbrev pub Popped : Type 0
Popped = Result (Option Taken) Refusal

abbrev pub Looked : Type 0
Looked = Result (Option Node) Refusal

abbrev pub Dropped : Type 0
Dropped = Result Freed Refusal

abbrev pub Measured : Type 0
Measured = Result ℕ Refusal

abbrev pub Done : Type 0
Done = Result Unit Refusal

-- ---- what each case of these answers tells
abbrev pub made_told : Made → DequeAnswer
made_told (Ok free) = values (free ∷ [])
made_told (Err why) = refused (number_of why)

abbrev pub pushed_told : Pushed → DequeAnswer
pushed_told (Ok x) = values (x.slot ∷ x.free ∷ [])
pushed_told (Err why) = refused (number_of why)

abbrev pub popped_told : Popped → DequeAnswer
popped_told (Ok (Some x)) = values (x.slot ∷ x.element ∷ x.free ∷ [])
popped_told (Ok None) = nothing
popped_told (Err why) = refused (number_of why)

abbrev pub looked_told : Looked → DequeAnswer
looked_told (Ok (Some x)) = values (x.slot ∷ x.element ∷ [])
looked_told (Ok None) = nothing
looked_told (Err why) = refused (number_of why)

abbrev pub dropped_told : Dropped → DequeAnswer
dropped_told (Ok x) = values (x.element ∷ x.free ∷ [])
dropped_told (Err why) = refused (number_of why)

abbrev pub measured_told : Measured → DequeAnswer
measured_told (Ok n) = values (n ∷ [])
measured_told (Err why) = refused (number_of why)

abbrev pub done_told : Done → DequeAnswer
done_told (Ok u) = values []
done_told (Err why) = refused (number_of why)

-- ---- what the looks and next by cursor tell where they are not refused
-- the node x with its element, or Nothing where x is no node
abbrev pub look_told : State → ℕ → DequeAnswer
look_told a x = cond (eqb x no_slot) nothing (values (x ∷ element_of a x ∷ []))

-- past the end the answer is Nothing too
abbrev pub next_told : State → ℕ → DequeAnswer
next_told a d = let x = cursor_node a d in cond (eqb x past_end) nothing (look_told a x)

-- the front with its element, which is the first free node then; or Nothing
abbrev pub pop_told : State → ℕ → DequeAnswer
pop_told a d = let x = front_of a d in cond (eqb x no_slot) nothing (values (x ∷ element_of a x ∷ x ∷ []))

-- ======== refusals

-- 3: counts outside the range
abbrev pub make_rows : State → ℕ → Type 0
make_rows a = unless (Lent a) 3 not_refused

-- 4: not sound; 16: no such deque
abbrev pub deque_rows : State → ℕ → ℕ → ℕ → Type 0
deque_rows a free d = unless (Sound a free) 4 (unless (d < deque_count a) 16 not_refused)

-- 10: no free node
abbrev pub push_rows : State → ℕ → ℕ → ℕ → Type 0
push_rows a free d = unless (Sound a free) 4 (unless (free ≡ no_slot → ⊥) 10 (unless (d < deque_count a) 16 not_refused))

-- 17: the node is not in this deque
abbrev pub InDeque : State → ℕ → ℕ → Type 0
InDeque a d s = (s < node_count a) × (home_of a.links s ≡ d)

abbrev pub node_rows : State → ℕ → ℕ → ℕ → ℕ → Type 0
node_rows a free d s = unless (Sound a free) 4 (unless (d < deque_count a) 16 (unless (InDeque a d s) 17 not_refused))

-- The rows give a number. Where it is not 0 the answer is that refusal and every record is as before; where it is 0 the
-- answer is `then` and the records are `after`.
pub record Meets (rows : ℕ → Type 0) (a b : State) (answer : DequeAnswer) (after : State) (then : DequeAnswer) : Type 0 where
  pub number : ℕ
  pub by : rows number
  pub refusal : (number ≡ 0 → ⊥) → (answer ≡ refused number) × (b ≡ a)
  pub result : number ≡ 0 → (answer ≡ then) × (b ≡ after)

-- ======== the calls and their promise

-- a call with what the caller chooses: a deque d, an element e, a node s. The records and the first free node are what
-- the caller holds
pub data DequeCall : Type 0 where
  make : DequeCall
  push_back : (d e : ℕ) → DequeCall
  pop_front : (d : ℕ) → DequeCall
  look_front : (d : ℕ) → DequeCall
  look_back : (d : ℕ) → DequeCall
  move_to_back : (d s : ℕ) → DequeCall
  unlink_and_drop : (d s : ℕ) → DequeCall
  length_of : (d : ℕ) → DequeCall
  next_by_cursor : (d : ℕ) → DequeCall
  reset_cursor : (d : ℕ) → DequeCall

-- the type that a call answers with, and 01's number and values for each of its cases
abbrev pub AnswerOf : DequeCall → Type 0
AnswerOf make = Made
AnswerOf (push_back d e) = Pushed
AnswerOf (pop_front d) = Popped
AnswerOf (look_front d) = Looked
AnswerOf (look_back d) = Looked
AnswerOf (move_to_back d s) = Done
AnswerOf (unlink_and_drop d s) = Dropped
AnswerOf (length_of d) = Measured
AnswerOf (next_by_cursor d) = Looked
AnswerOf (reset_cursor d) = Done

abbrev pub told : (c : DequeCall) → AnswerOf c → DequeAnswer
told make r = made_told r
told (push_back d e) r = pushed_told r
told (pop_front d) r = popped_told r
told (look_front d) r = looked_told r
told (look_back d) r = looked_told r
told (move_to_back d s) r = done_told r
told (unlink_and_drop d s) r = dropped_told r
told (length_of d) r = measured_told r
told (next_by_cursor d) r = looked_told r
told (reset_cursor d) r = done_told r

-- a call on the records a with the first free node free leaves the records b and tells t
abbrev pub Promise : DequeCall → State → ℕ → State → DequeAnswer → Type 0
Promise make a free b t = Meets (make_rows a) a b t (made a) (values (first (up_from (node_count a) 0) ∷ []))
Promise (push_back d e) a free b t = Meets (push_rows a free d) a b t (pushed a free d e) (values (free ∷ next_of a free ∷ []))
Promise (pop_front d) a free b t = Meets (deque_rows a free d) a b t (popped a free d) (pop_told a d)
Promise (look_front d) a free b t = Meets (deque_rows a free d) a b t a (look_told a (front_of a d))
Promise (look_back d) a free b t = Meets (deque_rows a free d) a b t a (look_told a (back_of a d))
Promise (move_to_back d s) a free b t = Meets (node_rows a free d s) a b t (moved_back a d s) (values [])
Promise (unlink_and_drop d s) a free b t = Meets (node_rows a free d s) a b t (released a free d s) (values (element_of a s ∷ s ∷ []))
Promise (length_of d) a free b t = Meets (deque_rows a free d) a b t a (values (recorded_length a d ∷ []))
Promise (next_by_cursor d) a free b t = Meets (deque_rows a free d) a b t (stepped a d) (next_told a d)
Promise (reset_cursor d) a free b t = Meets (deque_rows a free d) a b t (with_cursor a d no_slot) (values [])

-- the promise of every public call: what the contracts cite
pub record DequePromised (c : DequeCall) (a : State) (free : ℕ) (b : State) (r : AnswerOf c) : Type 0 where
  pub meets : Promise c a free b (told c r)

-- ======== histories

-- ---- the first free node after a call, where it was free before: what the answer hands on, and the same one where it
-- hands none on
abbrev pub made_free : Made → ℕ → ℕ
made_free (Ok free') free = free'
made_free (Err why) free = free

abbrev pub pushed_free : Pushed → ℕ → ℕ
pushed_free (Ok x) free = x.free
pushed_free (Err why) free = free

abbrev pub popped_free : Popped → ℕ → ℕ
popped_free (Ok (Some x)) free = x.free
popped_free (Ok None) free = free
popped_free (Err why) free = free

abbrev pub dropped_free : Dropped → ℕ → ℕ
dropped_free (Ok x) free = x.free
dropped_free (Err why) free = free

abbrev pub free_then : (c : DequeCall) → AnswerOf c → ℕ → ℕ
free_then make r free = made_free r free
free_then (push_back d e) r free = pushed_free r free
free_then (pop_front d) r free = popped_free r free
free_then (look_front d) r free = free
free_then (look_back d) r free = free
free_then (move_to_back d s) r free = free
free_then (unlink_and_drop d s) r free = dropped_free r free
free_then (length_of d) r free = free
free_then (next_by_cursor d) r free = free
free_then (reset_cursor d) r free = free

-- ---- what a caller sees of a history: each call with its answer, and the lent records with the first free node before
-- the first of them and after the last
pub record Event : Type 0 where
  pub call : DequeCall
  pub answer : AnswerOf call

abbrev pub event : (c : DequeCall) → AnswerOf c → Event
event c r = record { call = c; answer = r }

-- only these calls write: each is on the records that the one before it left, with the first free node as handed on
pub data DequeLeads : State → ℕ → List Event → State → ℕ → Type 0 where
  done : {a : State} {free : ℕ} → DequeLeads a free [] a free
  then : {a b z : State} {free last : ℕ} {c : DequeCall} {r : AnswerOf c} {es : List Event} → DequePromised c a free b r → DequeLeads b (free_then c r free) es z last → DequeLeads a
      free (event c r ∷ es) z last
