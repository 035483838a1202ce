-- 01, "Buckets and slots": the state of a wheel on lists, its calls and their answers, and what these say of a timer.
-- Buckets and nodes are functions from their number, so that nothing here speaks of lengths.
use Rattle.std.specs.Prelude.{ℕ, ◌+◌, zero, suc, ◌≤◌, ◌<◌, Bool, true, false, cond, List, ◌∷◌, ◌++◌, [], ◌≡◌, eqb}
use Rattle.std.proofs.Math.Option.{Option, some}
use Rattle.rules.specs.Places.{Geometry, tick}

-- ======== buckets, free slots, nodes

-- A bucket, front to back: the slots before its sentinel, the sentinel, the slots after it.
pub record Bucket : Type 0 where
  pub early : List ℕ
  pub late : List ℕ

-- the bucket as one list with its sentinel z
abbrev pub whole : ℕ → Bucket → List ℕ
whole z B = B.early ++ (z ∷ B.late)

-- What the record of a slot after the sentinels says. The four numbers mean something only while it is armed.
pub record Slot : Type 0 where
  pub armed : Bool
  pub bucket : ℕ
  pub entry : ℕ
  pub generation : ℕ
  pub serial : ℕ

pub record Lists : Type 0 where
  pub bucket : ℕ → Bucket
  -- the free chain; "the free slot taken is the last one freed": the first of the list
  pub free : List ℕ
  pub node : ℕ → Slot

-- a node newly armed in the bucket b, for the entry e, with the generation h at arming and the serial n
abbrev pub new_node : ℕ → ℕ → ℕ → ℕ → Slot
new_node b e h n = record { armed = true; bucket = b; entry = e; generation = h; serial = n }

-- the same node in the bucket b: "serial and stored generation stay"
abbrev pub placed_in : ℕ → Slot → Slot
placed_in b v = record { armed = true; bucket = b; entry = v.entry; generation = v.generation; serial = v.serial }

-- the node no longer armed; its other fields mean nothing any more
abbrev pub freed : Slot → Slot
freed v = record { armed = false; bucket = v.bucket; entry = v.entry; generation = v.generation; serial = v.serial }

-- f with v at i
abbrev pub update : {A : Type 0} → (ℕ → A) → ℕ → A → ℕ → A
update f i v j = cond (eqb i j) v (f j)

-- a list without the first x in it
abbrev pub without : ℕ → List ℕ → List ℕ
without x [] = []
without x (y ∷ ys) = cond (eqb x y) ys (y ∷ without x ys)

-- ---- counting
-- 1 where the two are the same, else 0
abbrev pub hit : ℕ → ℕ → ℕ
hit b c = cond (eqb b c) 1 0

-- how often x stands in a list, and in a bucket
abbrev pub count : ℕ → List ℕ → ℕ
count x [] = 0
count x (y ∷ ys) = hit x y + count x ys

-- ---- what is done to the lists
-- "at the back"
abbrev pub at_back : ℕ → Bucket → Bucket
at_back x B = record { early = B.early; late = B.late ++ (x ∷ []) }

-- the slot x goes to the back of the bucket b, and its record says v
abbrev pub link : ℕ → ℕ → Slot → Lists → Lists
link b x v L = record { bucket = update L.bucket b (at_back x (L.bucket b)); free = L.free; node = update L.node x v }

-- "unlinks": the slot x leaves the bucket that its record names
abbrev pub taken : ℕ → Bucket → Bucket
taken x B = record { early = without x B.early; late = without x B.late }

abbrev pub unlink : ℕ → Lists → Lists
unlink x L =
    record { bucket = update L.bucket (L.node x).bucket (taken x (L.bucket (L.node x).bucket)); free = L.free; node = L.node }

-- "frees": the slot x is the first of the free chain
abbrev pub release : ℕ → Lists → Lists
release x L = record { bucket = L.bucket; free = x ∷ L.free; node = update L.node x (freed (L.node x)) }

-- the free chain is fs: what is left when its first slot is taken
abbrev pub claim : List ℕ → Lists → Lists
claim fs L = record { bucket = L.bucket; free = fs; node = L.node }

-- "On entering a bucket, nodes go front to back until the sentinel is last."
abbrev pub turned : Bucket → Bucket
turned B = record { early = B.late ++ B.early; late = [] }

abbrev pub enter : ℕ → Lists → Lists
enter b L = record { bucket = update L.bucket b (turned (L.bucket b)); free = L.free; node = L.node }

-- "then nodes before the sentinel are popped in turn": after a pop the slots before the sentinel of b are xs
abbrev pub shortened : List ℕ → Bucket → Bucket
shortened xs B = record { early = xs; late = B.late }

abbrev pub pop : ℕ → List ℕ → Lists → Lists
pop b xs L = record { bucket = update L.bucket b (shortened xs (L.bucket b)); free = L.free; node = L.node }

-- ---- at enabling
-- k numbers from a on
abbrev pub upwards : ℕ → ℕ → List ℕ
upwards a zero = []
upwards a (suc k) = a ∷ upwards (suc a) k

-- each bucket holds its sentinel alone, no slot is armed, and the slots fs are free
abbrev pub bare : List ℕ → Lists
bare fs = record {
  bucket = λ b. record { early = []; late = [] };
  free = fs;
  node = λ x. record { armed = false; bucket = 0; entry = 0; generation = 0; serial = 0 };
}

-- ======== the wheel, its calls and answers

-- "entries beside it (deadline or none, 32-bit generation)"
pub record Entry : Type 0 where
  pub deadline : Option ℕ
  pub generation : ℕ

-- "any open advance": closed; or open from the reading p, before its first bucket or within the bucket b, with the
-- buckets that it has yet to enter.
-- (Level and step of the clock record stand for this list: specs/Places.antt, `ahead`.)
pub data Advance : Type 0 where
  closed : Advance
  poised : ℕ → List ℕ → Advance
  within : ℕ → ℕ → List ℕ → Advance

pub record Wheel : Type 0 where
  pub enabled : Bool
  -- the lengths at enabling: node records, entries
  pub nodes : ℕ
  pub entries : ℕ
  -- the clock record: the reading (q while an advance is open), the next serial, any open advance
  pub reading : ℕ
  pub next : ℕ
  pub advance : Advance
  -- buckets, free chain, node records
  pub lists : Lists
  pub entry : ℕ → Entry

-- 01, "Calls". A handle is slot and serial. Enable is given the lent lengths: node records, entries, and whether all
-- else that is lent goes with these (heads and tails as many as there are buckets, slices that are parallel of one
-- length).
pub data Call : Type 0 where
  create : ℕ → Call
  enable : ℕ → ℕ → Bool → Call
  set_entry : ℕ → Option ℕ → ℕ → Call
  schedule : ℕ → ℕ → Call
  reschedule : ℕ → ℕ → ℕ → Call
  deschedule : ℕ → ℕ → ℕ → Call
  start : ℕ → Call
  pull : Call
  abandon : Call
  armed_count : Call
  next_due : Call

pub data Answer : Type 0 where
  -- "A refusal carries its number and no value"
  refused : ℕ → Answer
  ok : Answer
  -- schedule: slot and serial
  handle : ℕ → ℕ → Answer
  -- reschedule without a deadline
  removed : Answer
  -- pull: End; Expired(entry, serial, deadline); Rescheduled(entry, serial, new place)
  end : Answer
  expired : ℕ → ℕ → ℕ → Answer
  rescheduled : ℕ → ℕ → ℕ → Answer
  -- armed count; next due
  number : ℕ → Answer
  due : Option ℕ → Answer

-- ======== what calls and answers say of a timer

-- ---- calls that change it
-- A call that would change the timer or its deadline: one with its handle; a set entry that gives its entry another
-- deadline, or none; a create, which "begins another wheel, and the timers of the former one count as changed". To set
-- the same deadline again, with any generation, is no change.
abbrev pub Changes : ℕ → ℕ → ℕ → ℕ → Call → Type 0
Changes x n e d (create m) = Unit {0}
Changes x n e d (enable m k f) = ⊥
Changes x n e d (set_entry i o h) = (i ≡ e) × (o ≡ some d → ⊥)
Changes x n e d (schedule i h) = ⊥
Changes x n e d (reschedule y m h) = (y ≡ x) × (m ≡ n)
Changes x n e d (deschedule y m h) = (y ≡ x) × (m ≡ n)
Changes x n e d (start q) = ⊥
Changes x n e d pull = ⊥
Changes x n e d abandon = ⊥
Changes x n e d armed_count = ⊥
Changes x n e d next_due = ⊥

abbrev pub IsRefused : Answer → Type 0
IsRefused (refused k) = Unit {0}
IsRefused ok = ⊥
IsRefused (handle x m) = ⊥
IsRefused removed = ⊥
IsRefused end = ⊥
IsRefused (expired e m d) = ⊥
IsRefused (rescheduled e m b) = ⊥
IsRefused (number k) = ⊥
IsRefused (due o) = ⊥

-- "and change neither it nor its deadline afterwards": each call that would was answered by a refusal. All other calls
-- are free.
abbrev pub LeftAlone : ℕ → ℕ → ℕ → ℕ → List Call → List Answer → Type 0
LeftAlone x n e d [] rs = Unit {0}
LeftAlone x n e d (c ∷ cs) [] = ⊥
LeftAlone x n e d (c ∷ cs) (a ∷ rs) = (Changes x n e d c → IsRefused a) × LeftAlone x n e d cs rs

-- ---- hand-outs
-- 1 where the answer hands out the timer with the serial n, else 0
abbrev pub hands_out : ℕ → Answer → ℕ
hands_out n (refused k) = 0
hands_out n ok = 0
hands_out n (handle x m) = 0
hands_out n removed = 0
hands_out n end = 0
hands_out n (expired e m d) = hit n m
hands_out n (rescheduled e m b) = 0
hands_out n (number k) = 0
hands_out n (due o) = 0

-- how often these answers hand it out
abbrev pub handed : ℕ → List Answer → ℕ
handed n [] = 0
handed n (a ∷ rest) = hands_out n a + handed n rest

-- ---- ticks
-- "a deadline that is not in an earlier tick than the wheel's reading" r
abbrev pub Timely : Geometry → ℕ → ℕ → Type 0
Timely g r d = tick g.shift r ≤ tick g.shift d

-- "enters a later tick than the one it started in", for an advance from p to q
abbrev pub Later : Geometry → ℕ → ℕ → Type 0
Later g p q = tick g.shift p < tick g.shift q
