-- 01, "Calls" and "Refusal numbers": when each call is refused, what a pull does, and what each call does to a wheel on
-- lists.
use Rattle.std.specs.Prelude.{ℕ, ◌-◌, ◌^◌, suc, zero, ◌+◌, min, Bool, true, false, cond, not, ◌&&◌, List, [], ◌∷◌, ◌++◌, eqb, leb, ltb}
use Rattle.std.proofs.Math.Option.{Option, none, some}
use Rattle.rules.specs.Places.{Geometry, buckets, bucket_of, place_of, visits}
use Rattle.rules.specs.Wheel.{Call, create, enable, set_entry, schedule, reschedule, deschedule, start, pull, abandon, armed_count, next_due, Advance}
use Rattle.rules.specs.Wheel.{closed, poised, within, Wheel, Lists, Answer, Slot, placed_in, link, release, expired, rescheduled, pop, Entry, enter}
use Rattle.rules.specs.Wheel.{end, refused, update, new_node, claim, handle, unlink, ok, removed, upwards, bare, number, due}

-- ======== refusals

-- What the rows ask for. Each row refuses with its number unless this holds.
pub record Tests {ℓ} (T : Type ℓ) : Type ℓ where
  -- 1 "wheel not enabled"; 2 "enabled already"
  pub enabled : T
  pub off : T
  -- 3 "lent lengths outside the range"
  pub lendable : ℕ → ℕ → Bool → T
  -- 4 "not sound"
  pub sound : T
  -- 5 "an advance is open"; 6 "none is open"
  pub quiet : T
  pub busy : T
  -- 7 "no such entry"; 8 "entry's generation is another"; 9 "entry has no deadline"
  pub entry : ℕ → T
  pub generation : ℕ → ℕ → T
  pub dated : ℕ → T
  -- 10 "no free slot"; 11 "next serial is 2^64 - 1"
  pub room : T
  pub serial : T
  -- 12 "handle's slot absent, sentinel or free, or its serial another"; 13 "generation is not the one at arming"
  pub live : ℕ → ℕ → T
  pub arming : ℕ → ℕ → T

abbrev pub Row {ℓ} : Type ℓ → Type ℓ
Row T = T × ℕ

-- ---- the stages
-- 1, 4: all wheel calls but create and enable; then 5, or 6 for pull and abandon; armed count has neither
abbrev pub while_enabled {ℓ} : {T : Type ℓ} → Tests T → List (Row T)
while_enabled t = (t.enabled, 1) ∷ (t.sound, 4) ∷ []

abbrev pub while_closed {ℓ} : {T : Type ℓ} → Tests T → List (Row T)
while_closed t = while_enabled t ++ ((t.quiet, 5) ∷ [])

abbrev pub while_open {ℓ} : {T : Type ℓ} → Tests T → List (Row T)
while_open t = while_enabled t ++ ((t.busy, 6) ∷ [])

-- the handle of reschedule and deschedule, and the generation
abbrev pub of_handle {ℓ} : {T : Type ℓ} → Tests T → ℕ → ℕ → ℕ → List (Row T)
of_handle t x n h = (t.live x n, 12) ∷ (t.arming x h, 13) ∷ []

-- ---- the rows of each call
abbrev pub rows {ℓ} : {T : Type ℓ} → Tests T → Call → List (Row T)
rows t (create n) = []
rows t (enable m k fits) = (t.off, 2) ∷ (t.lendable m k fits, 3) ∷ []
rows t (set_entry e o h) = while_closed t ++ ((t.entry e, 7) ∷ [])
rows t (schedule e h) =
    while_closed t ++ ((t.entry e, 7) ∷ (t.generation e h, 8) ∷ (t.dated e, 9) ∷ (t.room, 10) ∷ (t.serial, 11) ∷ [])
rows t (reschedule x n h) = while_closed t ++ of_handle t x n h
rows t (deschedule x n h) = while_closed t ++ of_handle t x n h
rows t (start q) = while_closed t
rows t pull = while_open t
rows t abandon = while_open t
rows t armed_count = while_enabled t
rows t next_due = while_closed t

-- ---- on a wheel
abbrev pub is_open : Advance → Bool
is_open closed = false
is_open (poised p bs) = true
is_open (within p b bs) = true

abbrev pub is_none : Option ℕ → Bool
is_none none = true
is_none (some d) = false

abbrev pub is_empty : List ℕ → Bool
is_empty [] = true
is_empty (x ∷ xs) = false

-- a handle: it is stale "when no armed timer has both" slot and serial
abbrev pub is_stale : Wheel → ℕ → ℕ → Bool
is_stale w x n = cond (leb w.nodes x) true (cond (w.lists.node x).armed (not (eqb (w.lists.node x).serial n)) true)

-- lent lengths: one node record more than there are buckets, to 4,096, and 1 to 4,096 entries, with all else that is
-- lent beside them
abbrev pub in_range : Geometry → ℕ → ℕ → Bool → Bool
in_range g m k fits = fits && (ltb (buckets g) m && (leb m 4096 && (ltb 0 k && leb k 4096)))

-- the tests on a wheel. Whether it is sound is said by who asks: soundness is a property of lent records
abbrev pub tests_of : Geometry → Bool → Wheel → Tests Bool
tests_of g sound w = record {
  enabled = w.enabled;
  off = not w.enabled;
  lendable = in_range g;
  sound = sound;
  quiet = not (is_open w.advance);
  busy = is_open w.advance;
  entry = λ e. ltb e w.entries;
  generation = λ e h. eqb (w.entry e).generation h;
  dated = λ e. not (is_none (w.entry e).deadline);
  room = not (is_empty w.lists.free);
  serial = not (eqb w.next (2 ^ 64 - 1));
  live = λ x n. not (is_stale w x n);
  arming = λ x h. eqb (w.lists.node x).generation h;
}

-- the number of the first row whose test fails, or 0
abbrev pub pick : List (Row Bool) → ℕ
pick [] = 0
pick (t ∷ ts) = cond t.0 (pick ts) t.1

-- the number that the call is refused with, or 0
abbrev pub refusal_if : Geometry → Bool → Wheel → Call → ℕ
refusal_if g sound w c = pick (rows (tests_of g sound w) c)

-- ======== a pull

-- the event that a pull has reached, if any, and the lists then
abbrev pub Found : Type 0
Found = Option Answer × Lists

-- A slot x has been popped at the reading q, which leaves the lists L; the next argument is the deadline that its entry
-- holds. "No deadline: slot freed, no event": the pull goes on as r says. "Deadline at most q: freed, Expired(entry,
-- serial, deadline). Otherwise placed anew with reading q, at the back: Rescheduled(entry, serial, new place)."
abbrev pub dealt : Geometry → ℕ → ℕ → Option ℕ → Lists → Found → Found
dealt g q x none L r = r
dealt g q x (some d) L r =
    let v : Slot = L.node x in
    let b : ℕ = bucket_of g q d in
    cond (leb d q)
    (some (expired v.entry v.serial d), release x L)
    (some (rescheduled v.entry v.serial (place_of g q d)), link b x (placed_in b v) L)

-- "nodes before the sentinel are popped in turn": xs are those before the sentinel of b. It stops at the first event.
abbrev pub emptied : Geometry → (ℕ → Entry) → ℕ → ℕ → List ℕ → Lists → Found
emptied g E q b [] L = (none, L)
emptied g E q b (x ∷ xs) L =
    dealt g q x (E (L.node x).entry).deadline (pop b xs L) (emptied g E q b xs (release x (pop b xs L)))

-- what a pull leaves: its answer, the advance, the lists
pub record AfterPull : Type 0 where
  pub answer : Answer
  pub advance : Advance
  pub lists : Lists

-- An event ends the pull within the bucket b, with the buckets bs yet to enter; without one it goes on as r says.
abbrev pub stopped : ℕ → ℕ → List ℕ → Option Answer → Lists → AfterPull → AfterPull
stopped p b bs none L r = r
stopped p b bs (some a) L r = record { answer = a; advance = within p b bs; lists = L }

-- The buckets are entered in turn. "End, which closes the advance and keeps q."
abbrev pub swept : Geometry → (ℕ → Entry) → ℕ → ℕ → List ℕ → Lists → AfterPull
swept g E p q [] L = record { answer = end; advance = closed; lists = L }
swept g E p q (b ∷ bs) L =
    let r : Found = emptied g E q b ((enter b L).bucket b).early (enter b L) in
    stopped p b bs r.0 r.1 (swept g E p q bs r.1)

-- from where the advance stands
abbrev pub pulled : Geometry → (ℕ → Entry) → ℕ → Advance → Lists → AfterPull
pulled g E q closed L = record { answer = refused 6; advance = closed; lists = L }
pulled g E q (poised p bs) L = swept g E p q bs L
pulled g E q (within p b bs) L =
    let r : Found = emptied g E q b (L.bucket b).early L in
    stopped p b bs r.0 r.1 (swept g E p q bs r.1)

-- ======== the calls

-- ---- a wheel with some things changed: enabled and the lengths stay
abbrev pub changed : ℕ → ℕ → Advance → Lists → (ℕ → Entry) → Wheel → Wheel
changed r n a L E w =
    record { enabled = w.enabled; nodes = w.nodes; entries = w.entries; reading = r; next = n; advance = a; lists = L; entry = E }

abbrev pub with_lists : Lists → Wheel → Wheel
with_lists L w = changed w.reading w.next w.advance L w.entry w

abbrev pub with_next : ℕ → Wheel → Wheel
with_next n w = changed w.reading n w.advance w.lists w.entry w

abbrev pub with_clock : ℕ → Advance → Wheel → Wheel
with_clock r a w = changed r w.next a w.lists w.entry w

abbrev pub with_entry : ℕ → Entry → Wheel → Wheel
with_entry e v w = changed w.reading w.next w.advance w.lists (update w.entry e v) w

-- ---- arming
-- "puts a new node at the back of its bucket, answers its handle"; "serials count up by one per arming". Deadline and
-- free chain are arguments; the first two cases are refused before.
abbrev pub armed : Geometry → Wheel → ℕ → ℕ → Option ℕ → List ℕ → Answer × Wheel
armed g w e h none fs = (refused 9, w)
armed g w e h (some d) [] = (refused 10, w)
armed g w e h (some d) (x ∷ fs) =
    let b : ℕ = bucket_of g w.reading d in
    (handle x w.next, with_next (suc w.next) (with_lists (link b x (new_node b e h w.next) (claim fs w.lists)) w))

-- "unlinks, places by the deadline now held, at the back. Without a deadline the slot is freed, answer Removed."
abbrev pub rearmed : Geometry → Wheel → ℕ → Option ℕ → Answer × Wheel
rearmed g w x none = (removed, with_lists (release x (unlink x w.lists)) w)
rearmed g w x (some d) =
    let b : ℕ = bucket_of g w.reading d in
    (ok, with_lists (link b x (placed_in b (w.lists.node x)) (unlink x w.lists)) w)

-- ---- the advance
-- "the old one p is kept": the reading that the open advance started from, and that abandon restores
abbrev pub origin : Advance → ℕ → ℕ
origin closed r = r
origin (poised p bs) r = p
origin (within p b bs) r = p

-- ---- the two counts
-- how many of the slots below k are armed
abbrev pub armed_below : (ℕ → Slot) → ℕ → ℕ
armed_below f zero = 0
armed_below f (suc k) = cond (f k).armed 1 0 + armed_below f k

abbrev pub sooner : Option ℕ → Option ℕ → Option ℕ
sooner none o = o
sooner (some d) none = some d
sooner (some d) (some c) = some (min d c)

-- what next due takes the least of: at a reading r, for a timer in the bucket b whose entry holds this deadline or
-- none. Here it is the deadline.
abbrev pub due_key : Geometry → ℕ → ℕ → Option ℕ → Option ℕ
due_key g r b o = o

abbrev pub key_of : Geometry → Wheel → ℕ → Option ℕ
key_of g w x =
    cond (w.lists.node x).armed (due_key g w.reading (w.lists.node x).bucket (w.entry (w.lists.node x).entry).deadline) none

-- the least key of the slots below k
abbrev pub least_key : Geometry → Wheel → ℕ → Option ℕ
least_key g w zero = none
least_key g w (suc k) = sooner (key_of g w k) (least_key g w k)

-- ---- what a call does that is not refused
abbrev pub act : Geometry → Wheel → Call → Answer × Wheel
-- "Create(first serial): reading 0, not enabled." Entries stay as found.
act g w (create n) = (
  ok,
  record { enabled = false; nodes = 0; entries = 0; reading = 0; next = n; advance = closed; lists = bare []; entry = w.entry },
)
-- "Enable: sentinels placed, other slots free, no open advance, each entry set to no deadline, generation 0"; "at the
-- start the lowest, 165 first"
act g w (enable m k fits) = (
  ok,
  record {
    enabled = true;
    nodes = m;
    entries = k;
    reading = w.reading;
    next = w.next;
    advance = closed;
    lists = bare (upwards (buckets g) (m - buckets g));
    entry = λ e. record { deadline = none; generation = 0 };
  },
)
-- "Set entry: deadline or none, and generation, as given"
act g w (set_entry e o h) = (ok, with_entry e (record { deadline = o; generation = h }) w)
act g w (schedule e h) = armed g w e h (w.entry e).deadline w.lists.free
act g w (reschedule x n h) = rearmed g w x (w.entry (w.lists.node x).entry).deadline
-- "unlinks and frees"
act g w (deschedule x n h) = (ok, with_lists (release x (unlink x w.lists)) w)
-- "the reading becomes q, the old one p is kept"; "start moves no node"
act g w (start q) = (ok, with_clock q (poised w.reading (visits g w.reading q)) w)
-- "one event, or End"
act g w pull =
    let r : AfterPull = pulled g w.entry w.reading w.advance w.lists in
    (r.answer, with_lists r.lists (with_clock w.reading r.advance w))
-- "closes and restores p. Events already pulled stay pulled; moved timers stay moved."
act g w abandon = (ok, with_clock (origin w.advance w.reading) closed w)
act g w armed_count = (number (armed_below w.lists.node w.nodes), w)
-- "the smallest deadline among armed timers, or none"
act g w next_due = (due (least_key g w w.nodes), w)

-- "A refusal carries its number and no value, and every lent record stays as found."
abbrev pub judged : ℕ → Answer × Wheel → Wheel → Answer × Wheel
judged zero r w = r
judged (suc k) r w = (refused (suc k), w)

-- a call on a wheel of which it is said whether it is sound: its answer, and the wheel after it
abbrev pub step_if : Geometry → Bool → Wheel → Call → Answer × Wheel
step_if g sound w c = judged (refusal_if g sound w c) (act g w c) w
