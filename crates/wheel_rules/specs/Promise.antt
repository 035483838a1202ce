-- The promise of every public call: `Promised c R R' a` says of the call c, of the lent records R before it and R'
-- after it, and of its answer a, all that is promised. The calls over parallel slices, over lent nodes and in C cite
-- it.
use Rattle.std.specs.Prelude.{ℕ, ◌<◌, true, false, Bool, ◌&&◌, not, List, [], ◌∷◌, ◌≡◌, eqb, get_or, length, replicate, set, Option, Some, None, Result, Ok, Err}
use Rattle.std.proofs.Math.Option.{none, some, Option as Maybe}
use Rattle.deque_rules.specs.Links.{home_of}
use Rattle.numbers.specs.Refusals.{number_of}
use Rattle.numbers.specs.Shared.{no_slot}
use Rattle.numbers.specs.declared.refusals.Refusal.{Refusal}
use Rattle.rules.specs.Calls.{act, is_none, refusal_if, step_if}
use Rattle.rules.specs.Places.{wheel01, buckets, place_of}
use Rattle.rules.specs.Wheel.{Answer, refused, ok, handle, removed, end, expired, rescheduled, number, due, Call, enable, create, set_entry, schedule}
use Rattle.rules.specs.Wheel.{reschedule, deschedule, start, pull, abandon, armed_count, next_due}
use Rattle.wheel_rules.specs.Lent.{Nodes, nodes, Records, records, Entries, entries, Decides, SoundRecords, Shows, wheel_of}
use Rattle.wheel_rules.specs.declared.calls.After.{After}
use Rattle.wheel_rules.specs.declared.calls.Event.{Event}
use Rattle.wheel_rules.specs.declared.calls.Event.TheVariants.{Expired, Rescheduled as PlacedAnew, End}
use Rattle.wheel_rules.specs.declared.calls.Handle.{Handle}
use Rattle.wheel_rules.specs.declared.calls.Rescheduled.{Rescheduled}
use Rattle.wheel_rules.specs.declared.calls.Rescheduled.TheVariants.{Moved, Removed}
use Rattle.wheel_rules.specs.declared.calls.Clock.{Clock}

-- ======== what the answers of the calls say

-- ---- number and values
-- "A refusal carries its number and no value"; else what is said of the value
abbrev pub says : {A : Type 0} → (A → Answer) → Result A Refusal → Answer
says f (Ok a) = f a
says f (Err why) = refused (number_of why)

-- enable, deschedule, start, abandon: the clock is no value of the answer
abbrev pub timed_says : Result Clock Refusal → Answer
timed_says = says (λ c. ok)

abbrev pub noted_says : Result (Unit {0}) Refusal → Answer
noted_says = says (λ u. ok)

abbrev pub handle_told : Handle → Answer
handle_told r = handle r.slot r.serial

abbrev pub scheduled_says : Result (After Handle) Refusal → Answer
scheduled_says = says (λ r. handle_told r.answer)

abbrev pub rescheduled_told : Rescheduled → Answer
rescheduled_told Moved = ok
rescheduled_told Removed = removed

abbrev pub rescheduled_says : Result (After Rescheduled) Refusal → Answer
rescheduled_says = says (λ r. rescheduled_told r.answer)

-- "End"; "Expired(entry, serial, deadline)"; "Rescheduled(entry, serial, new place)"
abbrev pub told : Event → Answer
told (Expired e n d) = expired e n d
told (PlacedAnew e n b) = rescheduled e n b
told End = end

abbrev pub pulled_says : Result (After Event) Refusal → Answer
pulled_says = says (λ r. told r.answer)

abbrev pub counted_says : Result ℕ Refusal → Answer
counted_says = says number

abbrev pub due_told : Option ℕ → Maybe ℕ
due_told (Some d) = some d
due_told None = none

abbrev pub due_says : Result (Option ℕ) Refusal → Answer
due_says = says (λ o. due (due_told o))

-- ---- the clock afterwards: the one that the answer hands back, and the caller's own, c, where it hands none
abbrev pub timed_clock : Clock → Result Clock Refusal → Clock
timed_clock c (Ok k) = k
timed_clock c (Err why) = c

abbrev pub clock_after : {A : Type 0} → Clock → Result (After A) Refusal → Clock
clock_after c (Ok r) = r.clock
clock_after c (Err why) = c

-- ======== what a wheel does not show

-- entry, generation and serial of a slot
pub record Payload : Type 0 where
  pub entry : ℕ
  pub generation : ℕ
  pub serial : ℕ

abbrev pub payload_at : Nodes → ℕ → Payload
payload_at N x = record { entry = get_or N.entry x 0; generation = get_or N.generation x 0; serial = get_or N.serial x 0 }

abbrev pub blank : Payload
blank = record { entry = 0; generation = 0; serial = 0 }

abbrev pub prev_at : Nodes → ℕ → ℕ
prev_at N x = get_or N.links.prev x 0

-- of node records with D buckets, before and after a call
pub record DeadFields (D : ℕ) (N N' : Nodes) : Type 0 where
  -- a sentinel's payload stays
  pub sentinel : (x : ℕ) → x < D → payload_at N' x ≡ payload_at N x
  -- a slot that is free before and after is as it was
  pub idle :
      (x : ℕ) → x < length N.links.next → home_of N.links x ≡ no_slot → home_of N'.links x ≡ no_slot →
      (prev_at N' x ≡ prev_at N x) × (payload_at N' x ≡ payload_at N x)
  -- one that the call freed: prev is none and the payload 0
  pub freed :
      (x : ℕ) → x < length N.links.next → (home_of N.links x ≡ no_slot → ⊥) → home_of N'.links x ≡ no_slot →
      (prev_at N' x ≡ no_slot) × (payload_at N' x ≡ blank)

-- of a clock before and after a call: an advance that it closed has previous, level and step 0; where none was open
-- before and after they stay
pub record DeadClock (c c' : Clock) : Type 0 where
  pub closes : c.open ≡ true → c'.open ≡ false → (c'.previous ≡ 0) × (c'.level ≡ 0) × (c'.step ≡ 0)
  pub stays : c.open ≡ false → c'.open ≡ false → (c'.previous ≡ c.previous) × (c'.level ≡ c.level) × (c'.step ≡ c.step)

-- of node records laid out for D buckets: no payload anywhere, and no prev in a free slot
pub record Blank (D : ℕ) (N : Nodes) : Type 0 where
  pub payload : (x : ℕ) → x < length N.links.next → payload_at N x ≡ blank
  pub prev : (x : ℕ) → x < length N.links.next → home_of N.links x ≡ no_slot → prev_at N x ≡ no_slot

-- ======== create

-- "Create(first serial): reading 0, not enabled." No advance, no recorded lengths, no first free slot
abbrev pub created_clock : ℕ → Clock
created_clock first = record {
  enabled = false;
  reading = 0;
  serial = first;
  «open» = false;
  previous = 0;
  level = 0;
  step = 0;
  free = no_slot;
  nodes = 0;
  entries = 0;
}

-- "The 165 bucket heads and tails start out empty as one block each"
abbrev pub empty_ends : List ℕ
empty_ends = replicate (buckets wheel01) no_slot

-- the records that create begins a wheel over: nodes and entries stay as found
abbrev pub created : Records → ℕ → Records
created R first =
    records
    (nodes empty_ends empty_ends R.nodes.links.next R.nodes.links.prev R.nodes.links.home R.nodes.entry R.nodes.generation
    R.nodes.serial)
    R.entries (created_clock first)

-- "each entry set to no deadline, generation 0"
abbrev pub bare_entries : ℕ → Entries
bare_entries k = entries (replicate k false) (replicate k 0) (replicate k 0)

-- ======== the promise

-- ---- what a call looks at
-- each of the lengths is m
abbrev pub all_are : ℕ → List ℕ → Bool
all_are m [] = true
all_are m (k ∷ ks) = eqb k m && all_are m ks

-- all that is lent goes together: as many heads and tails as there are buckets, parallel slices of one length
abbrev pub fits : Records → Bool
fits R =
    all_are (buckets wheel01) (length R.nodes.links.heads ∷ length R.nodes.links.tails ∷ []) &&
    (all_are (length R.nodes.links.next)
    (length R.nodes.links.prev ∷ length R.nodes.links.home ∷ length R.nodes.entry ∷ length R.nodes.generation ∷
    length R.nodes.serial ∷ []) &&
    all_are (length R.entries.dated) (length R.entries.deadline ∷ length R.entries.generation ∷ []))

-- enable is given the lent lengths
abbrev pub enabling : Records → Call
enabling R = enable (length R.nodes.links.next) (length R.entries.dated) (fits R)

-- Enable looks at the lent lengths. The calls of 1 ("all wheel calls but create, enable") look, where the wheel is
-- enabled, whether what is lent is sound.
abbrev pub Looks : Call → Records → Bool → Type 0
Looks (create n) R sound = Unit {0}
Looks (enable m k f) R sound = enable m k f ≡ enabling R
Looks (set_entry e o h) R sound = R.clock.enabled ≡ true → Decides (SoundRecords wheel01 R) sound
Looks (schedule e h) R sound = R.clock.enabled ≡ true → Decides (SoundRecords wheel01 R) sound
Looks (reschedule x n h) R sound = R.clock.enabled ≡ true → Decides (SoundRecords wheel01 R) sound
Looks (deschedule x n h) R sound = R.clock.enabled ≡ true → Decides (SoundRecords wheel01 R) sound
Looks (start q) R sound = R.clock.enabled ≡ true → Decides (SoundRecords wheel01 R) sound
Looks pull R sound = R.clock.enabled ≡ true → Decides (SoundRecords wheel01 R) sound
Looks abandon R sound = R.clock.enabled ≡ true → Decides (SoundRecords wheel01 R) sound
Looks armed_count R sound = R.clock.enabled ≡ true → Decides (SoundRecords wheel01 R) sound
Looks next_due R sound = R.clock.enabled ≡ true → Decides (SoundRecords wheel01 R) sound

-- ---- what a call leaves
-- the records show the rules' wheel after the call, and are sound
pub record Shown (c : Call) (R R' : Records) : Type 0 where
  pub shows : Shows wheel01 R' (act wheel01 (wheel_of wheel01 R) c).1
  pub sound : SoundRecords wheel01 R'

-- in what a wheel does not show little is written, and the entries are E
pub record Kept (E : Entries) (R R' : Records) : Type 0 where
  pub nodes : DeadFields (buckets wheel01) R.nodes R'.nodes
  pub clock : DeadClock R.clock R'.clock
  pub entries : R'.entries ≡ E

-- enable writes all of it: no payload, no deadline, no position
pub record Cleared (R R' : Records) : Type 0 where
  pub nodes : Blank (buckets wheel01) R'.nodes
  pub previous : R'.clock.previous ≡ 0
  pub level : R'.clock.level ≡ 0
  pub step : R'.clock.step ≡ 0
  pub entries : R'.entries ≡ bare_entries (length R.entries.dated)

abbrev pub or_zero : Maybe ℕ → ℕ
or_zero none = 0
or_zero (some d) = d

-- "Set entry: deadline or none, and generation, as given"; without a deadline 0 is written for it
abbrev pub entries_with : ℕ → Maybe ℕ → ℕ → Entries → Entries
entries_with e o h E =
    entries (set E.dated e (not (is_none o))) (set E.deadline e (or_zero o)) (set E.generation e h)

-- every record afterwards, by the call
abbrev pub Leaves : Call → Records → Records → Type 0
Leaves (create n) R R' = R' ≡ created R n
Leaves (enable m k f) R R' = Shown (enable m k f) R R' × Cleared R R'
Leaves (set_entry e o h) R R' = Shown (set_entry e o h) R R' × Kept (entries_with e o h R.entries) R R'
Leaves (schedule e h) R R' = Shown (schedule e h) R R' × Kept R.entries R R'
Leaves (reschedule x n h) R R' = Shown (reschedule x n h) R R' × Kept R.entries R R'
Leaves (deschedule x n h) R R' = Shown (deschedule x n h) R R' × Kept R.entries R R'
Leaves (start q) R R' = Shown (start q) R R' × Kept R.entries R R'
Leaves pull R R' = Shown pull R R' × Kept R.entries R R'
Leaves abandon R R' = Shown abandon R R' × Kept R.entries R R'
Leaves armed_count R R' = Shown armed_count R R' × Kept R.entries R R'
Leaves next_due R R' = Shown next_due R R' × Kept R.entries R R'

-- ---- the promise
pub record Promised (c : Call) (R R' : Records) (a : Answer) : Type 0 where
  -- whether what is lent is sound
  pub sound : Bool
  pub looks : Looks c R sound
  -- the answer is the rules' answer on the wheel that the records show, a refusal where the rows say so
  pub answer_is : a ≡ (step_if wheel01 sound (wheel_of wheel01 R) c).0
  -- "every lent record stays as found"
  pub stays : (refusal_if wheel01 sound (wheel_of wheel01 R) c ≡ 0 → ⊥) → R' ≡ R
  pub leaves : refusal_if wheel01 sound (wheel_of wheel01 R) c ≡ 0 → Leaves c R R'

-- Create hands out a clock, heads and tails by value: laid over any records, which keep nodes and entries, they are
-- what the call promises.
abbrev pub over : Records → Clock → List ℕ → List ℕ → Records
over R c h t =
    records
    (nodes h t R.nodes.links.next R.nodes.links.prev R.nodes.links.home R.nodes.entry R.nodes.generation R.nodes.serial)
    R.entries c

pub record Begins (first : ℕ) (clock : Clock) (heads tails : List ℕ) (a : Answer) : Type 0 where
  pub promised : (R : Records) → Promised (create first) R (over R clock heads tails) a

-- ======== the host's placement function

-- wheel_place: "takes a reading and a deadline and answers level x 64 + index"
pub record Placed (reading deadline r : ℕ) : Type 0 where
  pub is : r ≡ place_of wheel01 reading deadline
