-- inner: when each refusal number of 01 is given: ordered rows, the lowest number first.
-- A stage is one or more rows and says once when its numbers are given; a call's rows are stages one after the other.
use Rattle.std.specs.Prelude.{ℕ, ◌-◌, ◌^◌, ◌≤◌, ◌<◌, Bool, true, false, ◌≡◌, length, get_or}
use Rattle.std.proofs.Math.Option.{none as nothing}
use Rattle.deque_rules.specs.Links.{home_of}
use Rattle.numbers.specs.Rows.{given}
use Rattle.numbers.specs.Shared.{no_slot, unless, not_refused}
use Rattle.rules.specs.Calls.{Tests, rows}
use Rattle.rules.specs.Places.{wheel01, buckets}
use Rattle.rules.specs.Wheel.{Call, enable, set_entry, schedule, reschedule, pull, armed_count, next_due}
use Rattle.wheel_rules.specs.Lent.{Records, Ranges, EndsLengths, NodesLengths, EntriesLengths, SoundRecords}

-- ---- the stages
-- 1 "wheel not enabled"; 4 "not sound"
abbrev pub standing : Records → (ℕ → Type 0) → ℕ → Type 0
standing R more = unless (R.clock.enabled ≡ true) 1 (unless (SoundRecords wheel01 R) 4 more)

-- 5 "an advance is open": "While open, only pull, abandon and armed count answer; the other calls of 1 get 5."
abbrev pub closed : Records → (ℕ → Type 0) → ℕ → Type 0
closed R more = standing R (unless (R.clock.open ≡ false) 5 more)

-- 6 "none is open (pull, abandon)"
abbrev pub opened : Records → (ℕ → Type 0) → ℕ → Type 0
opened R more = standing R (unless (R.clock.open ≡ true) 6 more)

-- 7 "set entry, schedule: no such entry"
abbrev pub entered : Records → ℕ → (ℕ → Type 0) → ℕ → Type 0
entered R e more = closed R (unless (e < R.clock.entries) 7 more)

-- 8 "schedule: entry's generation is another"; 9 "schedule: entry has no deadline"
abbrev pub dated : Records → ℕ → ℕ → (ℕ → Type 0) → ℕ → Type 0
dated R e h more =
    entered R e (unless (get_or R.entries.generation e 0 ≡ h) 8 (unless (get_or R.entries.dated e false ≡ true) 9 more))

-- 10 "schedule, push back: no free slot"; 11 "schedule: next serial is 2^64 - 1"
abbrev pub roomy : Records → (ℕ → Type 0) → ℕ → Type 0
roomy R more = unless (R.clock.free ≡ no_slot → ⊥) 10 (unless (R.clock.serial ≡ 2 ^ 64 - 1 → ⊥) 11 more)

-- 12 "handle's slot absent, sentinel or free, or its serial another": there is such a slot, it is no sentinel, it is
-- armed, and its serial is n
pub record Live (R : Records) (x n : ℕ) : Type 0 where
  pub slot : x < R.clock.nodes
  pub after : buckets wheel01 ≤ x
  pub armed : home_of R.nodes.links x < buckets wheel01
  pub serial : get_or R.nodes.serial x 0 ≡ n

-- 13 "generation is not the one at arming"
abbrev pub handled : Records → ℕ → ℕ → ℕ → (ℕ → Type 0) → ℕ → Type 0
handled R x n h more = closed R (unless (Live R x n) 12 (unless (get_or R.nodes.generation x 0 ≡ h) 13 more))

-- 3 "lent lengths outside the range, at enabling": 166 to 4,096 node records, 1 to 4,096 entries in parallel slices of
-- one length, and 165 heads and tails
pub record LendableAround (heads tails nodes dated deadline stamp : ℕ) : Type 0 where
  pub ranges : Ranges (buckets wheel01) nodes dated
  pub ends : EndsLengths (buckets wheel01) heads tails
  pub entries : EntriesLengths dated dated deadline stamp

-- and the node records in parallel slices of one length
pub record Lendable (R : Records) : Type 0 where
  pub around :
      LendableAround (length R.nodes.links.heads) (length R.nodes.links.tails) (length R.nodes.links.next) (length R.entries.dated)
      (length R.entries.deadline) (length R.entries.generation)
  pub nodes :
      NodesLengths (length R.nodes.links.next) (length R.nodes.links.next) (length R.nodes.links.prev) (length R.nodes.links.home)
      (length R.nodes.entry) (length R.nodes.generation) (length R.nodes.serial)

-- 2 "enabled already"; 3 where what is lent is not so
abbrev pub making : Bool → Type 0 → (ℕ → Type 0) → ℕ → Type 0
making enabled lendable more = unless (enabled ≡ false) 2 (unless lendable 3 more)

-- ---- the rows of each call: the rules' rows, with these tests of the records
abbrev pub tests_on : Records → Tests (Type 0)
tests_on R = record {
  enabled = R.clock.enabled ≡ true;
  off = R.clock.enabled ≡ false;
  lendable = λ m k fits. Lendable R;
  sound = SoundRecords wheel01 R;
  quiet = R.clock.open ≡ false;
  busy = R.clock.open ≡ true;
  entry = λ e. e < R.clock.entries;
  generation = λ e h. get_or R.entries.generation e 0 ≡ h;
  dated = λ e. get_or R.entries.dated e false ≡ true;
  room = R.clock.free ≡ no_slot → ⊥;
  serial = R.clock.serial ≡ 2 ^ 64 - 1 → ⊥;
  live = λ x n. Live R x n;
  arming = λ x h. get_or R.nodes.generation x 0 ≡ h;
}

-- k is the number that the call is refused with, or 0
abbrev pub rows_on : Records → Call → ℕ → Type 0
rows_on R c = given (rows (tests_on R) c)

abbrev pub enable_rows : Records → ℕ → Type 0
enable_rows R = rows_on R (enable 0 0 true)

abbrev pub set_rows : Records → ℕ → ℕ → Type 0
set_rows R e = rows_on R (set_entry e nothing 0)

abbrev pub schedule_rows : Records → ℕ → ℕ → ℕ → Type 0
schedule_rows R e h = rows_on R (schedule e h)

-- reschedule, deschedule
abbrev pub handle_rows : Records → ℕ → ℕ → ℕ → ℕ → Type 0
handle_rows R x n h = rows_on R (reschedule x n h)

-- start, next due
abbrev pub closed_rows : Records → ℕ → Type 0
closed_rows R = rows_on R next_due

-- pull, abandon
abbrev pub open_rows : Records → ℕ → Type 0
open_rows R = rows_on R pull

-- armed count
abbrev pub count_rows : Records → ℕ → Type 0
count_rows R = rows_on R armed_count

-- ---- r is the number that the rows give
pub record RefusesEnable (R : Records) (r : ℕ) : Type 0 where
  pub by : enable_rows R r

-- enable's number over lent nodes, which are of one length by what they are: by numbers alone
pub record RefusesAround (enabled : Bool) (heads tails nodes dated deadline stamp r : ℕ) : Type 0 where
  pub by : making enabled (LendableAround heads tails nodes dated deadline stamp) not_refused r

pub record RefusesSet (R : Records) (e r : ℕ) : Type 0 where
  pub by : set_rows R e r

-- a serial of 64 bits is the last one, or below it
pub record IsLast (serial : ℕ) (r : Bool) : Type 0 where
  pub is : r ≡ true → serial ≡ 2 ^ 64 - 1
  pub below : r ≡ false → serial < 2 ^ 64 - 1

pub record RefusesSchedule (R : Records) (e h r : ℕ) : Type 0 where
  pub by : schedule_rows R e h r
  -- not refused: there is a serial to give, and one after it
  pub few : r ≡ 0 → R.clock.serial < 2 ^ 64 - 1

pub record RefusesHandle (R : Records) (x n h r : ℕ) : Type 0 where
  pub by : handle_rows R x n h r

pub record RefusesClosed (R : Records) (r : ℕ) : Type 0 where
  pub by : closed_rows R r

pub record RefusesOpen (R : Records) (r : ℕ) : Type 0 where
  pub by : open_rows R r

pub record RefusesCount (R : Records) (r : ℕ) : Type 0 where
  pub by : count_rows R r
