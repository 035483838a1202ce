-- inner: arming, disarming, rearming on sound records: what is asked, and what is done to the records and to the wheel
-- that they show.
use Rattle.std.specs.Prelude.{ℕ, ◌-◌, ◌^◌, ◌≤◌, ◌<◌, List, ◌≡◌, length, get_or}
use Rattle.std.proofs.Math.Option.{some}
use Rattle.deque_rules.specs.Links.{Links, home_of, move_back}
use Rattle.rules.specs.Calls.{act}
use Rattle.rules.specs.Places.{Geometry, bucket_of}
use Rattle.rules.specs.Sound.{Sound}
use Rattle.rules.specs.Wheel.{Wheel, schedule, reschedule, deschedule, handle, ok}
use Rattle.wheel_rules.specs.Lent.{Nodes, Entries, Records, records, Shows}
use Rattle.wheel_rules.specs.declared.calls.Clock.{Clock}
use Rattle.wheel_rules.specs.declared.calls.After.{After}
use Rattle.wheel_rules.specs.declared.calls.Handle.{Handle}
use Rattle.wheel_rules.specs.records.Clocks.{counted, set_free}
use Rattle.wheel_rules.specs.records.Records.{join}
use Rattle.wheel_rules.specs.timers.Change.{armed_in, freed_from}

-- the records show some sound wheel
pub record Ready (g : Geometry) (R : Records) : Type 0 where
  pub w : Wheel
  pub shows : Shows g R w
  pub sound : Sound g w

-- ---- what is asked
-- a slot is free, and the next serial is not the last number
pub record ArmReady (g : Geometry) (N : Nodes) (c : Clock) : Type 0 where
  pub E : Entries
  pub ready : Ready g (records N E c)
  pub slot : c.free < length N.links.next
  pub few : c.serial < 2 ^ 64 - 1

-- the slot x is armed
pub record SlotReady (g : Geometry) (N : Nodes) (c : Clock) (x : ℕ) : Type 0 where
  pub E : Entries
  pub ready : Ready g (records N E c)
  pub after : length N.links.heads ≤ x
  pub slot : x < length N.links.next
  pub armed : home_of N.links x < length N.links.heads

-- the same for who holds the links alone; r is the reading
pub record MoveReady (g : Geometry) (a : Links) (r x : ℕ) : Type 0 where
  pub e : List ℕ
  pub h : List ℕ
  pub n : List ℕ
  pub c : Clock
  pub at : c.reading ≡ r
  pub ready : SlotReady g (join a e h n) c x

-- ---- what is done
-- "puts a new node at the back of its bucket, answers its handle": for the entry e, with its generation h and its
-- deadline d
pub record Arms (g : Geometry) (N : Nodes) (c : Clock) (N' : Nodes) (r : After Handle) (e h d : ℕ) : Type 0 where
  pub is : N' ≡ armed_in (bucket_of g c.reading d) c.free e h c.serial N
  pub clock_is : r.clock ≡ counted (get_or N.links.next c.free 0) c
  pub slot_is : r.answer.slot ≡ c.free
  pub serial_is : r.answer.serial ≡ c.serial
  pub does :
      (E : Entries) (w : Wheel) → Shows g (records N E c) w → Sound g w → (w.entry e).deadline ≡ some d →
      ((act g w (schedule e h)).0 ≡ handle r.answer.slot r.answer.serial) × Shows g (records N' E r.clock) (act g w (schedule e h)).1

-- "unlinks and frees"
pub record Disarms (g : Geometry) (N : Nodes) (c : Clock) (N' : Nodes) (c' : Clock) (x : ℕ) : Type 0 where
  pub is : N' ≡ freed_from x c.free N
  pub clock_is : c' ≡ set_free x c
  pub does :
      (E : Entries) (w : Wheel) → Shows g (records N E c) w → Sound g w → (n h : ℕ) → Shows g (records N' E c') (act g w (deschedule x n h)).1

-- "unlinks, places by the deadline now held, at the back": at the reading r, with the deadline d
pub record Rearms (g : Geometry) (a a' : Links) (r x d : ℕ) : Type 0 where
  pub is : a' ≡ move_back a (bucket_of g r d) x
  pub does :
      (pe ph pn : List ℕ) (E : Entries) (c : Clock) (w : Wheel) → Shows g (records (join a pe ph pn) E c) w → Sound g w → c.reading ≡ r →
      (w.entry (w.lists.node x).entry).deadline ≡ some d → (n h : ℕ) →
      ((act g w (reschedule x n h)).0 ≡ ok) × Shows g (records (join a' pe ph pn) E c) (act g w (reschedule x n h)).1
