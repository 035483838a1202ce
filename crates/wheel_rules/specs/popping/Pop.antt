-- inner: a pull's turn that pops a node, on the records, and what all turns share: their form, the node that waits, the
-- next position, the turns that are left. 01, "Calls", the paragraph on the advance.
use Rattle.std.specs.Prelude.{ℕ, suc, ◌+◌, ◌-◌, ◌<◌, Bool, true, false, cond, List, ◌≡◌, eqb, leb, length, get_or, Option, Some, None, is_none, unwrap_or}
use Rattle.numbers.specs.Shared.{no_slot}
use Rattle.rules.specs.Calls.{act}
use Rattle.rules.specs.Places.{Geometry, buckets, bucket_of, place_of, bucket_at, ahead}
use Rattle.rules.specs.Sound.{Sound}
use Rattle.rules.specs.Wheel.{Wheel, pull}
use Rattle.wheel_rules.specs.Promise.{told}
use Rattle.wheel_rules.specs.Lent.{Nodes, entries, Records, records, Shows}
use Rattle.wheel_rules.specs.declared.calls.Event.{Event}
use Rattle.wheel_rules.specs.declared.calls.Event.TheVariants.{Expired, Rescheduled, End}
use Rattle.wheel_rules.specs.declared.popping.Position.{Position}
use Rattle.wheel_rules.specs.declared.popping.Turn.{Turn}
use Rattle.wheel_rules.specs.declared.calls.Clock.{Clock}
use Rattle.wheel_rules.specs.popping.Position.{onward}
use Rattle.wheel_rules.specs.records.Clocks.{set_free}
use Rattle.wheel_rules.specs.records.Counts.{armed_among}
use Rattle.wheel_rules.specs.timers.Change.{freed_from, moved_to}
use Rattle.wheel_rules.specs.timers.Timers.{Ready}

-- ---- the turns
abbrev pub goes : Clock → Turn
goes c = record { clock = c; event = None }

abbrev pub stops : Clock → Event → Turn
stops c a = record { clock = c; event = Some a }

-- whether the pull goes on after it
abbrev pub going : Turn → Bool
going r = is_none r.event

-- the pull's answer; End where it goes on
abbrev pub event_of : Turn → Event
event_of r = unwrap_or r.event End

-- the bucket that the advance stands in
abbrev pub stands_in : Geometry → Clock → ℕ
stands_in g c = bucket_at g c.previous c.level (c.step - 1)

-- the first node before its sentinel, or none; before the first bucket none
abbrev pub waiting_at : Geometry → List ℕ → Clock → ℕ
waiting_at g heads c =
    cond (eqb c.step 0) no_slot
    (cond (eqb (get_or heads (stands_in g c) 0) (stands_in g c)) no_slot (get_or heads (stands_in g c) 0))

-- where the visit goes on
abbrev pub next_position : Geometry → Clock → Option Position
next_position g c = onward g c.previous c.reading c.level c.step

-- "nodes before the sentinel are popped in turn. No deadline: slot freed, no event. Deadline at most q: freed,
-- Expired(entry, serial, deadline). Otherwise placed anew with reading q, at the back: Rescheduled(entry, serial, new
-- place)"
abbrev pub pop_nodes : Geometry → Nodes → List Bool → List ℕ → Clock → ℕ → Nodes
pop_nodes g N t d c x =
    let e : ℕ = get_or N.entry x 0 in
    cond (get_or t e false)
    (cond (leb (get_or d e 0) c.reading) (freed_from x c.free N) (moved_to (bucket_of g c.reading (get_or d e 0)) x N))
    (freed_from x c.free N)

abbrev pub pop_turn : Geometry → Nodes → List Bool → List ℕ → Clock → ℕ → Turn
pop_turn g N t d c x =
    let e : ℕ = get_or N.entry x 0 in
    let n : ℕ = get_or N.serial x 0 in
    cond (get_or t e false)
    (cond (leb (get_or d e 0) c.reading) (stops (set_free x c) (Expired e n (get_or d e 0))) (stops c (Rescheduled e n (place_of g c.reading (get_or d e 0)))))
    (goes (set_free x c))

-- how many turns there can be: one for each bucket ahead and each armed slot
abbrev pub left : Geometry → List ℕ → Clock → ℕ
left g bucket c =
    length (ahead g c.previous c.reading c.level c.step) + armed_among (buckets g) bucket (length bucket)

-- ---- what is asked
-- the records show a sound wheel with an open advance
pub record TurnReady (g : Geometry) (N : Nodes) (t : List Bool) (d : List ℕ) (c : Clock) : Type 0 where
  pub ages : List ℕ
  pub ready : Ready g (records N (entries t d ages) c)
  pub opened : c.open ≡ true

-- the node x waits
pub record PopReady (g : Geometry) (N : Nodes) (t : List Bool) (d : List ℕ) (c : Clock) (x : ℕ) : Type 0 where
  pub turn : TurnReady g N t d c
  pub front : x ≡ waiting_at g N.links.heads c
  pub slot : x < length N.links.next

-- ---- what is done
-- a turn that goes on leaves one turn fewer, and the advance open
pub record Nears (g : Geometry) (c : Clock) (bucket bucket' : List ℕ) (r : Turn) : Type 0 where
  pub less : going r ≡ true → left g bucket c ≡ suc (left g bucket' r.clock)
  pub opened : going r ≡ true → r.clock.open ≡ true

-- where the pull goes on, the rest of it is the same pull; else the wheel is that after it
pub record Outcome (g : Geometry) (R : Records) (r : Turn) (w : Wheel) : Type 0 where
  pub on : going r ≡ true → (v : Wheel) × Shows g R v × Sound g v × (act g v pull ≡ act g w pull)
  pub stop : going r ≡ false → ((act g w pull).0 ≡ told (event_of r)) × Shows g R (act g w pull).1

pub record Pops (g : Geometry) (N : Nodes) (t : List Bool) (d : List ℕ) (c : Clock) (x : ℕ) (N' : Nodes) (r : Turn) : Type 0 where
  pub is : N' ≡ pop_nodes g N t d c x
  pub turn_is : r ≡ pop_turn g N t d c x
  pub nears : Nears g c N.links.home N'.links.home r
  pub does :
      (ages : List ℕ) (w : Wheel) → Shows g (records N (entries t d ages) c) w → Sound g w →
      Outcome g (records N' (entries t d ages) r.clock) r w
