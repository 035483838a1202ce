-- inner: the turns of a pull, on the records: 01, "Calls", the paragraph on the advance.
use Rattle.std.specs.Prelude.{ℕ, ◌-◌, ◌≤◌, Bool, cond, List, ◌≡◌, ltb, length, Option}
use Rattle.deque_rules.specs.Change.{turn_to}
use Rattle.deque_rules.specs.Links.{Links}
use Rattle.rules.specs.Places.{Geometry, buckets, bucket_at}
use Rattle.rules.specs.Sound.{Sound}
use Rattle.rules.specs.Wheel.{Wheel}
use Rattle.wheel_rules.specs.Lent.{Nodes, Entries, entries, records, Shows}
use Rattle.wheel_rules.specs.declared.popping.Position.{Position}
use Rattle.wheel_rules.specs.declared.calls.Event.TheVariants.{End}
use Rattle.wheel_rules.specs.declared.popping.Turn.{Turn}
use Rattle.wheel_rules.specs.declared.calls.Clock.{Clock}
use Rattle.wheel_rules.specs.popping.Pop.{goes, stops, waiting_at, next_position, pop_nodes, pop_turn, TurnReady, Nears, Outcome}
use Rattle.wheel_rules.specs.popping.Position.{more, level_of, step_of}
use Rattle.wheel_rules.specs.records.Clocks.{standing, ended}
use Rattle.wheel_rules.specs.records.Records.{join, with_links}

-- ---- the turns
-- "On entering a bucket, nodes go front to back until the sentinel is last"
abbrev pub on_links : Geometry → Links → Clock → Links
on_links g a c =
    let r : Option Position = next_position g c in
    let b : ℕ = bucket_at g c.previous (level_of r) ((step_of r) - 1) in
    cond (more r) (turn_to a b b) a

abbrev pub on_turn : Geometry → Clock → Turn
on_turn g c =
    let r : Option Position = next_position g c in
    cond (more r) (goes (standing (level_of r) (step_of r) c)) (stops (ended c) End)

-- one turn
abbrev pub turn_nodes : Geometry → Nodes → List Bool → List ℕ → Clock → Nodes
turn_nodes g N t d c =
    let x : ℕ = waiting_at g N.links.heads c in
    cond (ltb x (length N.links.next)) (pop_nodes g N t d c x) (with_links (on_links g N.links c) N)

abbrev pub turn_turn : Geometry → Nodes → List Bool → List ℕ → Clock → Turn
turn_turn g N t d c =
    let x : ℕ = waiting_at g N.links.heads c in
    cond (ltb x (length N.links.next)) (pop_turn g N t d c x) (on_turn g c)

-- ---- what is asked
-- the bucket that an advance stands in has a head
pub record WaitReady (g : Geometry) (heads : List ℕ) : Type 0 where
  pub total : length heads ≡ buckets g

-- no node waits before the sentinel
pub record OnReady (g : Geometry) (a : Links) (c : Clock) : Type 0 where
  pub e : List ℕ
  pub h : List ℕ
  pub n : List ℕ
  pub t : List Bool
  pub d : List ℕ
  pub turn : TurnReady g (join a e h n) t d c
  pub front : length a.next ≤ waiting_at g a.heads c

-- ---- what is done
pub record Waits (g : Geometry) (heads : List ℕ) (c : Clock) (r : ℕ) : Type 0 where
  pub is : r ≡ waiting_at g heads c

pub record GoesOn (g : Geometry) (a : Links) (c : Clock) (a' : Links) (r : Turn) : Type 0 where
  pub is : a' ≡ on_links g a c
  pub turn_is : r ≡ on_turn g c
  pub nears : Nears g c a.home a'.home r
  pub does :
      (e h n : List ℕ) (E : Entries) (w : Wheel) → Shows g (records (join a e h n) E c) w → Sound g w →
      Outcome g (records (join a' e h n) E r.clock) r w

pub record Turned (g : Geometry) (N : Nodes) (t : List Bool) (d : List ℕ) (c : Clock) (N' : Nodes) (r : Turn) : Type 0 where
  pub is : N' ≡ turn_nodes g N t d c
  pub turn_is : r ≡ turn_turn g N t d c
  pub nears : Nears g c N.links.home N'.links.home r
  pub does :
      (ages : List ℕ) (w : Wheel) → Shows g (records N (entries t d ages) c) w → Sound g w →
      Outcome g (records N' (entries t d ages) r.clock) r w
