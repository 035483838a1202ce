-- inner: the buckets that an advance passes over: those of its level that hold their sentinel alone.
use Rattle.std.specs.Prelude.{ℕ, ◌+◌, ◌≤◌, ◌<◌, Bool, true, false, cond, List, ◌≡◌, eqb, leb, length, get_or}
use Rattle.numbers.specs.Shared.{no_slot}
use Rattle.rules.specs.Places.{Geometry, buckets, visited_at, bucket_at}
use Rattle.wheel_rules.specs.declared.calls.Clock.{Clock}
use Rattle.wheel_rules.specs.popping.Pop.{waiting_at}
use Rattle.wheel_rules.specs.records.Clocks.{standing}

-- the sentinel of the bucket b is the first of its list, and none comes after it
abbrev pub alone_in : List ℕ → List ℕ → ℕ → Bool
alone_in heads next b = cond (eqb (get_or heads b 0) b) (leb (length next) (get_or next b 0)) false

-- the bucket that the advance enters next on its level
abbrev pub comes_next : Geometry → Clock → ℕ
comes_next g c = bucket_at g c.previous c.level c.step

-- the advance stands in it
abbrev pub one_on : Clock → Clock
one_on c = standing c.level (c.step + 1) c

-- ---- what is asked
-- the bucket b has a head, and its sentinel a record
pub record Lent (heads next : List ℕ) (b : ℕ) : Type 0 where
  pub head : b < length heads
  pub slot : b < length next

-- so has each bucket
pub record PassReady (g : Geometry) (heads next : List ℕ) : Type 0 where
  pub total : length heads ≡ buckets g
  pub room : buckets g ≤ length next
  pub small : length next ≤ no_slot

-- and no node waits
pub record IdleReady (g : Geometry) (heads next : List ℕ) (c : Clock) : Type 0 where
  pub lent : PassReady g heads next
  pub idle : length next ≤ waiting_at g heads c

-- ---- what is done
pub record TellsAlone (heads next : List ℕ) (b : ℕ) (r : Bool) : Type 0 where
  pub is : r ≡ alone_in heads next b

-- no node waits, and the level has a next bucket, which holds its sentinel alone
pub record Passable (g : Geometry) (heads next : List ℕ) (c : Clock) : Type 0 where
  pub idle : length next ≤ waiting_at g heads c
  pub more : c.step < visited_at g c.previous c.reading c.level
  pub alone : alone_in heads next (comes_next g c) ≡ true

-- one such bucket after another is entered
pub data Passes (g : Geometry) (heads next : List ℕ) : Clock → Clock → Type 0 where
  stays : {c : Clock} → Passes g heads next c c
  over : {c r : Clock} → Passable g heads next c → Passes g heads next (one_on c) r → Passes g heads next c r
