-- inner: armed count and next due, on the records.
use Rattle.std.specs.Prelude.{ℕ, zero, suc, ◌+◌, ◌≤◌, ◌<◌, Bool, false, cond, List, ◌≡◌, leb, ltb, length, get_or, Option}
use Rattle.std.proofs.Math.Option.{Option as Maybe, none, some}
use Rattle.rules.specs.Calls.{sooner, act}
use Rattle.rules.specs.Places.{Geometry}
use Rattle.rules.specs.Sound.{Sound}
use Rattle.rules.specs.Wheel.{Wheel, armed_count, next_due, number, due}
use Rattle.wheel_rules.specs.Promise.{due_told}
use Rattle.wheel_rules.specs.Lent.{nodes, Entries, entries, records, Shows}
use Rattle.wheel_rules.specs.declared.calls.Clock.{Clock}

-- how many of the slots from the total D on and below k are armed
abbrev pub armed_among : ℕ → List ℕ → ℕ → ℕ
armed_among D bucket zero = 0
armed_among D bucket (suc k) = cond (leb D k) (cond (ltb (get_or bucket k 0) D) 1 0) 0 + armed_among D bucket k

-- 1 where the bucket is one of the total, else 0
pub record IsOne (total bucket r : ℕ) : Type 0 where
  pub is : r ≡ cond (ltb bucket total) 1 0
  pub few : r ≤ 1

-- armed count: the number of armed slots
pub record Counts (g : Geometry) (heads bucket : List ℕ) (r : ℕ) : Type 0 where
  pub is : r ≡ armed_among (length heads) bucket (length bucket)
  pub does :
      (t n p e h s : List ℕ) (E : Entries) (c : Clock) (w : Wheel) → Shows g (records (nodes heads t n p bucket e h s) E c) w → Sound g w →
      (act g w armed_count).0 ≡ number r

-- ---- next due
-- the key of the slot x: the deadline that its entry holds, where it is armed
abbrev pub key_at : ℕ → List ℕ → List ℕ → List Bool → List ℕ → ℕ → Maybe ℕ
key_at D bucket entry t d x =
    cond (ltb (get_or bucket x 0) D) (cond (get_or t (get_or entry x 0) false) (some (get_or d (get_or entry x 0) 0)) none) none

-- the least key of the slots from the total D on and below k
abbrev pub least_among : ℕ → List ℕ → List ℕ → List Bool → List ℕ → ℕ → Maybe ℕ
least_among D bucket entry t d zero = none
least_among D bucket entry t d (suc k) =
    sooner (cond (leb D k) (key_at D bucket entry t d k) none) (least_among D bucket entry t d k)

-- the entry of the slot x exists, where x is armed
pub record KeyReady (D : ℕ) (bucket entry : List ℕ) (t : List Bool) (d : List ℕ) (x : ℕ) : Type 0 where
  pub slot : x < length bucket
  pub known : x < length entry
  pub dated : get_or bucket x 0 < D → get_or entry x 0 < length t
  pub deadline : get_or bucket x 0 < D → get_or entry x 0 < length d

-- the same of all slots from the total on
pub record DueReady (heads bucket entry : List ℕ) (t : List Bool) (d : List ℕ) : Type 0 where
  pub entry_len : length entry ≡ length bucket
  pub room : length heads ≤ length bucket
  pub dated : (x : ℕ) → length heads ≤ x → x < length bucket → get_or bucket x 0 < length heads → get_or entry x 0 < length t
  pub deadline : (x : ℕ) → length heads ≤ x → x < length bucket → get_or bucket x 0 < length heads → get_or entry x 0 < length d

pub record FindsKey (D : ℕ) (bucket entry : List ℕ) (t : List Bool) (d : List ℕ) (x : ℕ) (r : Option ℕ) : Type 0 where
  pub is : due_told r ≡ key_at D bucket entry t d x

pub record Sooner (a b r : Option ℕ) : Type 0 where
  pub is : due_told r ≡ sooner (due_told a) (due_told b)

-- "the smallest deadline among armed timers, or none"
pub record FindsDue (g : Geometry) (heads bucket entry : List ℕ) (t : List Bool) (d : List ℕ) (r : Option ℕ) : Type 0 where
  pub is : due_told r ≡ least_among (length heads) bucket entry t d (length bucket)
  pub does :
      (tl n p h s ge : List ℕ) (c : Clock) (w : Wheel) → Shows g (records (nodes heads tl n p bucket entry h s) (entries t d ge) c) w → Sound g w →
      (act g w next_due).0 ≡ due (due_told r)
