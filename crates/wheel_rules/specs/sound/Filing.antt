-- inner: slots filed by their serials: what the test that armed serials differ keeps in its two scratch arrays.
-- `latest` has, for each remainder of a serial by 4,096, the latest slot filed under it, and `before` has, for each
-- slot filed, the one filed before it under the same remainder. 0 is the end: slot 0 is a sentinel, so it is never
-- armed.
use Rattle.std.specs.Prelude.{ℕ, ◌+◌, ◌%◌, ◌≤◌, ◌<◌, Bool, true, false, List, ◌≡◌, length, get_or}
use Rattle.wheel_rules.specs.Lent.{Armed, SerialsDiffer}

-- from the slot y on, back to 0, the slot z is come by
pub data Leads (before : List ℕ) : ℕ → ℕ → Type 0 where
  here : {y : ℕ} → 0 < y → Leads before y y
  back : {y z : ℕ} → 0 < y → Leads before (get_or before y 0) z → Leads before y z

-- the slices have one length, and no more slots than there are numbers in the scratch arrays
pub record Sized (bucket serial : List ℕ) : Type 0 where
  pub same : length serial ≡ length bucket
  pub few : length bucket ≤ 4096

-- the slot filed before a slot is an earlier one
pub record Earlier (before : List ℕ) : Type 0 where
  pub lent : length before ≡ 4096
  pub each : (y : ℕ) → 0 < y → get_or before y 0 < y

-- what the way back from the slot y needs
pub record Walkable (before serial : List ℕ) (y : ℕ) : Type 0 where
  pub earlier : Earlier before
  pub few : length serial ≤ 4096
  pub lent : y < length serial

-- a slot with the wanted serial is come by from y on
pub record Met (before serial : List ℕ) (y wanted : ℕ) : Type 0 where
  pub slot : ℕ
  pub leads : Leads before y slot
  pub is : get_or serial slot 0 ≡ wanted

-- the armed slots below x have been filed, each under its serial's remainder, and no two of them have one serial
pub record Filed (total : ℕ) (bucket serial latest before : List ℕ) (x : ℕ) : Type 0 where
  pub latest_lent : length latest ≡ 4096
  pub earlier : Earlier before
  pub low : (k : ℕ) → 0 < get_or latest k 0 → get_or latest k 0 < x
  pub filed : (z : ℕ) → Armed total bucket z → z < x → Leads before (get_or latest (get_or serial z 0 % 4096) 0) z
  pub real : (k z : ℕ) → Leads before (get_or latest k 0) z → Armed total bucket z × (z < x)
  pub differ : (y z : ℕ) → Armed total bucket y → Armed total bucket z → y < x → z < x → get_or serial y 0 ≡ get_or serial z 0 → y ≡ z

pub record Fileable (total : ℕ) (bucket serial latest before : List ℕ) (x : ℕ) : Type 0 where
  pub sized : Sized bucket serial
  pub so_far : Filed total bucket serial latest before x
  pub beyond : total ≤ x
  pub lent : x < length bucket

-- x has been filed too, or there is a slot with its serial
pub record Files (total : ℕ) (bucket serial latest before : List ℕ) (x : ℕ) (r : Bool) : Type 0 where
  pub filed : r ≡ true → Filed total bucket serial latest before (x + 1)
  pub twice : r ≡ false → SerialsDiffer total bucket serial → ⊥
