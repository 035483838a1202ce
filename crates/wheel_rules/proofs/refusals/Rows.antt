-- Rows of refusals, one stage after the other.
use Prim.Native.Nat.{ℕ}
use native.Mathlib.Omega.{arith}
use mathlib.Core.Path.{◌≡◌}
use mathlib.Core.Logic.{◌⊎◌, ⊎_elim}
use mathlib.Core.Bool.{true, false}
use Rattle.rules.specs.Places.{wheel01}
use Rattle.wheel_rules.specs.Lent.{Records, SoundRecords}
use Rattle.numbers.specs.Shared.{unless}
use Rattle.wheel_rules.specs.refusals.Refuse.{standing, closed}

-- ---- one row
-- a number that is not the row's: its condition holds, and the rows after it decide
pub past : {A B : Type 0} (k r : ℕ) → ((A → ⊥) × (r ≡ k)) ⊎ (A × B) → (r ≡ k → ⊥) → A × B
past k r u n = ⊎_elim (λ w. absurd (n w.1)) (λ w. w) u

-- ---- the stages
module _ (R : Records) (more : ℕ → Type 0) (r : ℕ) where
  -- not refused: what each stage has shown
  pub standing_past : standing R more r → r ≡ 0 → (R.clock.enabled ≡ true) × SoundRecords wheel01 R × more r
  standing_past f z =
      let u = past 1 r f (λ i. omega (arith, z, i)) in
      let v = past 4 r u.1 (λ i. omega (arith, z, i)) in
      (u.0, v.0, v.1)

module _ (R : Records) (more : ℕ → Type 0) (r : ℕ) where
  pub closed_past : closed R more r → r ≡ 0 → (R.clock.enabled ≡ true) × SoundRecords wheel01 R × (R.clock.open ≡ false) × more r
  closed_past f z =
      let u = standing_past R (unless (R.clock.open ≡ false) 5 more) r f z in
      let v = past 5 r u.2 (λ i. omega (arith, z, i)) in
      (u.0, u.1, v.0, v.1)
