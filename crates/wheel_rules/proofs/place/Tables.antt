-- The numbers of src/levels.rt: what holds at a level and from the last on, their bounds, and what follows for
-- placement.
use Prim.Native.Nat.{ℕ, zero, suc, ◌-◌, ◌/◌, ◌^◌, ◌≤◌, ◌<◌}
use native.Mathlib.Nat.{mod-lt}
use native.Mathlib.Omega.{arith}
use mathlib.Core.Path.{◌≡◌, refl, sym, ap, ◌∙◌}
use lib.Pow.{pow_pos}
use lib.Bits.{bit_and, and_mask}
use Rattle.rules.specs.Places.{tick}
use Rattle.wheel_rules.specs.place.Levels.{shift01, size01, first01, index_at}

-- what f is at a level
pub at_level : (f : ℕ → ℕ) (v k : ℕ) → v ≡ f k → (l : ℕ) → l ≡ k → v ≡ f l
at_level f v k e l i = e ∙ ap f (sym i)

-- what stays the same from level 4 on is what it is at any level that is none of the first four
pub from_last : (f : ℕ → ℕ) (v : ℕ) → ((m : ℕ) → v ≡ f (suc (suc (suc (suc m))))) →
    (l : ℕ) → (l ≡ 0 → ⊥) → (l ≡ 1 → ⊥) → (l ≡ 2 → ⊥) → (l ≡ 3 → ⊥) → v ≡ f l
from_last f v same zero a b c d = absurd (a refl)
from_last f v same (suc zero) a b c d = absurd (b refl)
from_last f v same (suc (suc zero)) a b c d = absurd (c refl)
from_last f v same (suc (suc (suc zero))) a b c d = absurd (d refl)
from_last f v same (suc (suc (suc (suc m)))) a b c d = same m

-- ---- bounds
pub shift_below : (l : ℕ) → shift01 l < 64
shift_below zero = omega arith
shift_below (suc zero) = omega arith
shift_below (suc (suc zero)) = omega arith
shift_below (suc (suc (suc zero))) = omega arith
shift_below (suc (suc (suc (suc m)))) = omega arith

pub first_below : (l : ℕ) → first01 l ≤ 164
first_below zero = omega arith
first_below (suc zero) = omega arith
first_below (suc (suc zero)) = omega arith
first_below (suc (suc (suc zero))) = omega arith
first_below (suc (suc (suc (suc m)))) = omega arith

pub count_most : (l : ℕ) → 2 ^ size01 l ≤ 64
count_most zero = omega arith
count_most (suc zero) = omega arith
count_most (suc (suc zero)) = omega arith
count_most (suc (suc (suc zero))) = omega arith
count_most (suc (suc (suc (suc m)))) = omega arith

pub count_some : (l : ℕ) → 0 < 2 ^ size01 l
count_some l = pow_pos (size01 l)

pub index_below : (l t : ℕ) → index_at l t < 64
index_below l t = omega (arith, mod-lt (tick (shift01 l) t) (pow_pos (size01 l)), count_most l)

-- a mask of one less than the bucket count takes the tick modulo the count
pub masked : (l t : ℕ) → bit_and (t / 2 ^ shift01 l) (2 ^ size01 l - 1) ≡ index_at l t
unfolding tick
masked l t = and_mask (t / 2 ^ shift01 l) (size01 l)
