-- How often a slot stands in a list, by whether it stands there and whether any slot stands there twice.
use Prim.Native.Nat.{ℕ, ◌+◌, ◌<◌}
use native.Mathlib.Omega.{arith}
use mathlib.Core.Path.{◌≡◌, refl, subst}
use mathlib.Core.Logic.{inl, inr, ⊎_elim}
use mathlib.Core.List.{List, [], ◌∷◌, ◌++◌}
use Rattle.numbers.specs.Shared.{In, Once}
use Rattle.rules.specs.Wheel.{hit, count}
use Rattle.numbers.proofs.Cases.{same?}
use Rattle.rules.proofs.Counting.{hit_is, hit_not, count_app}

pub count_none : (x : ℕ) (xs : List ℕ) → (In x xs → ⊥) → count x xs ≡ 0
count_none x [] n = refl
count_none x (y ∷ ys) n = omega (arith, hit_not x y (λ e. n (inl e)), count_none x ys (λ m. n (inr m)))

pub count_once : (x : ℕ) (xs : List ℕ) → Once xs → In x xs → count x xs ≡ 1
count_once x (y ∷ ys) o (inl e) =
    omega (arith, hit_is x y e, count_none x ys (λ m. o.0 (subst (λ (z : ℕ). In z ys) e m)))
count_once x (y ∷ ys) o (inr m) =
    omega (arith, hit_not x y (λ e. o.0 (subst (λ (z : ℕ). In z ys) e m)), count_once x ys o.1 m)
count_once x [] o x3 = elim x3 [ ]

pub count_in : (x : ℕ) (xs : List ℕ) → 0 < count x xs → In x xs
count_in x [] h = absurd (omega arith)
count_in x (y ∷ ys) h =
    ⊎_elim (λ e. inl e) (λ (n : x ≡ y → ⊥). inr (count_in x ys (omega (arith, h, hit_not x y n)))) (same? x y)

-- of a list parted at z
pub count_parted : (x z : ℕ) (us ws : List ℕ) → count x (us ++ (z ∷ ws)) ≡ (count x us + count x ws) + hit x z
count_parted x z us ws = omega (arith, count_app x us (z ∷ ws))
