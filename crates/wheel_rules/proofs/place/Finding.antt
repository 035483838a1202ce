-- The place at a level is the deadline's place where that level is the lowest that fits.
use Prim.Native.Nat.{ℕ, zero, suc, ◌+◌, ◌-◌, ◌*◌, ◌^◌, ◌≤◌, ◌<◌, min}
use native.Mathlib.Omega.{arith}
use mathlib.Core.Path.{◌≡◌, refl, sym, ap, ◌∙◌}
use Rattle.rules.specs.Places.{wheel01, dense, spaced, first_of}
use Rattle.rules.proofs.Placing.{lowest_is}
use Rattle.wheel_rules.specs.declared.place.Place.{Place}
use Rattle.wheel_rules.specs.place.Levels.{shift01, index_at, place_at}
use Rattle.wheel_rules.specs.place.Promises.{Found}

-- 64 numbers to a level
by_64 : (l : ℕ) → min l 4 * 64 ≡ first_of spaced 0 wheel01.sizes l
by_64 zero = refl
by_64 (suc zero) = refl
by_64 (suc (suc zero)) = refl
by_64 (suc (suc (suc zero))) = refl
by_64 (suc (suc (suc (suc m)))) = omega arith

pub found_at : (l r d : ℕ) (p : Place) → l ≤ 4 → (0 < l → 2 ^ shift01 l ≤ d - r) → (l < 4 → d - r < 2 ^ shift01 (suc l)) → p ≡ place_at l d → Found r d p
found_at l r d p h low high e =
    record {
      bucket = ap (λ (q : Place). q.bucket) e ∙ sym (lowest_is dense wheel01.shift wheel01.sizes 0 r d l h low high);
      number = ap (λ (q : Place). q.number) e ∙ ap (λ (n : ℕ). n + index_at l d) (by_64 l) ∙ sym
          (lowest_is spaced wheel01.shift wheel01.sizes 0 r d l h low high);
    }
