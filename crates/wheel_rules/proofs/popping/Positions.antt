-- The numbers of a position: whether its level is the last, that its bucket is one of the wheel's, and which comes
-- next.
use Prim.Native.Nat.{ℕ, zero, suc, ◌+◌, ◌^◌, ◌≤◌, ◌<◌}
use native.Mathlib.Nat.{mod-lt}
use native.Mathlib.Omega.{arith}
use native.Mathlib.Numerals.{add-one}
use mathlib.Core.Path.{◌≡◌, refl, sym, ap, subst, ◌∙◌}
use mathlib.Core.Logic.{⊎_elim}
use mathlib.Core.Bool.{true, false}
use mathlib.Core.List.{List, [], ◌∷◌}
use lib.ListN.{length}
use lib.Pow.{pow_pos}
use borrow.Author.Tests.{lt-ltb, le-ltb}
use Rattle.std.specs.Prelude.{Option}
use Rattle.rules.specs.Places.{Geometry, wheel01, tick, shift_of, size_of, dense, first_of, total, buckets, visited_at, bucket_at, ahead}
use Rattle.numbers.proofs.Cases.{below?, not_both}
use Rattle.rules.proofs.Positions.{ahead_more, ahead_over, ahead_end, ahead_still}
use Rattle.wheel_rules.specs.place.Levels.{size01}
use Rattle.wheel_rules.specs.declared.popping.Position.{Position}
use Rattle.wheel_rules.specs.popping.Position.{at, over, onward, more, level_of, step_of}

-- the last level is the one with a single bucket
pub last_one : (l : ℕ) → 2 ^ size01 l ≡ 1 → length wheel01.sizes ≤ l
last_one zero e = absurd (omega arith)
last_one (suc zero) e = absurd (omega arith)
last_one (suc (suc zero)) e = absurd (omega arith)
last_one (suc (suc (suc zero))) e = absurd (omega arith)
last_one (suc (suc (suc (suc m)))) e = omega arith

pub not_last : (l : ℕ) → (2 ^ size01 l ≡ 1 → ⊥) → l < length wheel01.sizes
not_last zero n = omega arith
not_last (suc zero) n = omega arith
not_last (suc (suc zero)) n = omega arith
not_last (suc (suc (suc zero))) n = omega arith
not_last (suc (suc (suc (suc m)))) n = absurd (n refl)

-- a visited bucket is one of the wheel's
first_in : (es : List ℕ) (base l : ℕ) → first_of dense base es l + 2 ^ size_of es l ≤ base + total es
first_in [] base l = omega arith
first_in (e ∷ es) base zero = omega (arith, some es)
  where
    some : (es : List ℕ) → 0 < total es
    some [] = omega arith
    some (e ∷ es) = omega (arith, pow_pos e)
first_in (e ∷ es) base (suc l) = omega (arith, first_in es (base + 2 ^ e) l)

pub bucket_at_in : (g : Geometry) (p l j : ℕ) → bucket_at g p l j < buckets g
bucket_at_in g p l j =
    omega (arith, first_in g.sizes 0 l, mod-lt (tick (shift_of g.shift g.sizes l) p + j) (pow_pos (size_of g.sizes l)))

-- ---- the next position
module _ (g : Geometry) (p q l j : ℕ) where
  pub onward_here : j < visited_at g p q l → at l (j + 1) ≡ onward g p q l j
  onward_here h = rw (lt-ltb j (visited_at g p q l) h)

  pub onward_last : visited_at g p q l ≤ j → length g.sizes ≤ l → over ≡ onward g p q l j
  onward_last h k = rw (le-ltb j (visited_at g p q l) h, le-ltb l (length g.sizes) k)

  pub onward_up : visited_at g p q l ≤ j → l < length g.sizes → 0 < visited_at g p q (l + 1) → at (l + 1) 1 ≡ onward g p q l j
  onward_up h k i = rw (le-ltb j (visited_at g p q l) h, lt-ltb l (length g.sizes) k, lt-ltb 0 (visited_at g p q (l + 1)) i)

  pub onward_still : visited_at g p q l ≤ j → l < length g.sizes → visited_at g p q (l + 1) ≤ 0 → over ≡ onward g p q l j
  onward_still h k i = rw (le-ltb j (visited_at g p q l) h, lt-ltb l (length g.sizes) k, le-ltb 0 (visited_at g p q (l + 1)) i)

  -- what is ahead: nothing, or the bucket of the next position and what is ahead of that
  pub record Leads (r : Option Position) : Type 0 where
    pub none : more r ≡ false → ahead g p q l j ≡ []
    pub some : more r ≡ true → (i : ℕ) × (step_of r ≡ suc i) × (i < visited_at g p q (level_of r)) ×
        (ahead g p q l j ≡ bucket_at g p (level_of r) i ∷ ahead g p q (level_of r) (suc i))

  pub leads : Leads (onward g p q l j)
  leads =
      ⊎_elim
      (λ (h : j < visited_at g p q l).
      subst Leads (onward_here h)
      (record { none = λ e. absurd (not_both (sym e)); some = λ e. (j, add-one j, h, ahead_more g.shift g.sizes 0 p q l j h) }))
      (λ (h : visited_at g p q l ≤ j).
      ⊎_elim
      (λ (k : l < length g.sizes).
      ⊎_elim
      (λ (i : 0 < visited_at g p q (l + 1)).
      let i' : 0 < visited_at g p q (suc l) = rw add-one at i in
      subst Leads (onward_up h k i)
      (record {
        none = λ e. absurd (not_both (sym e));
        some = λ e. (
          0,
          refl,
          i,
          ahead_over g.shift g.sizes 0 p q l j h k ∙ ahead_more g.shift g.sizes 0 p q (suc l) 0 i'
              ∙ ap (λ (m : ℕ). bucket_at g p m 0 ∷ ahead g p q m 1) (sym (add-one l)),
        );
      }))
      (λ (i : visited_at g p q (l + 1) ≤ 0).
      let i' : visited_at g p q (suc l) ≤ 0 = rw add-one at i in
      subst Leads (onward_still h k i)
      (record {
        none = λ e. ahead_over g.shift g.sizes 0 p q l j h k ∙ ahead_still g.shift g.sizes 0 p q (suc l) 0 (omega arith);
        some = λ e. absurd (not_both e);
      }))
      (below? 0 (visited_at g p q (l + 1))))
      (λ (k : length g.sizes ≤ l).
      subst Leads (onward_last h k)
      (record { none = λ e. ahead_end g.shift g.sizes 0 p q l j h k; some = λ e. absurd (not_both e) }))
      (below? l (length g.sizes)))
      (below? j (visited_at g p q l))
