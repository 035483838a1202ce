-- One armed slot fewer.
use Prim.Native.Nat.{ℕ, zero, suc, ◌≤◌, ◌<◌}
use native.Mathlib.Omega.{arith}
use mathlib.Core.Path.{◌≡◌, refl, ap}
use mathlib.Core.Logic.{⊎_elim}
use mathlib.Core.Bool.{cond}
use mathlib.Core.List.{List}
use lib.ListN.{length, get_or, set}
use lib.Seq.{get_or-set_same, get_or-set_other}
use lib.Dec.{leb, ltb}
use borrow.Author.Tests.{lt-ltb, le-ltb, le-leb}
use Rattle.numbers.proofs.Cases.{below?, same?}
use Rattle.wheel_rules.specs.records.Counts.{armed_among}

-- what the slot k adds
abbrev adds : ℕ → List ℕ → ℕ → ℕ
adds D l k = cond (leb D k) (cond (ltb (get_or l k 0) D) 1 0) 0

module _ (D : ℕ) (l : List ℕ) (x z : ℕ) (past : D ≤ x) (armed : get_or l x 0 < D) (none : D ≤ z) (slot : x < length l) where
  -- what another slot adds
  other : (k : ℕ) → (k ≡ x → ⊥) → adds D (set l x z) k ≡ adds D l k
  other k n = ap (λ (v : ℕ). cond {A = ℕ} (leb D k) (cond (ltb v D) 1 0) 0) (get_or-set_other l x k z 0 n)

  same_below : (k : ℕ) → k ≤ x → armed_among D (set l x z) k ≡ armed_among D l k
  same_below zero h = refl
  same_below (suc k) h = omega (arith, other k (λ e. omega arith), same_below k (omega arith))

  own_was : adds D l x ≡ 1
  own_was = rw (le-leb D x past, lt-ltb (get_or l x 0) D armed)

  own_is : adds D (set l x z) x ≡ 0
  own_is = rw (le-leb D x past, get_or-set_same l x z 0 slot, le-ltb z D none)

  one_fewer : (k : ℕ) → x < k → armed_among D l k ≡ suc (armed_among D (set l x z) k)
  one_fewer zero h = absurd (omega arith)
  one_fewer (suc k) h =
      ⊎_elim
      (λ (e : k ≡ x).
      let was : adds D l k ≡ 1 = rw e own_was in
      let is : adds D (set l x z) k ≡ 0 = rw e own_is in
      omega (arith, was, is, same_below k (omega arith)))
      (λ (n : k ≡ x → ⊥). omega (arith, other k n, one_fewer k (below n)))
      (same? k x)
    where
      below : (k ≡ x → ⊥) → x < k
      below n = ⊎_elim (λ (i : x < k). i) (λ (i : k ≤ x). absurd (n (omega arith))) (below? x k)

  pub fewer : armed_among D l (length l) ≡ suc (armed_among D (set l x z) (length l))
  fewer = one_fewer (length l) slot
