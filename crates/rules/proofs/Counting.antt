-- How often a slot stands in lists and buckets.
use Prim.Native.Nat.{ℕ, zero, suc, ◌+◌, ◌-◌, ◌≤◌, ◌<◌}
use native.Mathlib.Omega.{arith}
use mathlib.Core.Path.{◌≡◌, refl, sym, ap, ◌∙◌}
use mathlib.Core.Logic.{⊎_elim}
use mathlib.Core.Bool.{cond}
use mathlib.Core.List.{List, [], ◌∷◌, ◌++◌}
use lib.Dec.{eqb}
use borrow.Author.Tests.{eq-eqb, ne_eqb}
use Rattle.rules.specs.Lists.{times}
use Rattle.rules.specs.Wheel.{Bucket, update, without, hit, count, upwards}
use Rattle.numbers.proofs.Cases.{same?}

pub hit_is : (b c : ℕ) → b ≡ c → hit b c ≡ 1
hit_is b c e = simp (eq-eqb b c e)

pub hit_not : (b c : ℕ) → (b ≡ c → ⊥) → hit b c ≡ 0
hit_not b c n = simp (ne_eqb b c n)

pub hit_most : (b c : ℕ) → hit b c ≤ 1
hit_most b c = ⊎_elim (λ e. omega (arith, hit_is b c e)) (λ n. omega (arith, hit_not b c n)) (same? b c)

pub hit_same : (b c : ℕ) → 0 < hit b c → b ≡ c
hit_same b c h = ⊎_elim (λ e. e) (λ n. absurd (omega (arith, hit_not b c n))) (same? b c)

pub count_app : (x : ℕ) (xs ys : List ℕ) → count x (xs ++ ys) ≡ count x xs + count x ys
count_app x [] ys = omega arith
count_app x (y ∷ xs) ys = omega (arith, count_app x xs ys)

-- taking y out changes the count of no other
pub count_without : (x y : ℕ) (xs : List ℕ) → (x ≡ y → ⊥) → count x (without y xs) ≡ count x xs
count_without x y [] d = refl
count_without x y (z ∷ xs) d =
    ⊎_elim
    (λ (e : y ≡ z). simp (eq-eqb y z e) (omega (arith, hit_not x z (λ k. d (k ∙ sym e)))))
    (λ (n : y ≡ z → ⊥). simp (ne_eqb y z n) (ap (λ (k : ℕ). hit x z + k) (count_without x y xs d)))
    (same? y z)

pub count_without_own : (x : ℕ) (xs : List ℕ) → count x (without x xs) ≡ count x xs - 1
count_without_own x [] = refl
count_without_own x (z ∷ xs) =
    ⊎_elim
    (λ (e : x ≡ z). simp (eq-eqb x z e) (omega arith))
    (λ (n : x ≡ z → ⊥). simp (ne_eqb x z n) (omega (arith, count_without_own x xs)))
    (same? x z)

-- the numbers from a on, each once
pub count_upwards_below : (a k y : ℕ) → y < a → count y (upwards a k) ≡ 0
count_upwards_below a zero y h = refl
count_upwards_below a (suc k) y h = omega (arith, hit_not y a (λ e. omega arith), count_upwards_below (suc a) k y (omega arith))

pub count_upwards_above : (a k y : ℕ) → a + k ≤ y → count y (upwards a k) ≡ 0
count_upwards_above a zero y h = refl
count_upwards_above a (suc k) y h = omega (arith, hit_not y a (λ e. omega arith), count_upwards_above (suc a) k y (omega arith))

pub count_upwards : (a k y : ℕ) → a ≤ y → y < a + k → count y (upwards a k) ≡ 1
count_upwards a zero y h j = absurd (omega arith)
count_upwards a (suc k) y h j =
    ⊎_elim
    (λ (e : y ≡ a). omega (arith, hit_is y a e, count_upwards_below (suc a) k y (omega arith)))
    (λ (n : y ≡ a → ⊥). omega (arith, hit_not y a n, count_upwards (suc a) k y (omega arith) (omega arith)))
    (same? y a)

-- ---- a function changed at one number
pub update_is : {A : Type 0} (f : ℕ → A) (i j : ℕ) (v : A) → i ≡ j → update f i v j ≡ v
update_is f i j v e = simp (eq-eqb i j e)

pub update_not : {A : Type 0} (f : ℕ → A) (i j : ℕ) (v : A) → (i ≡ j → ⊥) → update f i v j ≡ f j
update_not f i j v n = simp (ne_eqb i j n)

-- ---- a bucket changed
module _ (f : ℕ → Bucket) (b : ℕ) (B : Bucket) (x : ℕ) where
  pub times_more : (k : ℕ) → times x B ≡ times x (f b) + k → (c : ℕ) → times x (update f b B c) ≡ times x (f c) + cond (eqb b c) k 0
  times_more k h c =
      ⊎_elim
      (λ (e : b ≡ c). simp (eq-eqb b c e) (h ∙ ap (λ (n : ℕ). times x (f n) + k) e))
      (λ (n : b ≡ c → ⊥). simp (ne_eqb b c n) (omega arith))
      (same? b c)

  pub times_same : times x B ≡ times x (f b) → (c : ℕ) → times x (update f b B c) ≡ times x (f c)
  times_same h c =
      ⊎_elim
      (λ (e : b ≡ c). simp (eq-eqb b c e) (h ∙ ap (λ (n : ℕ). times x (f n)) e))
      (λ (n : b ≡ c → ⊥). simp (ne_eqb b c n))
      (same? b c)
