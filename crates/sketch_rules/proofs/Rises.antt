-- One counter of a word rises by 1, and no other changes.
use mathlib.Core.Path.{◌≡◌, refl, sym, ap, ◌∙◌, subst}
use mathlib.Core.Bool.{Bool, true, false, cond}
use Prim.Native.Nat.{ℕ, zero, suc, ◌+◌, ◌*◌, ◌/◌, ◌%◌, ◌^◌, ◌≤◌, ◌<◌}
use native.Mathlib.Nat.{one-mul, pow-suc, zero-lt-suc, le_of_suc-le-suc, div-lt_iff_lt-mul, not-suc-le-zero, one-le-pow}
use native.Mathlib.Omega.{arith}
use lib.Dec.{ltb, lit<}
use lib.Pow.{shl_exact}
use lib.Bits.{bit_and, and_mask}
use borrow.Author.Tests.{ltb-true, ltb-false, lt-ltb, le-ltb}
use Rattle.sketch_rules.specs.Counters.{Raises}
use Rattle.sketch_rules.specs.Sketch.{counter, raised}
use Rattle.sketch_rules.proofs.Words.{pow16, counter_below, counter_first, counter_rest}

-- a counter as the program reads it, and 16 ^ k as the program writes it
pub read_counter : (w k : ℕ) → bit_and (w / 2 ^ (k * 4)) 15 ≡ counter w k
unfolding counter
read_counter w k = and_mask (w / 2 ^ (k * 4)) 4 ∙ ap (λ (n : ℕ). w / n % 16) (sym (pow16 k))

pub one_at : (k : ℕ) → k < 16 → 1 * 2 ^ (k * 4) % 2 ^ 64 ≡ 16 ^ k
one_at k h = shl_exact {a = 1} 1 (k * 4) 64 (lit< tt) (omega arith) ∙ one-mul (2 ^ (k * 4)) ∙ sym (pow16 k)

-- adding to a higher counter leaves the lowest, and adds to the rest of the word
lowest : (w k : ℕ) → (w + 16 ^ suc k) % 16 ≡ w % 16
lowest w k = omega (arith, pow-suc 16 k)

rest : (w k : ℕ) → (w + 16 ^ suc k) / 16 ≡ w / 16 + 16 ^ k
rest w k = omega (arith, pow-suc 16 k)

below_first : (w : ℕ) → counter w 0 < 15 → w % 16 < 15
below_first w h = subst (λ (n : ℕ). n < 15) (counter_first w) h

below_rest : (w k : ℕ) → counter w (suc k) < 15 → counter (w / 16) k < 15
below_rest w k h = subst (λ (n : ℕ). n < 15) (counter_rest w k) h

pub rises : (w k : ℕ) → counter w k < 15 → counter (w + 16 ^ k) k ≡ counter w k + 1
rises w zero h =
    let l = below_first w h in counter_first (w + 1) ∙ omega (arith, counter_first w)
rises w (suc k) h =
    counter_rest (w + 16 ^ suc k) k ∙ ap (λ (v : ℕ). counter v k) (rest w k) ∙ rises (w / 16) k (below_rest w k h)
    ∙ ap (λ (n : ℕ). n + 1) (sym (counter_rest w k))

pub others_stay : (w k j : ℕ) → counter w k < 15 → (j ≡ k → ⊥) → counter (w + 16 ^ k) j ≡ counter w j
others_stay w zero zero h n = absurd (n refl)
others_stay w zero (suc j) h n =
    let l = below_first w h in
    let e : (w + 1) / 16 ≡ w / 16 = omega arith in
    counter_rest (w + 1) j ∙ ap (λ (v : ℕ). counter v j) e ∙ sym (counter_rest w j)
others_stay w (suc k) zero h n = counter_first (w + 16 ^ suc k) ∙ lowest w k ∙ sym (counter_first w)
others_stay w (suc k) (suc j) h n =
    counter_rest (w + 16 ^ suc k) j ∙ ap (λ (v : ℕ). counter v j) (rest w k)
    ∙ others_stay (w / 16) k j (below_rest w k h) (λ e. n (ap suc e)) ∙ sym (counter_rest w j)

-- nothing is carried out at the top
pub sum_below_lem : (n k w : ℕ) → k < n → w < 16 ^ n → counter w k < 15 → w + 16 ^ k < 16 ^ n
sum_below_lem zero k w l b h = absurd (not-suc-le-zero l)
sum_below_lem (suc n) zero w l b h = omega (arith, below_first w h, pow-suc 16 n)
sum_below_lem (suc n) (suc k) w l b h =
    let s : w / 16 < 16 ^ n = (div-lt_iff_lt-mul (zero-lt-suc 15)).1 (subst (λ (x : ℕ). w < x) (pow-suc 16 n) b) in
    omega (arith, sum_below_lem n k (w / 16) (le_of_suc-le-suc l) s (below_rest w k h), pow-suc 16 k, pow-suc 16 n)

pub up : (w k : ℕ) → counter w k < 15 → Raises w k (w + 16 ^ k)
unfolding raised
up w k h = record {
  is = ap (λ (b : Bool). cond b (w + 16 ^ k) w) (sym (lt-ltb (counter w k) 15 h));
  risen = rises w k h ∙ omega arith;
  others = λ j n. others_stay w k j h n;
}

pub full : (w k : ℕ) → 15 ≤ counter w k → Raises w k w
unfolding raised
full w k h = record {
  is = ap (λ (b : Bool). cond b (w + 16 ^ k) w) (sym (le-ltb (counter w k) 15 h));
  risen = omega (arith, counter_below w k);
  others = λ j n. refl;
}

-- the word changes just where the counter rises
pub raised_new : (w k : ℕ) → counter w k < 15 → raised w k ≡ w + 16 ^ k
raised_new w k h = sym (up w k h).is

pub raised_same : (w k : ℕ) → 15 ≤ counter w k → raised w k ≡ w
raised_same w k h = sym (full w k h).is

pub one_up : (k : ℕ) → 0 < 16 ^ k
one_up k = one-le-pow k 16 (zero-lt-suc 15)

-- whatever the counter is
pub raises_at : (w k : ℕ) → Raises w k (raised w k)
raises_at w k = go (ltb (counter w k) 15) refl
  where
    go : (b : Bool) → ltb (counter w k) 15 ≡ b → Raises w k (raised w k)
    go true e = let l = ltb-true (counter w k) 15 e in subst (Raises w k) (sym (raised_new w k l)) (up w k l)
    go false e = let l = ltb-false (counter w k) 15 e in subst (Raises w k) (sym (raised_same w k l)) (full w k l)
