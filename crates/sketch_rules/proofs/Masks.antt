-- A mask with the same four bits for each counter: halving all counters, and counting the odd ones.
use mathlib.Core.Path.{◌≡◌, refl, sym, ap, ap₂, ◌∙◌, fun_ext}
use Prim.Native.Nat.{ℕ, zero, suc, ◌+◌, ◌*◌, ◌/◌, ◌%◌, ◌^◌, ◌<◌}
use native.Mathlib.Nat.{mod-lt, mul_comm, div-add-mod', div-div-eq-div-mul, zero-lt-suc}
use native.Mathlib.Omega.{arith}
use lib.Dec.{lit<}
use lib.Bits.{bit_and, and_block, and_mask, and_zero_r, and_lt}
use lib.Count.{ones, ones_cat}
use Rattle.sketch_rules.specs.Sketch.{counter, word, sum_to as total, halved, odds}
use Rattle.sketch_rules.proofs.Words.{counter_below, counter_first, counter_rest}

-- the mask works on each counter by itself
pub mask_each : (n m y : ℕ) → m < 16 → bit_and y (word n (λ _. m)) ≡ word n (λ k. bit_and (counter y k) m)
unfolding word
mask_each zero m y h = and_zero_r y
mask_each (suc n) m y h =
    ap (λ (z : ℕ). bit_and z (word n (λ _. m) * 16 + m)) (sym (div-add-mod' y 16))
    ∙ and_block 4 (y / 16) (word n (λ _. m)) (y % 16) m (mod-lt y (zero-lt-suc 15)) h
    ∙ ap₂ (λ (a b : ℕ). a * 16 + b)
    (mask_each n m (y / 16) h ∙ ap (word n) (fun_ext (λ k. ap (λ (z : ℕ). bit_and z m) (sym (counter_rest y k)))))
    (ap (λ (z : ℕ). bit_and z m) (sym (counter_first y)))

-- a counter of half the word, without its top bit, is half the counter
half_counter : (w k : ℕ) → bit_and (counter (w / 2) k) 7 ≡ counter w k / 2
unfolding counter
half_counter w k =
    let q : ℕ = w / 16 ^ k in
    let e : w / 2 / 16 ^ k ≡ q / 2 = div-div-eq-div-mul w 2 (16 ^ k) ∙ ap (λ (n : ℕ). w / n) (mul_comm 2 (16 ^ k)) ∙ sym (div-div-eq-div-mul w (16 ^ k) 2) in
    and_mask (counter (w / 2) k) 3 ∙ ap (λ (n : ℕ). n % 16 % 8) e ∙ cut q
  where
    cut : (q : ℕ) → q / 2 % 16 % 8 ≡ q % 16 / 2
    cut q = omega arith

pub halved_mask : (w : ℕ) → bit_and (w / 2) 0x7777_7777_7777_7777 ≡ halved w
unfolding halved word
halved_mask w = mask_each 16 7 (w / 2) (lit< tt) ∙ ap (word 16) (fun_ext (half_counter w))

-- set bits, counter by counter
ones_word : (n : ℕ) (f : ℕ → ℕ) → ((k : ℕ) → f k < 16) → ones (word n f) ≡ total n (λ k. ones (f k))
unfolding word total ones
ones_word zero f b = refl
ones_word (suc n) f b =
    ones_cat 4 (word n (λ k. f (suc k))) (f 0) (b 0) ∙ ap (λ (m : ℕ). m + ones (f 0)) (ones_word n (λ k. f (suc k)) (λ k. b (suc k)))

ones_bit : (r : ℕ) → r < 2 → ones r ≡ r
unfolding ones
ones_bit zero h = refl
ones_bit (suc zero) h = refl
ones_bit (suc (suc r)) h = absurd (omega arith)

pub odds_mask : (w : ℕ) → ones (bit_and w 0x1111_1111_1111_1111) ≡ odds w
unfolding odds word
odds_mask w =
    ap ones (mask_each 16 1 w (lit< tt))
    ∙ ones_word 16 (λ k. bit_and (counter w k) 1) (λ k. and_lt 4 (counter w k) 1 (counter_below w k) (lit< tt))
    ∙ ap (total 16) (fun_ext (λ k. ap ones (and_mask (counter w k) 1) ∙ ones_bit (counter w k % 2) (mod-lt (counter w k) (zero-lt-suc 1))))
