-- A word and its counters: each determines the other.
use mathlib.Core.Path.{◌≡◌, refl, sym, ap, ap₂, ◌∙◌, subst, fun_ext}
use Prim.Native.Nat.{ℕ, zero, suc, ◌+◌, ◌*◌, ◌/◌, ◌%◌, ◌^◌, ◌<◌, suc-le-suc}
use native.Mathlib.Nat.{mod-lt, div-one, pow-suc, pow-succ', suc-mul, div-add-mod', div-div-eq-div-mul, div-lt_iff_lt-mul, zero-lt-suc, not-suc-le-zero}
use native.Mathlib.Nat.{le_of_suc-le-suc}
use native.Mathlib.Omega.{arith}
use lib.Arith.{lt-one, digits_div, digits_mod}
use lib.Pow.{pow-add}
use Rattle.sketch_rules.specs.Sketch.{counter, word, halved}

-- 16 ^ k as a shift by 4 k bits
pub pow16 : (k : ℕ) → 16 ^ k ≡ 2 ^ (k * 4)
pow16 zero = refl
pow16 (suc k) = pow-suc 16 k ∙ ap (λ (n : ℕ). n * 16) (pow16 k) ∙ sym (pow-add 2 (k * 4) 4) ∙ ap (λ (n : ℕ). 2 ^ n) (sym (suc-mul k 4))

pub counter_below : (w k : ℕ) → counter w k < 16
unfolding counter
counter_below w k = mod-lt (w / 16 ^ k) (zero-lt-suc 15)

-- the lowest counter, and the others as those of the rest of the word
pub counter_first : (w : ℕ) → counter w 0 ≡ w % 16
unfolding counter
counter_first w = ap (λ (n : ℕ). n % 16) (div-one w)

pub counter_rest : (w k : ℕ) → counter w (suc k) ≡ counter (w / 16) k
unfolding counter
counter_rest w k = ap (λ (n : ℕ). n % 16) (ap (λ (n : ℕ). w / n) (pow-succ' 16 k) ∙ sym (div-div-eq-div-mul w 16 (16 ^ k)))

pub word_same : (n : ℕ) (f g : ℕ → ℕ) → ((k : ℕ) → k < n → f k ≡ g k) → word n f ≡ word n g
unfolding word
word_same zero f g h = refl
word_same (suc n) f g h =
    ap₂ (λ (a b : ℕ). a * 16 + b) (word_same n (λ k. f (suc k)) (λ k. g (suc k)) (λ k l. h (suc k) (suc-le-suc l))) (h 0 (zero-lt-suc n))

pub word_of_counters : (n w : ℕ) → w < 16 ^ n → word n (counter w) ≡ w
unfolding word
word_of_counters zero w h = sym (lt-one h)
word_of_counters (suc n) w h =
    let l : w / 16 < 16 ^ n = (div-lt_iff_lt-mul (zero-lt-suc 15)).1 (subst (λ (x : ℕ). w < x) (pow-suc 16 n) h) in
    ap₂ (λ (a b : ℕ). a * 16 + b) (ap (word n) (fun_ext (counter_rest w)) ∙ word_of_counters n (w / 16) l) (counter_first w)
    ∙ div-add-mod' w 16

-- two words of n counters that agree at each are equal
pub determined : (n w v : ℕ) → w < 16 ^ n → v < 16 ^ n → ((k : ℕ) → k < n → counter w k ≡ counter v k) → w ≡ v
determined n w v hw hv h = sym (word_of_counters n w hw) ∙ word_same n (counter w) (counter v) h ∙ word_of_counters n v hv

-- a counter of a word that was put together is the one that was put there
pub counter_word : (n : ℕ) (f : ℕ → ℕ) → ((k : ℕ) → f k < 16) → (k : ℕ) → k < n → counter (word n f) k ≡ f k
unfolding word
counter_word zero f b k h = absurd (not-suc-le-zero h)
counter_word (suc n) f b zero h = counter_first (word (suc n) f) ∙ digits_mod (word n (λ k. f (suc k))) (b 0)
counter_word (suc n) f b (suc k) h =
    counter_rest (word (suc n) f) k ∙ ap (λ (w : ℕ). counter w k) (digits_div (word n (λ k. f (suc k))) (b 0))
    ∙ counter_word n (λ k. f (suc k)) (λ k. b (suc k)) k (le_of_suc-le-suc h)

-- a word that was put together of n counters has no more than these
pub word_below : (n : ℕ) (f : ℕ → ℕ) → ((k : ℕ) → f k < 16) → word n f < 16 ^ n
unfolding word
word_below zero f b = zero-lt-suc 0
word_below (suc n) f b = omega (arith, pow-suc 16 n, word_below n (λ k. f (suc k)) (λ k. b (suc k)), b 0)

halves_below : (w k : ℕ) → counter w k / 2 < 16
halves_below w k = omega (arith, counter_below w k)

pub halved_counter : (w k : ℕ) → k < 16 → counter (halved w) k ≡ counter w k / 2
unfolding halved
halved_counter w k h = counter_word 16 (λ k. counter w k / 2) (halves_below w) k h

pub halved_below : (w : ℕ) → halved w < 2 ^ 64
unfolding halved
halved_below w = word_below 16 (λ k. counter w k / 2) (halves_below w)

-- so the sixteen halves leave one word only
pub halved_only : (w r : ℕ) → r < 2 ^ 64 → ((k : ℕ) → k < 16 → counter r k ≡ counter w k / 2) → r ≡ halved w
halved_only w r h e = determined 16 r (halved w) h (halved_below w) (λ k b. e k b ∙ sym (halved_counter w k b))
