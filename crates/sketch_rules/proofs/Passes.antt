-- A pass over the first words of a table that halves each and counts the odd counters.
use mathlib.Core.Path.{◌≡◌, refl, sym, ap, ap₂, ◌∙◌}
use mathlib.Core.List.{List, [], ◌∷◌, ◌++◌}
use Prim.Native.Nat.{ℕ, zero, suc, ◌+◌, ◌*◌, ◌%◌, ◌≤◌, ◌<◌, zero-le}
use native.Mathlib.Nat.{not-suc-le-zero, le_of_suc-le-suc, mod-lt, zero-lt-suc, le_refl}
use native.Mathlib.Omega.{arith}
use native.Mathlib.Numerals.{add-one}
use lib.ListN.{length, get_or, set, take, drop}
use Rattle.sketch_rules.specs.Sketch.{counter, sum_to as total, odds, halved, halved_to, odds_to}

pub halved_length : (n : ℕ) (t : List ℕ) → length (halved_to n t) ≡ length t
unfolding halved_to
halved_length zero t = refl
halved_length (suc n) [] = refl
halved_length (suc n) (w ∷ t) = ap suc (halved_length n t)

-- a word that the pass has not reached, and one that it has
pub halved_ahead : (n : ℕ) (t : List ℕ) (i : ℕ) → n ≤ i → get_or (halved_to n t) i 0 ≡ get_or t i 0
unfolding halved_to
halved_ahead zero t i h = refl
halved_ahead (suc n) [] i h = refl
halved_ahead (suc n) (w ∷ t) zero h = absurd (not-suc-le-zero h)
halved_ahead (suc n) (w ∷ t) (suc i) h = halved_ahead n t i (le_of_suc-le-suc h)

pub halved_done : (n : ℕ) (t : List ℕ) (i : ℕ) → i < n → i < length t → get_or (halved_to n t) i 0 ≡ halved (get_or t i 0)
unfolding halved_to
halved_done zero t i h l = absurd (not-suc-le-zero h)
halved_done (suc n) [] i h l = absurd (not-suc-le-zero l)
halved_done (suc n) (w ∷ t) zero h l = refl
halved_done (suc n) (w ∷ t) (suc i) h l = halved_done n t i (le_of_suc-le-suc h) (le_of_suc-le-suc l)

halved_more : (n : ℕ) (t : List ℕ) → n < length t → set (halved_to n t) n (halved (get_or t n 0)) ≡ halved_to (suc n) t
unfolding halved_to
halved_more zero [] h = absurd (not-suc-le-zero h)
halved_more zero (w ∷ t) h = refl
halved_more (suc n) [] h = absurd (not-suc-le-zero h)
halved_more (suc n) (w ∷ t) h = ap (λ (r : List ℕ). halved w ∷ r) (halved_more n t (le_of_suc-le-suc h))

odds_more : (n : ℕ) (t : List ℕ) → n < length t → odds_to (suc n) t ≡ odds_to n t + odds (get_or t n 0)
unfolding odds_to
odds_more zero [] h = absurd (not-suc-le-zero h)
odds_more zero (w ∷ t) h = omega arith
odds_more (suc n) [] h = absurd (not-suc-le-zero h)
odds_more (suc n) (w ∷ t) h = omega (arith, odds_more n t (le_of_suc-le-suc h))

-- a word has at most sixteen odd counters
total_le : (n : ℕ) (f : ℕ → ℕ) → ((k : ℕ) → f k < 2) → total n f ≤ n
unfolding total
total_le zero f b = le_refl 0
total_le (suc n) f b = omega (arith, total_le n (λ k. f (suc k)) (λ k. b (suc k)), b 0)

pub odds_le : (w : ℕ) → odds w ≤ 16
unfolding odds
odds_le w = total_le 16 (λ k. counter w k % 2) (λ k. mod-lt (counter w k) (zero-lt-suc 1))

pub odds_to_le : (n : ℕ) (t : List ℕ) → odds_to n t ≤ n * 16
unfolding odds_to
odds_to_le zero t = zero-le
odds_to_le (suc n) [] = zero-le
odds_to_le (suc n) (w ∷ t) = omega (arith, odds_le w, odds_to_le n t)

-- a pass over the first words is one over the whole of them alone
pub halved_part : (n : ℕ) (t : List ℕ) → halved_to n (take n t) ++ drop n t ≡ halved_to n t
unfolding halved_to
halved_part zero t = refl
halved_part (suc n) [] = refl
halved_part (suc n) (w ∷ t) = ap (λ (r : List ℕ). halved w ∷ r) (halved_part n t)

pub odds_part : (n : ℕ) (t : List ℕ) → odds_to n (take n t) ≡ odds_to n t
unfolding odds_to
odds_part zero t = refl
odds_part (suc n) [] = refl
odds_part (suc n) (w ∷ t) = ap (λ (r : ℕ). odds w + r) (odds_part n t)

-- one turn of the pass: word i is read, halved and counted
module _ (t₀ t : List ℕ) (i : ℕ) (h : i < length t₀) (e : t ≡ halved_to i t₀) where
  same_read : get_or t i 0 ≡ get_or t₀ i 0
  same_read = ap (λ (r : List ℕ). get_or r i 0) e ∙ halved_ahead i t₀ i (le_refl i)

  pub turn_table : (v : ℕ) → v ≡ halved (get_or t i 0) → set t i v ≡ halved_to (i + 1) t₀
  turn_table v p =
      ap (set t i) (p ∙ ap halved same_read) ∙ ap (λ (r : List ℕ). set r i (halved (get_or t₀ i 0))) e ∙ halved_more i t₀ h
      ∙ ap (λ (n : ℕ). halved_to n t₀) (sym (add-one i))

  pub turn_odd : (n r : ℕ) → n ≡ odds_to i t₀ → r ≡ odds (get_or t i 0) → n + r ≡ odds_to (i + 1) t₀
  turn_odd n r p q = ap₂ ◌+◌ p (q ∙ ap odds same_read) ∙ sym (odds_more i t₀ h) ∙ ap (λ (m : ℕ). odds_to m t₀) (sym (add-one i))
