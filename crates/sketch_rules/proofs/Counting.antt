-- One depth after the other: what a turn of the loops over the four depths does.
use mathlib.Core.Path.{◌≡◌, refl, sym, ap, ap₂, ◌∙◌}
use mathlib.Core.Bool.{cond}
use mathlib.Core.List.{List}
use Prim.Native.Nat.{ℕ, zero, suc, ◌+◌, ◌≤◌, ◌<◌, zero-le, min}
use native.Mathlib.Numerals.{add-one}
use native.Mathlib.Omega.{arith}
use lib.Dec.{ltb}
use lib.ListN.{length, get_or, length-set}
use Rattle.sketch_rules.specs.Sketch.{counter, raised, word_at, counter_of, count_at, least, raised_at, rises_at, counted, rose}
use Rattle.sketch_rules.proofs.Words.{counter_below}
use Rattle.sketch_rules.proofs.Rises.{raised_same}

-- ---- raising: the word changes just where the counter rises

pub word_changed : (w k v : ℕ) → v ≡ raised w k → (v ≡ w → ⊥) → ◌≡◌ {A = ℕ} 1 (cond (ltb (counter w k) 15) 1 0)
word_changed w k v e n = grind (arith, raised_same)

pub rises_le : (t : List ℕ) (at k : ℕ) → rises_at t at k ≤ 1
rises_le t at k = grind arith

pub rose_le : (hash n i : ℕ) (t : List ℕ) → rose hash n i t ≤ i
unfolding rose
rose_le hash n zero t = zero-le
rose_le hash n (suc i) t = omega (arith, rose_le hash n i t, rises_le (counted hash n i t) (word_at hash i n) (counter_of hash i))

pub counted_length : (hash n i : ℕ) (t : List ℕ) → length (counted hash n i t) ≡ length t
unfolding counted
counted_length hash n zero t = refl
counted_length hash n (suc i) t = length-set (counted hash n i t) (word_at hash i n) _ ∙ counted_length hash n i t

-- ---- a turn of the counting loop

module _ (hash n i : ℕ) (t₀ t : List ℕ) (at k : ℕ) (e : t ≡ counted hash n i t₀) (a : at ≡ word_at hash i n) (b : k ≡ counter_of hash i) where
  pub turn_table : (t' : List ℕ) → t' ≡ raised_at t at k → t' ≡ counted hash n (i + 1) t₀
  unfolding counted
  turn_table t' p = p ∙ (λ j. raised_at (e j) (a j) (b j)) ∙ ap (λ (m : ℕ). counted hash n m t₀) (sym (add-one i))

  pub turn_rose : (u r : ℕ) → u ≡ rose hash n i t₀ → r ≡ rises_at t at k → u + r ≡ rose hash n (i + 1) t₀
  unfolding rose
  turn_rose u r p q = (λ j. p j + (q ∙ (λ l. rises_at (e l) (a l) (b l))) j) ∙ ap (λ (m : ℕ). rose hash n m t₀) (sym (add-one i))

-- ---- the least of the counters at the first i depths, and 15

unfoldable pub least_to : ℕ → ℕ → ℕ → List ℕ → ℕ
least_to hash n zero t = 15
least_to hash n (suc i) t = min (least_to hash n i t) (count_at hash n i t)

pub turn_least : (hash n i : ℕ) (t : List ℕ) (at k : ℕ) → at ≡ word_at hash i n → k ≡ counter_of hash i
    → (m c r : ℕ) → m ≡ least_to hash n i t → c ≡ counter (get_or t at 0) k → r ≡ min m c → r ≡ least_to hash n (i + 1) t
unfolding least_to
turn_least hash n i t at k a b m c r p q e =
    e ∙ ap₂ min p (q ∙ (λ j. counter (get_or t (a j) 0) (b j))) ∙ ap (λ (l : ℕ). least_to hash n l t) (sym (add-one i))

-- no counter is above 15, so at four depths it is the least of the four
pub least_of_four : (hash n : ℕ) (t : List ℕ) → least_to hash n 4 t ≡ least hash n t
unfolding least_to least
least_of_four hash n t =
    ap (λ (m : ℕ). min (min (min m (count_at hash n 1 t)) (count_at hash n 2 t)) (count_at hash n 3 t))
    (capped (count_at hash n 0 t) (counter_below (get_or t (word_at hash 0 n) 0) (counter_of hash 0)))
  where
    capped : (c : ℕ) → c < 16 → min 15 c ≡ c
    capped c l = omega arith
