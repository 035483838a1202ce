-- An increase, counter by counter and all at once: each of the hash's four counters that is below 15 has 1 more, and no
-- other counter of the table has changed.
use mathlib.Core.Path.{◌≡◌, refl, sym, ap, ◌∙◌}
use mathlib.Core.Bool.{Bool, true, false, cond, ◌&&◌, ◌||◌}
use mathlib.Core.List.{List}
use Prim.Native.Nat.{ℕ, zero, suc, ◌+◌, ◌≤◌, ◌<◌, min}
use native.Mathlib.Omega.{arith}
use lib.Dec.{eqb}
use lib.ListN.{length, get_or, set}
use lib.Seq.{get_or-set_same, get_or-set_other}
use borrow.Author.Tests.{eqb-true, eqb-false, ne_eqb}
use Rattle.sketch_rules.specs.Sketch.{counter, raised, word_at, counter_of, counted}
use Rattle.sketch_rules.proofs.Rises.{raises_at}
use Rattle.numbers.proofs.Replies.{and_not_right}
use Rattle.sketch_rules.specs.Hashes.{is_counted_at}
use Rattle.sketch_rules.proofs.Places.{word_below}
use Rattle.sketch_rules.proofs.Counting.{counted_length}

-- the hash has another counter at each depth
later : (hash n i m j : ℕ) → i ≤ m → is_counted_at hash n i j (counter_of hash m) ≡ false
unfolding is_counted_at
later hash n zero m j l = refl
later hash n (suc i) m j l =
    ap (λ (b : Bool). b || is_counted_at hash n i j (counter_of hash m))
    (and_not_right (eqb j (word_at hash i n)) _ (ne_eqb (counter_of hash m) (counter_of hash i) (λ e. omega arith)))
    ∙ later hash n i m j (omega arith)

module _ (hash n : ℕ) (t : List ℕ) (some : 0 < n) (inside : n ≤ length t) where
  -- counter k of word j, after 1 was added to it if it is chosen
  abbrev Chosen : Bool → ℕ → ℕ → ℕ
  Chosen b j k = cond b (min (counter (get_or t j 0) k + 1) 15) (counter (get_or t j 0) k)

  pub each_to : (i j k : ℕ) → counter (get_or (counted hash n i t) j 0) k ≡ Chosen (is_counted_at hash n i j k) j k
  unfolding counted is_counted_at
  each_to zero j k = refl
  each_to (suc i) j k = at_word (each_to i j k) (eqb j (word_at hash i n)) refl
    where
      before : List ℕ
      before = counted hash n i t

      here : ℕ
      here = word_at hash i n

      own : ℕ
      own = counter_of hash i

      in_table : here < length before
      in_table = omega (arith, word_below hash i n some, inside, counted_length hash n i t)

      at_counter : counter (get_or before j 0) k ≡ Chosen (is_counted_at hash n i j k) j k → j ≡ here → (b : Bool) → eqb k own ≡ b
          → counter (raised (get_or before here 0) own) k ≡ Chosen (b || is_counted_at hash n i j k) j k
      at_counter rest e true f =
          let q = eqb-true k own f in
          let known : counter (get_or before j 0) k ≡ counter (get_or t j 0) k =
          rest ∙ ap (λ (b : Bool). Chosen b j k) (ap (is_counted_at hash n i j) q ∙ later hash n i i j (omega arith)) in
          ap (counter (raised (get_or before here 0) own)) q ∙ (raises_at (get_or before here 0) own).risen
          ∙ ap (λ (c : ℕ). min (c + 1) 15) ((λ l. counter (get_or before (sym e l) 0) (sym q l)) ∙ known)
      at_counter rest e false f =
          (raises_at (get_or before here 0) own).others k (eqb-false k own f) ∙ ap (λ (x : ℕ). counter (get_or before x 0) k) (sym e) ∙ rest

      at_word : counter (get_or before j 0) k ≡ Chosen (is_counted_at hash n i j k) j k → (b : Bool) → eqb j here ≡ b
          → counter (get_or (set before here (raised (get_or before here 0) own)) j 0) k ≡ Chosen ((b && eqb k own) || is_counted_at hash n i j k) j k
      at_word rest true f =
          let e = eqb-true j here f in
          ap (λ (x : ℕ). counter (get_or (set before here (raised (get_or before here 0) own)) x 0) k) e
          ∙ ap (λ (w : ℕ). counter w k) (get_or-set_same before here (raised (get_or before here 0) own) 0 in_table) ∙ at_counter rest e (eqb k own) refl
      at_word rest false f =
          ap (λ (w : ℕ). counter w k) (get_or-set_other before here j (raised (get_or before here 0) own) 0 (eqb-false j here f)) ∙ rest

  -- all four depths
  pub each_counter : (j k : ℕ) → counter (get_or (counted hash n 4 t) j 0) k ≡ Chosen (is_counted_at hash n 4 j k) j k
  each_counter = each_to 4
