-- The position of an advance as level and step, and the buckets that it has yet to enter.
use Prim.Native.Nat.{ℕ, zero, suc, ◌+◌, ◌-◌, ◌%◌, ◌^◌, ◌≤◌, ◌<◌}
use native.Mathlib.Nat.{add-zero}
use native.Mathlib.Omega.{arith}
use mathlib.Core.Path.{◌≡◌, refl, sym, ap, ◌∙◌}
use mathlib.Core.Logic.{⊎_elim}
use mathlib.Core.Bool.{cond}
use mathlib.Core.List.{List, [], ◌∷◌, ◌++◌}
use lib.ListN.{length, get_or, drop, drop_of_length-le}
use lib.Seq.{drop-cons}
use lib.Pow.{pow_pos}
use borrow.Author.Tests.{lt-ltb, le-ltb}
use Rattle.rules.specs.Places.{Geometry, tick, shift_of, size_of, dense, first_of, moves, visited, ring, visits_from, visited_at, bucket_at}
use Rattle.rules.specs.Places.{ahead_from, ahead}
use Rattle.numbers.proofs.Cases.{below?}
use Rattle.rules.proofs.Ticks.{tick_up_mono}
use Rattle.rules.proofs.Placing.{visits_none, visited_covers}

pub length_ring : (base m t k : ℕ) → length (ring base m t k) ≡ k
length_ring base m t zero = refl
length_ring base m t (suc k) = ap suc (length_ring base m (suc t) k)

get_d_ring : (base m t k j : ℕ) → j < k → get_or (ring base m t k) j 0 ≡ base + (t + j) % m
get_d_ring base m t zero j h = absurd (omega arith)
get_d_ring base m t (suc k) zero h = ap (λ (n : ℕ). base + n % m) (sym (add-zero t))
get_d_ring base m t (suc k) (suc j) h = get_d_ring base m (suc t) k j (omega arith) ∙ ap (λ (n : ℕ). base + n % m) (omega arith)

drop_ring : (base m t k j : ℕ) → j < k → drop j (ring base m t k) ≡ (base + (t + j) % m) ∷ drop (suc j) (ring base m t k)
drop_ring base m t k j h =
    drop-cons (ring base m t k) j 0 (omega (arith, length_ring base m t k)) ∙ ap (λ (n : ℕ). n ∷ drop (suc j) (ring base m t k)) (get_d_ring base m t k j h)

over_ring : (base m t k j : ℕ) → k ≤ j → drop j (ring base m t k) ≡ []
over_ring base m t k j h = drop_of_length-le (ring base m t k) {i = j} (omega (arith, length_ring base m t k))

-- a level that visits none: its tick does not move
pub visited_zero : (s e p q : ℕ) → visited s e p q ≡ 0 → tick s q ≤ tick s p
visited_zero s e p q h =
    ⊎_elim
    (λ (i : tick s p < tick s q). absurd (omega (arith, visited_covers s e p q 0 i (omega arith) (pow_pos e))))
    (λ (i : tick s q ≤ tick s p). i)
    (below? (tick s p) (tick s q))

-- before the first bucket: all are yet to be entered
pub ahead_start : (s : ℕ) (es : List ℕ) (base p q : ℕ) → ahead_from s es base p q 0 0 ≡ visits_from s es base p q
ahead_start s [] base p q = refl
ahead_start s (e ∷ es) base p q = refl

-- the level has more: its next bucket comes first
pub ahead_more : (s : ℕ) (es : List ℕ) (base p q l j : ℕ) → j < visited (shift_of s es l) (size_of es l) p q
    → ahead_from s es base p q l j ≡ (first_of dense base es l + (tick (shift_of s es l) p + j) % 2 ^ size_of es l) ∷ ahead_from s es base p q l (suc j)
ahead_more s [] base p q l j h = drop_ring base (2 ^ 0) (tick s p) (visited s 0 p q) j h
ahead_more s (e ∷ es) base p q zero j h =
    ap (λ (xs : List ℕ). xs ++ cond (moves s p q) (visits_from (s + e) es (base + 2 ^ e) p q) []) (drop_ring base (2 ^ e) (tick s p) (visited s e p q) j h)
ahead_more s (e ∷ es) base p q (suc l) j h = ahead_more (s + e) es (base + 2 ^ e) p q l j h

-- the level has no more: the next level begins
pub ahead_over : (s : ℕ) (es : List ℕ) (base p q l j : ℕ) → visited (shift_of s es l) (size_of es l) p q ≤ j → l < length es
    → ahead_from s es base p q l j ≡ ahead_from s es base p q (suc l) 0
ahead_over s [] base p q l j h k = absurd (omega arith)
ahead_over s (e ∷ es) base p q zero j h k =
    ap (λ (xs : List ℕ). xs ++ cond (moves s p q) (visits_from (s + e) es (base + 2 ^ e) p q) []) (over_ring base (2 ^ e) (tick s p) (visited s e p q) j h)
    ∙ ⊎_elim
    (λ (i : tick s p < tick s q). rw (lt-ltb (tick s p) (tick s q) i) (sym (ahead_start (s + e) es (base + 2 ^ e) p q)))
    (λ (i : tick s q ≤ tick s p).
    rw (le-ltb (tick s p) (tick s q) i)
    (sym (ahead_start (s + e) es (base + 2 ^ e) p q ∙ visits_none (s + e) es (base + 2 ^ e) p q (tick_up_mono s e q p i))))
    (below? (tick s p) (tick s q))
ahead_over s (e ∷ es) base p q (suc l) j h k = ahead_over (s + e) es (base + 2 ^ e) p q l j h (omega arith)

-- the last level has no more: the end
pub ahead_end : (s : ℕ) (es : List ℕ) (base p q l j : ℕ) → visited (shift_of s es l) (size_of es l) p q ≤ j → length es ≤ l → ahead_from s es base p q l j ≡ []
ahead_end s [] base p q l j h k = over_ring base (2 ^ 0) (tick s p) (visited s 0 p q) j h
ahead_end s (e ∷ es) base p q zero j h k = absurd (omega arith)
ahead_end s (e ∷ es) base p q (suc l) j h k = ahead_end (s + e) es (base + 2 ^ e) p q l j h (omega arith)

-- a level that visits none: the end, with no look at the levels above
pub ahead_still : (s : ℕ) (es : List ℕ) (base p q l j : ℕ) → visited (shift_of s es l) (size_of es l) p q ≡ 0 → ahead_from s es base p q l j ≡ []
ahead_still s [] base p q l j h = over_ring base (2 ^ 0) (tick s p) (visited s 0 p q) j (omega arith)
ahead_still s (e ∷ es) base p q zero j h =
    ap (λ (xs : List ℕ). xs ++ cond (moves s p q) (visits_from (s + e) es (base + 2 ^ e) p q) [])
    (over_ring base (2 ^ e) (tick s p) (visited s e p q) j (omega arith))
    ∙ rw (le-ltb (tick s p) (tick s q) (visited_zero s e p q h))
ahead_still s (e ∷ es) base p q (suc l) j h = ahead_still (s + e) es (base + 2 ^ e) p q l j h

-- Where there is a bucket yet to enter, it is one that the advance visits: the i-th of some level l, and what is ahead
-- after it is what is ahead of that position.
pub record NextAt (g : Geometry) (p q b : ℕ) (bs : List ℕ) : Type 0 where
  pub level : ℕ
  pub done : ℕ
  pub visits : done < visited_at g p q level
  pub is : b ≡ bucket_at g p level done
  pub rest : bs ≡ ahead g p q level (suc done)

pub ahead_next : (g : Geometry) (p q l j b : ℕ) (bs : List ℕ) → ahead g p q l j ≡ b ∷ bs → NextAt g p q b bs
ahead_next g p q l j b bs a = go (length g.sizes - l) l j (omega arith) a
  where
    here : (l j : ℕ) → j < visited_at g p q l → ahead g p q l j ≡ b ∷ bs → NextAt g p q b bs
    here l j i a =
        let z : b ∷ bs ≡ bucket_at g p l j ∷ ahead g p q l (suc j) = sym a ∙ ahead_more g.shift g.sizes 0 p q l j i in
        record { level = l; done = j; visits = i; is = cc; rest = cc }

    none_left : (l j : ℕ) → visited_at g p q l ≤ j → length g.sizes ≤ l → ahead g p q l j ≡ b ∷ bs → NextAt g p q b bs
    none_left l j h i a =
        let z : [] ≡ b ∷ bs = sym (ahead_end g.shift g.sizes 0 p q l j h i) ∙ a in
        absurd (let u : ◌≡◌ {A = ℕ} 0 1 = cc in omega arith)

    go : (k l j : ℕ) → length g.sizes ≤ l + k → ahead g p q l j ≡ b ∷ bs → NextAt g p q b bs
    go zero l j h a =
        ⊎_elim (λ (i : j < visited_at g p q l). here l j i a) (λ (i : visited_at g p q l ≤ j). none_left l j i (omega arith) a) (below? j (visited_at g p q l))
    go (suc k) l j h a =
        ⊎_elim
        (λ (i : j < visited_at g p q l). here l j i a)
        (λ (i : visited_at g p q l ≤ j).
        ⊎_elim
        (λ (m : l < length g.sizes). go k (suc l) 0 (omega arith) (sym (ahead_over g.shift g.sizes 0 p q l j i m) ∙ a))
        (λ (m : length g.sizes ≤ l). none_left l j i m a)
        (below? l (length g.sizes)))
        (below? j (visited_at g p q l))
