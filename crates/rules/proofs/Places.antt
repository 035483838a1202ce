-- The position of an advance that has entered a bucket is determined by the buckets that it has yet to enter: each
-- later position, on the same level or on one above, has fewer of them.
use Prim.Native.Nat.{ℕ, zero, suc, ◌+◌, ◌-◌, ◌^◌, ◌≤◌, ◌<◌}
use native.Mathlib.Omega.{arith}
use mathlib.Core.Path.{◌≡◌, refl, ap, ◌∙◌}
use mathlib.Core.Logic.{⊎_elim}
use mathlib.Core.Bool.{cond}
use mathlib.Core.List.{List, [], ◌∷◌}
use lib.ListN.{length, drop, length-append, length-drop}
use borrow.Author.Tests.{lt-ltb}
use Rattle.rules.specs.Places.{Geometry, tick, shift_of, size_of, moves, visited, visits_at, visits_from, visited_at, ahead_from, ahead}
use Rattle.numbers.proofs.Cases.{below?}
use Rattle.rules.proofs.Ticks.{tick_up_mono}
use Rattle.rules.proofs.Placing.{visits_none, visited_still}
use Rattle.rules.proofs.Positions.{length_ring}

-- ---- how many buckets
-- of one level, after j of it
level_left : (s e base p q j : ℕ) → length (drop j (visits_at s e base p q)) ≡ visited s e p q - j
level_left s e base p q j =
    length-drop j (visits_at s e base p q) ∙ ap (λ (n : ℕ). n - j) (length_ring base (2 ^ e) (tick s p) (visited s e p q))

-- a level that visits any bucket moves
visited_moves : (s e p q i : ℕ) → i < visited s e p q → tick s p < tick s q
visited_moves s e p q i h =
    ⊎_elim
    (λ (m : tick s p < tick s q). m)
    (λ (m : tick s q ≤ tick s p). absurd (omega (arith, visited_still s e p q m)))
    (below? (tick s p) (tick s q))

-- the levels above one that moves, all of their buckets
abbrev above : ℕ → ℕ → List ℕ → ℕ → ℕ → ℕ → List ℕ
above s e es base p q = visits_from (s + e) es (base + 2 ^ e) p q

module _ (s e : ℕ) (es : List ℕ) (base p q : ℕ) (m : tick s p < tick s q) where
  goes_on : cond (moves s p q) (above s e es base p q) [] ≡ above s e es base p q
  goes_on = rw (lt-ltb (tick s p) (tick s q) m)

  -- of a level that moves and of those above it, after j of it
  left : (j : ℕ) → length (ahead_from s (e ∷ es) base p q zero j) ≡ (visited s e p q - j) + length (above s e es base p q)
  left j =
      length-append (drop j (visits_at s e base p q)) (cond (moves s p q) (above s e es base p q) [])
      ∙ omega (arith, level_left s e base p q j, ap length goes_on)

  all : length (visits_from s (e ∷ es) base p q) ≡ visited s e p q + length (above s e es base p q)
  all =
      length-append (visits_at s e base p q) (cond (moves s p q) (above s e es base p q) [])
      ∙ omega (arith, length_ring base (2 ^ e) (tick s p) (visited s e p q), ap length goes_on)

-- where the levels above visit any bucket, the level below them moved
below_moves : (s e : ℕ) (es : List ℕ) (base p q : ℕ) → 0 < length (above s e es base p q) → tick s p < tick s q
below_moves s e es base p q h =
    ⊎_elim
    (λ (m : tick s p < tick s q). m)
    (λ (m : tick s q ≤ tick s p).
    absurd (omega (arith, ap length (visits_none (s + e) es (base + 2 ^ e) p q (tick_up_mono s e q p m)), h)))
    (below? (tick s p) (tick s q))

-- ---- a position in a bucket has fewer ahead than there are in all
pub ahead_fewer : (s : ℕ) (es : List ℕ) (base p q l i : ℕ) → i < visited (shift_of s es l) (size_of es l) p q
    → length (ahead_from s es base p q l (suc i)) < length (visits_from s es base p q)
ahead_fewer s [] base p q l i h =
    omega (arith, level_left s 0 base p q (suc i), length_ring base (2 ^ 0) (tick s p) (visited s 0 p q), h)
ahead_fewer s (e ∷ es) base p q zero i h =
    let m = visited_moves s e p q i h in
    omega (arith, left s e es base p q m (suc i), all s e es base p q m, h)
ahead_fewer s (e ∷ es) base p q (suc l) i h =
    let r = ahead_fewer (s + e) es (base + 2 ^ e) p q l i h in
    omega (arith, r, all s e es base p q (below_moves s e es base p q (omega (arith, r))))

-- a position on the first level has more ahead than one on a level above it
first_more : (s e : ℕ) (es : List ℕ) (base p q l i i' : ℕ) → i < visited s e p q → i' < visited (shift_of (s + e) es l) (size_of es l) p q
    → length (ahead_from s (e ∷ es) base p q (suc l) (suc i')) < length (ahead_from s (e ∷ es) base p q zero (suc i))
first_more s e es base p q l i i' h h' =
    omega (arith, left s e es base p q (visited_moves s e p q i h) (suc i), ahead_fewer (s + e) es (base + 2 ^ e) p q l i' h')

-- ---- so the number of buckets ahead tells level and step
count_once : (s : ℕ) (es : List ℕ) (base p q l l' i i' : ℕ) → l ≤ length es → l' ≤ length es
    → i < visited (shift_of s es l) (size_of es l) p q → i' < visited (shift_of s es l') (size_of es l') p q
    → length (ahead_from s es base p q l (suc i)) ≡ length (ahead_from s es base p q l' (suc i')) → (l ≡ l') × (i ≡ i')
count_once s [] base p q l l' i i' k k' h h' e =
    (omega (arith, k, k'), omega (arith, level_left s 0 base p q (suc i), level_left s 0 base p q (suc i'), h, h', e))
count_once s (e ∷ es) base p q zero zero i i' k k' h h' a =
    let m = visited_moves s e p q i h in
    (refl, omega (arith, left s e es base p q m (suc i), left s e es base p q m (suc i'), h, h', a))
count_once s (e ∷ es) base p q zero (suc l') i i' k k' h h' a = absurd (omega (arith, first_more s e es base p q l' i i' h h', a))
count_once s (e ∷ es) base p q (suc l) zero i i' k k' h h' a = absurd (omega (arith, first_more s e es base p q l i' i h' h, a))
count_once s (e ∷ es) base p q (suc l) (suc l') i i' k k' h h' a =
    let r = count_once (s + e) es (base + 2 ^ e) p q l l' i i' (omega (arith, k)) (omega (arith, k')) h h' a in
    (ap suc r.0, r.1)

pub ahead_once : (g : Geometry) (p q l l' i i' : ℕ) → l ≤ length g.sizes → l' ≤ length g.sizes → i < visited_at g p q l → i' < visited_at g p q l'
    → ahead g p q l (suc i) ≡ ahead g p q l' (suc i') → (l ≡ l') × (i ≡ i')
ahead_once g p q l l' i i' k k' h h' e = count_once g.shift g.sizes 0 p q l l' i i' k k' h h' (ap length e)
