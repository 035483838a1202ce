-- Laws of places and visits: a deadline is placed at the lowest level that fits, and an advance that passes a timer's
-- tick visits its bucket.
use Prim.Native.Nat.{ℕ, zero, suc, ◌+◌, ◌-◌, ◌%◌, ◌^◌, ◌≤◌, ◌<◌}
use native.Mathlib.Nat.{mod-lt, mod-one, add-mod-mod, add-zero, add-suc, add-sub_of_le}
use native.Mathlib.Omega.{arith}
use mathlib.Core.Path.{◌≡◌, refl, ap, subst, ◌∙◌}
use mathlib.Core.Logic.{◌⊎◌, inl, inr, ⊎_elim}
use mathlib.Core.Bool.{Bool, true, false, cond}
use mathlib.Core.List.{List, [], ◌∷◌, ◌++◌}
use lib.Dec.{ltb}
use lib.ListN.{length}
use lib.Pow.{pow_pos, pow_mono}
use borrow.Author.Tests.{lt-ltb, le-ltb, ltb-true, ltb-false}
use Rattle.rules.specs.Places.{Geometry, tick, total, buckets, shift_of, size_of, dense, first_of, place_from, bucket_of, moves, visited, ring, visits_at}
use Rattle.rules.specs.Places.{visits_from}
use Rattle.numbers.proofs.Cases.{below?}
use Rattle.rules.proofs.Ticks.{tick_mono, tick_up_mono, tick_later}

-- ---- "The lowest fitting level is used"
-- k is the number of d's place at the reading r: the level that it stands at fits, and no level below does.
pub record Lowest (wide : ℕ → ℕ) (s : ℕ) (es : List ℕ) (base r d k : ℕ) : Type 0 where
  pub level : ℕ
  pub exists : level ≤ length es
  pub is : k ≡ first_of wide base es level + tick (shift_of s es level) d % 2 ^ size_of es level
  pub fits : level < length es → d - r < 2 ^ (shift_of s es level + size_of es level)
  pub least : (l : ℕ) → l < level → 2 ^ (shift_of s es l + size_of es l) ≤ d - r

pub place_lowest : (wide : ℕ → ℕ) (s : ℕ) (es : List ℕ) (base r d : ℕ) → Lowest wide s es base r d (place_from wide s es base r d)
place_lowest wide s [] base r d =
    record {
      level = 0;
      exists = omega arith;
      is = omega (arith, mod-one (tick s d));
      fits = λ h. absurd (omega arith);
      least = λ l h. absurd (omega arith);
    }
place_lowest wide s (e ∷ es) base r d = go (ltb (d - r) (2 ^ (s + e))) refl (place_lowest wide (s + e) es (base + wide e) r d)
  where
    lower : 2 ^ (s + e) ≤ d - r → (k : Lowest wide (s + e) es (base + wide e) r d (place_from wide (s + e) es (base + wide e) r d))
        → (l : ℕ) → l < suc k.level → 2 ^ (shift_of s (e ∷ es) l + size_of (e ∷ es) l) ≤ d - r
    lower i k zero h = i
    lower i k (suc l) h = k.least l (omega arith)

    -- this level, or the levels above
    go : (t : Bool) → ltb (d - r) (2 ^ (s + e)) ≡ t → Lowest wide (s + e) es (base + wide e) r d (place_from wide (s + e) es (base + wide e) r d)
        → Lowest wide s (e ∷ es) base r d (cond t (base + tick s d % 2 ^ e) (place_from wide (s + e) es (base + wide e) r d))
    go true i k =
        record { level = 0; exists = omega arith; is = refl; fits = λ h. ltb-true (d - r) (2 ^ (s + e)) i; least = λ l h. absurd (omega arith) }
    go false i k =
        record {
          level = suc k.level;
          exists = omega (arith, k.exists);
          is = k.is;
          fits = λ h. k.fits (omega arith);
          least = lower (ltb-false (d - r) (2 ^ (s + e)) i) k;
        }

-- each next shift is the shift before plus the exponent of that level's count
pub shift_next : (s : ℕ) (es : List ℕ) (l : ℕ) → shift_of s es (suc l) ≡ shift_of s es l + size_of es l
shift_next s [] l = omega arith
shift_next s (e ∷ []) zero = refl
shift_next s (e ∷ e' ∷ es) zero = refl
shift_next s (e ∷ es) (suc l) = shift_next (s + e) es l

pub shift_mono : (s : ℕ) (es : List ℕ) (k j : ℕ) → shift_of s es k ≤ shift_of s es (k + j)
shift_mono s es k zero = omega (arith, ap (shift_of s es) (add-zero k))
shift_mono s es k (suc j) =
    omega (arith, shift_mono s es k j, shift_next s es (k + j), ap (shift_of s es) (add-suc k j))

-- A level is the one that is used if its span is not above the difference (or it is level 0), and the next level's span
-- is above it (or it is the last).
pub lowest_is : (wide : ℕ → ℕ) (s : ℕ) (es : List ℕ) (base r d l : ℕ) → l ≤ length es → (0 < l → 2 ^ shift_of s es l ≤ d - r)
    → (l < length es → d - r < 2 ^ shift_of s es (suc l))
    → place_from wide s es base r d ≡ first_of wide base es l + tick (shift_of s es l) d % 2 ^ size_of es l
lowest_is wide s es base r d l h low high = go (place_lowest wide s es base r d)
  where
    go : Lowest wide s es base r d (place_from wide s es base r d) → place_from wide s es base r d ≡ first_of wide base es l + tick (shift_of s es l) d % 2 ^
        size_of es l
    go k =
        ⊎_elim
        (λ (i : l < k.level). absurd (omega (arith, k.least l i, high (omega (arith, k.exists)), ap (λ (n : ℕ). 2 ^ n) (shift_next s es l))))
        (λ (i : k.level ≤ l).
        ⊎_elim
        (λ (j : k.level < l).
        let m : shift_of s es (suc k.level) ≤ shift_of s es l = omega
        (arith, shift_mono s es (suc k.level) (l - suc k.level), ap (shift_of s es) (add-sub_of_le j)) in
        absurd (omega (arith, k.fits (omega arith), low (omega arith), ap (λ (n : ℕ). 2 ^ n) (shift_next s es k.level), pow_mono m)))
        (λ (j : l ≤ k.level).
        let m : k.level ≡ l = omega arith in
        k.is ∙ ap (λ (n : ℕ). first_of wide base es n + tick (shift_of s es n) d % 2 ^ size_of es n) m)
        (below? k.level l))
        (below? l k.level)

-- the bucket is one of the wheel's
pub place_in : (s : ℕ) (es : List ℕ) (base r d : ℕ) → place_from dense s es base r d < base + total es
place_in s [] base r d = omega arith
place_in s (e ∷ es) base r d =
    ⊎_elim
    (λ (i : d - r < 2 ^ (s + e)). simp (lt-ltb (d - r) (2 ^ (s + e)) i) (omega (arith, mod-lt (tick s d) (pow_pos e))))
    (λ (i : 2 ^ (s + e) ≤ d - r). simp (le-ltb (d - r) (2 ^ (s + e)) i) (omega (arith, place_in (s + e) es (base + 2 ^ e) r d)))
    (below? (d - r) (2 ^ (s + e)))

pub bucket_of_in : (g : Geometry) (r d : ℕ) → bucket_of g r d < buckets g
bucket_of_in g r d = omega (arith, place_in g.shift g.sizes 0 r d)

-- ---- the buckets that are visited
abbrev pub Mem : ℕ → List ℕ → Type 0
Mem x [] = ⊥
Mem x (y ∷ ys) = (x ≡ y) ⊎ Mem x ys

pub mem_left : (xs ys : List ℕ) (x : ℕ) → Mem x xs → Mem x (xs ++ ys)
mem_left (y ∷ xs) ys x (inl e) = inl e
mem_left (y ∷ xs) ys x (inr m) = inr (mem_left xs ys x m)
mem_left [] ys x x3 = elim x3 [ ]

pub mem_right : (xs ys : List ℕ) (x : ℕ) → Mem x ys → Mem x (xs ++ ys)
mem_right [] ys x m = m
mem_right (y ∷ xs) ys x m = inr (mem_right xs ys x m)

ring_at : (base m t k j : ℕ) → j < k → Mem (base + (t + j) % m) (ring base m t k)
ring_at base m t zero j h = absurd (omega arith)
ring_at base m t (suc k) zero h = inl (ap (λ (n : ℕ). base + n % m) (add-zero t))
ring_at base m t (suc k) (suc j) h =
    inr (subst (λ (n : ℕ). Mem (base + n % m) (ring base m (suc t) k)) (omega arith) (ring_at base m (suc t) k j (omega arith)))

-- where the tick does not move, the level visits none
pub visited_still : (s e p q : ℕ) → tick s q ≤ tick s p → visited s e p q ≡ 0
visited_still s e p q h = simp (le-ltb (tick s p) (tick s q) h)

-- where it moves, the bucket j ticks on from p's is visited, up to q's own tick, as far as there are buckets
pub visited_covers : (s e p q j : ℕ) → tick s p < tick s q → j ≤ tick s q - tick s p → j < 2 ^ e → j < visited s e p q
visited_covers s e p q j m h k = simp (lt-ltb (tick s p) (tick s q) m) (omega arith)

-- a tick between p's and q's has its bucket visited, though there be fewer buckets than ticks
pub visits_tick : (s e base p q t : ℕ) → tick s p < tick s q → tick s p ≤ t → t ≤ tick s q → Mem (base + t % 2 ^ e) (visits_at s e base p q)
visits_tick s e base p q t m h k =
    let a : ℕ = tick s p in
    ⊎_elim
    (λ (i : t - a < 2 ^ e).
    subst (λ (n : ℕ). Mem (base + n % 2 ^ e) (visits_at s e base p q)) (omega arith)
    (ring_at base (2 ^ e) a (visited s e p q) (t - a) (visited_covers s e p q (t - a) m (omega arith) i)))
    (λ (i : 2 ^ e ≤ t - a).
    let r : (t - a) % 2 ^ e < 2 ^ e = mod-lt (t - a) (pow_pos e) in
    subst (λ (n : ℕ). Mem (base + n) (visits_at s e base p q)) (add-mod-mod a (t - a) (2 ^ e) ∙ ap (λ (n : ℕ). n % 2 ^ e) (omega arith))
    (ring_at base (2 ^ e) a (visited s e p q) ((t - a) % 2 ^ e) (visited_covers s e p q ((t - a) % 2 ^ e) m (omega arith) r)))
    (below? (t - a) (2 ^ e))

-- where the tick does not move, nothing is visited: "everything ends"
pub visits_none : (s : ℕ) (es : List ℕ) (base p q : ℕ) → tick s q ≤ tick s p → visits_from s es base p q ≡ []
visits_none s [] base p q h = rw (visited_still s 0 p q h)
visits_none s (e ∷ es) base p q h = simp (le-ltb (tick s p) (tick s q) h)

-- ---- the invariant of a timer's place
-- b is the bucket of t's tick at some level, and that tick is not passed at the reading p: at the first level it is o
-- or more above p's, o being 0 or 1, and at the
-- levels above the first it is above p's. t is the timer's effective time.
abbrev pub InTime : ℕ → ℕ → List ℕ → ℕ → ℕ → ℕ → ℕ → Type 0
InTime o s [] base p t b = (b ≡ base) × (o + tick s p ≤ tick s t)
InTime o s (e ∷ es) base p t b =
    ((b ≡ base + tick s t % 2 ^ e) × (o + tick s p ≤ tick s t)) ⊎ InTime 1 (s + e) es (base + 2 ^ e) p t b

-- a time whose tick is not passed is placed so
pub placed_in_time : (o s : ℕ) (es : List ℕ) (base p t : ℕ) → o + tick s p ≤ tick s t → InTime o s es base p t (place_from dense s es base p t)
placed_in_time o s [] base p t h = (refl, h)
placed_in_time o s (e ∷ es) base p t h =
    ⊎_elim
    (λ (i : t - p < 2 ^ (s + e)). simp (lt-ltb (t - p) (2 ^ (s + e)) i) (inl (refl, h)))
    (λ (i : 2 ^ (s + e) ≤ t - p).
    simp (le-ltb (t - p) (2 ^ (s + e)) i) (inr (placed_in_time 1 (s + e) es (base + 2 ^ e) p t (omega (arith, tick_later (s + e) p t i)))))
    (below? (t - p) (2 ^ (s + e)))

-- a clock stepped back keeps it
pub in-time-back : (o s : ℕ) (es : List ℕ) (base p r t b : ℕ) → tick s r ≤ tick s p → InTime o s es base p t b → InTime o s es base r t b
in-time-back o s [] base p r t b h i = (i.0, omega (arith, i.1))
in-time-back o s (e ∷ es) base p r t b h (inl i) = inl (i.0, omega (arith, i.1))
in-time-back o s (e ∷ es) base p r t b h (inr i) = inr (in-time-back 1 (s + e) es (base + 2 ^ e) p r t b (tick_up_mono s e r p h) i)

-- an advance that enters a later tick visits the bucket, or t's tick is after q's at its level
pub in-time-on : (o s : ℕ) (es : List ℕ) (base p q t b : ℕ) → tick s p < tick s q → InTime o s es base p t b
    → Mem b (visits_from s es base p q) ⊎ InTime 1 s es base q t b
in-time-on o s [] base p q t b h i =
    ⊎_elim
    (λ (k : tick s q < tick s t). inr (i.0, omega arith))
    (λ (k : tick s t ≤ tick s q).
    inl (subst (λ (n : ℕ). Mem n (visits_at s 0 base p q)) (omega (arith, mod-one (tick s t), i.0))
    (visits_tick s 0 base p q (tick s t) h (omega (arith, i.1)) k)))
    (below? (tick s q) (tick s t))
in-time-on o s (e ∷ es) base p q t b h (inl i) =
    ⊎_elim
    (λ (k : tick s q < tick s t). inr (inl (i.0, omega arith)))
    (λ (k : tick s t ≤ tick s q).
    inl (mem_left (visits_at s e base p q) (cond (moves s p q) (visits_from (s + e) es (base + 2 ^ e) p q) []) b
    (rw i.0 (visits_tick s e base p q (tick s t) h (omega (arith, i.1)) k))))
    (below? (tick s q) (tick s t))
in-time-on o s (e ∷ es) base p q t b h (inr i) =
    ⊎_elim
    (λ (k : tick (s + e) p < tick (s + e) q).
    ⊎_elim
    (λ m. inl (mem_right (visits_at s e base p q) (cond (moves s p q) (visits_from (s + e) es (base + 2 ^ e) p q) []) b (rw (lt-ltb (tick s p) (tick s q) h) m)))
    (λ j. inr (inr j))
    (in-time-on 1 (s + e) es (base + 2 ^ e) p q t b k i))
    (λ (k : tick (s + e) q ≤ tick (s + e) p). inr (inr (in-time-back 1 (s + e) es (base + 2 ^ e) p q t b k i)))
    (below? (tick (s + e) p) (tick (s + e) q))

-- where o is 1, t is after the reading
pub in-time-after : (s : ℕ) (es : List ℕ) (base p t b : ℕ) → InTime 1 s es base p t b → p < t
in-time-after s es base p t b i = ⊎_elim (λ (k : p < t). k) (λ (k : t ≤ p). absurd (early s es base i k)) (below? p t)
  where
    early : (s : ℕ) (es : List ℕ) (base : ℕ) → InTime 1 s es base p t b → t ≤ p → ⊥
    early s [] base i k = omega (arith, i.1, tick_mono s t p k)
    early s (e ∷ es) base (inl i) k = omega (arith, i.1, tick_mono s t p k)
    early s (e ∷ es) base (inr i) k = early (s + e) es (base + 2 ^ e) i k

pub in-time-weak : (s : ℕ) (es : List ℕ) (base p t b : ℕ) → InTime 1 s es base p t b → InTime 0 s es base p t b
in-time-weak s [] base p t b i = (i.0, omega (arith, i.1))
in-time-weak s (e ∷ es) base p t b (inl i) = inl (i.0, omega (arith, i.1))
in-time-weak s (e ∷ es) base p t b (inr i) = inr i

-- the bucket is one of the wheel's
pub in-time-in : (o s : ℕ) (es : List ℕ) (base p t b : ℕ) → InTime o s es base p t b → b < base + total es
in-time-in o s [] base p t b i = omega (arith, i.0)
in-time-in o s (e ∷ es) base p t b (inl i) = omega (arith, i.0, mod-lt (tick s t) (pow_pos e))
in-time-in o s (e ∷ es) base p t b (inr i) = omega (arith, in-time-in 1 (s + e) es (base + 2 ^ e) p t b i)
