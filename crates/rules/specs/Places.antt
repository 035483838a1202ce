-- 01, "Times and places": the levels of a wheel, where a deadline is placed, and which buckets an advance visits. The
-- laws hold for every geometry; 01's wheel is the instance `wheel01`.
use Rattle.std.specs.Prelude.{ℕ, ◌/◌, ◌^◌, ◌+◌, zero, suc, ◌-◌, ◌%◌, min, ◌≤◌, cond, Bool, List, [], ◌∷◌, ◌++◌, ◌⊎◌, ◌≡◌, ltb, drop}

-- ======== levels

-- 01's table: a level has ticks of 2 ^ s nanoseconds and 2 ^ e buckets, and the next level's tick is this one times the
-- bucket count, 2 ^ (s + e).
pub record Geometry : Type 0 where
  -- the first level's tick is 2 ^ shift
  pub shift : ℕ
  -- the exponents of the bucket counts, level by level, without the last level: that one has a single bucket (exponent
  -- 0) and no limit
  pub sizes : List ℕ

-- "Tick is 2^" 30, 36, 42, 47, 49; "Buckets" 64, 64, 32, 4, 1
abbrev pub wheel01 : Geometry
wheel01 = record { shift = 30; sizes = 6 ∷ 6 ∷ 5 ∷ 2 ∷ [] }

-- the tick of a time, for ticks of 2 ^ s; at the first level's shift it is 01's "tick" alone
unfoldable pub tick : ℕ → ℕ → ℕ
tick s t = t / 2 ^ s

-- how many buckets there are in all: 165 in 01's wheel
abbrev pub total : List ℕ → ℕ
total [] = 1
total (e ∷ es) = 2 ^ e + total es

abbrev pub buckets : Geometry → ℕ
buckets g = total g.sizes

-- ---- one level by its number l, counted from 0; from the list's length on it is the last level
abbrev pub shift_of : ℕ → List ℕ → ℕ → ℕ
shift_of s [] l = s
shift_of s (e ∷ es) zero = s
shift_of s (e ∷ es) (suc l) = shift_of (s + e) es l

abbrev pub size_of : List ℕ → ℕ → ℕ
size_of [] l = 0
size_of (e ∷ es) zero = e
size_of (e ∷ es) (suc l) = size_of es l

-- Buckets are numbered level by level: how many numbers a level with 2 ^ e buckets takes. As bucket numbers have no
-- gap, as many as it has buckets; in 01's "level x 64 + index", 64.
abbrev pub dense : ℕ → ℕ
dense e = 2 ^ e

abbrev pub spaced : ℕ → ℕ
spaced e = 64

-- the number of the level's first bucket
abbrev pub first_of : (ℕ → ℕ) → ℕ → List ℕ → ℕ → ℕ
first_of wide base [] l = base
first_of wide base (e ∷ es) zero = base
first_of wide base (e ∷ es) (suc l) = first_of wide (base + wide e) es l

-- ======== places

-- "Used if deadline - reading is below 2^": 2 ^ (s + e) at a level with ticks of 2 ^ s and 2 ^ e buckets, "no limit" at
-- the last. "A deadline before the reading counts as difference 0", as the difference of numbers is. "The lowest
-- fitting level is used; the index is the deadline's tick at that level modulo the bucket count." The level's numbers
-- begin at base; `wide e` is how many are kept for a level with 2 ^ e buckets.
abbrev pub place_from : (ℕ → ℕ) → ℕ → List ℕ → ℕ → ℕ → ℕ → ℕ
place_from wide s [] base r d = base
place_from wide s (e ∷ es) base r d =
    cond (ltb (d - r) (2 ^ (s + e))) (base + tick s d % 2 ^ e) (place_from wide (s + e) es (base + wide e) r d)

-- the number of the bucket, which is also its sentinel's slot: level by level with no gap, 0 to 164 in 01's wheel
abbrev pub bucket_of : Geometry → ℕ → ℕ → ℕ
bucket_of g r d = place_from dense g.shift g.sizes 0 r d

-- "level x 64 + index": the place as the host's function and the event Rescheduled give it
abbrev pub place_of : Geometry → ℕ → ℕ → ℕ
place_of g r d = place_from spaced g.shift g.sizes 0 r d

-- ======== visits

-- q's tick is above p's, for ticks of 2 ^ s
abbrev pub moves : ℕ → ℕ → ℕ → Bool
moves s p q = ltb (tick s p) (tick s q)

-- "If q's tick at a level is not above p's, everything ends. Otherwise it visits buckets from p's tick to q's tick,
-- both included, at most the level's count":
-- how many buckets an advance from p to q visits at a level with ticks of 2 ^ s and 2 ^ e buckets. All that follows
-- goes by this number.
abbrev pub visited : ℕ → ℕ → ℕ → ℕ → ℕ
visited s e p q = cond (moves s p q) (min (suc (tick s q - tick s p)) (2 ^ e)) 0

-- k buckets in order, from that of the tick t on, of a level with m buckets whose first is numbered base
abbrev pub ring : ℕ → ℕ → ℕ → ℕ → List ℕ
ring base m t zero = []
ring base m t (suc k) = (base + t % m) ∷ ring base m (suc t) k

-- the buckets visited at one level
abbrev pub visits_at : ℕ → ℕ → ℕ → ℕ → ℕ → List ℕ
visits_at s e base p q = ring base (2 ^ e) (tick s p) (visited s e p q)

-- "Advance goes level by level from 0": all buckets visited, in order
abbrev pub visits_from : ℕ → List ℕ → ℕ → ℕ → ℕ → List ℕ
visits_from s [] base p q = visits_at s 0 base p q
visits_from s (e ∷ es) base p q =
    visits_at s e base p q ++ cond (moves s p q) (visits_from (s + e) es (base + 2 ^ e) p q) []

abbrev pub visits : Geometry → ℕ → ℕ → List ℕ
visits g p q = visits_from g.shift g.sizes 0 p q

-- ---- the position of an open advance as two numbers: `step` buckets of `level` have been entered, the last of them is
-- the one it stands in
-- how many buckets of the level it visits
abbrev pub visited_at : Geometry → ℕ → ℕ → ℕ → ℕ
visited_at g p q l = visited (shift_of g.shift g.sizes l) (size_of g.sizes l) p q

-- the bucket that it enters after j others of the level l
abbrev pub bucket_at : Geometry → ℕ → ℕ → ℕ → ℕ
bucket_at g p l j =
    first_of dense 0 g.sizes l + (tick (shift_of g.shift g.sizes l) p + j) % 2 ^ size_of g.sizes l

-- the buckets that it has yet to enter after j of the level l
abbrev pub ahead_from : ℕ → List ℕ → ℕ → ℕ → ℕ → ℕ → ℕ → List ℕ
ahead_from s [] base p q l j = drop j (visits_at s 0 base p q)
ahead_from s (e ∷ es) base p q zero j =
    drop j (visits_at s e base p q) ++ cond (moves s p q) (visits_from (s + e) es (base + 2 ^ e) p q) []
ahead_from s (e ∷ es) base p q (suc l) j = ahead_from (s + e) es (base + 2 ^ e) p q l j

abbrev pub ahead : Geometry → ℕ → ℕ → ℕ → ℕ → List ℕ
ahead g p q l j = ahead_from g.shift g.sizes 0 p q l j

-- 01, "Sound means": "an open advance stands before its first bucket or in one that it visits". Level 0 and step 0
-- stand before the first bucket, for every p and q.
abbrev pub SoundPosition : Geometry → ℕ → ℕ → ℕ → ℕ → Type 0
SoundPosition g p q l j = ((l ≡ 0) × (j ≡ 0)) ⊎ ((1 ≤ j) × (j ≤ visited_at g p q l))
