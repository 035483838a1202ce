-- inner: 01's "Sound means", of a wheel on lists.
-- What 01 says there of links needs no sentence: lists have none. What it says of lengths is said of lent records (the
-- code's soundness).
use Rattle.std.specs.Prelude.{ℕ, suc, ◌≤◌, ◌<◌, true, cond, ◌≡◌, ltb}
use Rattle.rules.specs.Lists.{times}
use Rattle.rules.specs.Places.{Geometry, buckets, visits, visited_at, bucket_at, ahead}
use Rattle.rules.specs.Wheel.{Slot, Lists, hit, count, Advance, closed, poised, within, Wheel}

-- how often the free chain has to hold the slot y: once where it is free. A slot below D is a sentinel, one from
-- `nodes` on is absent, any other is armed or free.
abbrev pub spare : ℕ → ℕ → (ℕ → Slot) → ℕ → ℕ
spare D nodes f y = cond (ltb y D) 0 (cond (ltb y nodes) (cond (f y).armed 0 1) 0)

-- The lists of a wheel with D buckets, and so many node records and entries, whose next serial is `next`.
pub record SoundLists (D nodes entries next : ℕ) (L : Lists) : Type 0 where
  -- "each slot is a sentinel, armed or free, and just one of these": what is armed is no sentinel and exists
  pub slot : (y : ℕ) → (L.node y).armed ≡ true → (D ≤ y) × (y < nodes)
  -- "each bucket's links run .. over its own sentinel and the armed slots naming that bucket": each of these once, and
  -- nothing else
  pub stands : (y : ℕ) → (L.node y).armed ≡ true → (c : ℕ) → times y (L.bucket c) ≡ hit (L.node y).bucket c
  pub bucket : (y : ℕ) → (L.node y).armed ≡ true → (L.node y).bucket < D
  pub member : (c y : ℕ) → 0 < times y (L.bucket c) → (L.node y).armed ≡ true
  -- "the free chain holds each free slot once", and nothing else
  pub free : (y : ℕ) → count y L.free ≡ spare D nodes L.node y
  -- "armed entry numbers exist"
  pub entry : (y : ℕ) → (L.node y).armed ≡ true → (L.node y).entry < entries
  -- "armed serials differ and lie below the next"
  pub below : (y : ℕ) → (L.node y).armed ≡ true → (L.node y).serial < next
  pub differ : (y z : ℕ) → (L.node y).armed ≡ true → (L.node z).armed ≡ true → (L.node y).serial ≡ (L.node z).serial → y ≡ z

-- "an open advance stands before its first bucket or in one that it visits", with the buckets after that one yet to
-- enter; q is the reading
abbrev pub SoundAdvance : Geometry → ℕ → Advance → Type 0
SoundAdvance g q closed = Unit {0}
SoundAdvance g q (poised p bs) = bs ≡ visits g p q
SoundAdvance g q (within p b bs) =
    (l : ℕ) × (i : ℕ) × (i < visited_at g p q l) × (b ≡ bucket_at g p l i) × (bs ≡ ahead g p q l (suc i))

pub record Sound (g : Geometry) (w : Wheel) : Type 0 where
  pub lists : SoundLists (buckets g) w.nodes w.entries w.next w.lists
  pub advance : SoundAdvance g w.reading w.advance

-- every enabled wheel is to be sound; of one that is not enabled nothing is asked
abbrev pub SoundIfEnabled : Geometry → Wheel → Type 0
SoundIfEnabled g w = w.enabled ≡ true → Sound g w
