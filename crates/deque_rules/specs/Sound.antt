-- inner: sound links and a sound free chain, and what the test of them answers.
use Rattle.std.specs.Prelude.{ℕ, ◌+◌, ◌≤◌, ◌<◌, Bool, true, List, ◌≡◌, length, get_or, Option, Some, None}
use Rattle.deque_rules.specs.Layout.{Sizes}
use Rattle.deque_rules.specs.Links.{Chain, Path, first, Links, slot_after, home_of, Whole}
use Rattle.numbers.specs.Shared.{no_slot, In}

-- the test is exact
pub record Verdict (a : Links) (free : ℕ) (r : Bool) : Type 0 where
  pub sound : r ≡ true → Whole a free
  pub complete : Whole a free → r ≡ true

-- ---- one deque, and the free chain, for tests that also look at something else of each deque
-- xs is what the records link from b on in the deque d
abbrev pub Runs : Links → ℕ → ℕ → List ℕ → Type 0
Runs a d b xs = Chain no_slot (slot_after a.heads a.next d) (slot_after a.tails a.prev d) b xs × ((x : ℕ) → In x xs → (x < length a.next) × (home_of a x ≡ d))

-- r is how many slots the deque d has, or above none where the records link no list there
pub record Walked (a : Links) (d r : ℕ) : Type 0 where
  pub found : r ≤ no_slot → (xs : List ℕ) × Runs a d no_slot xs × (length xs ≡ r)
  pub bad : no_slot < r → (xs : List ℕ) → Runs a d no_slot xs → ⊥

-- xs is what next links from x on, over slots whose home is none
abbrev pub Spares : List ℕ → List ℕ → ℕ → List ℕ → Type 0
Spares next home x xs = (first xs ≡ x) × Path (λ (y : ℕ). get_or next y 0) xs × ((y : ℕ) → In y xs → (y < length next) × (get_or home y 0 ≡ no_slot))

pub record WalkedFree (next home : List ℕ) (free r : ℕ) : Type 0 where
  pub found : r ≤ no_slot → (xs : List ℕ) × Spares next home free xs × (length xs ≡ r)
  pub bad : no_slot < r → (xs : List ℕ) → Spares next home free xs → ⊥

-- A walk tells a number of slots, at most none, or None, which stands for a number above none: W is what the walk says of
-- its number, Walked of a deque or WalkedFree.
abbrev pub Tells : (ℕ → Type 0) → Option ℕ → Type 0
Tells W (Some k) = W k × (k ≤ no_slot)
Tells W None = W (no_slot + 1)

-- the lengths that the walk of the free chain asks for: as many homes as links, and no more slots than 4,096
pub record SizesFree (next home : List ℕ) : Type 0 where
  pub home_len : length home ≡ length next
  pub small : length next ≤ no_slot

-- the test of the lent lengths
pub record Sized (a : Links) (r : Bool) : Type 0 where
  pub sound : r ≡ true → Sizes a
  pub complete : Sizes a → r ≡ true
