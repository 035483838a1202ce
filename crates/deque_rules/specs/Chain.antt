-- inner: lists of slots, and what it is that two functions, the slot after and the slot before, link such a list.
use Rattle.std.specs.Prelude.{ℕ, List, [], ◌∷◌, ◌++◌}
use Rattle.deque_rules.specs.Links.{first}
use Rattle.numbers.specs.Lists.{last_or}
use Rattle.numbers.specs.Shared.{before_in, after_in, no_slot}

-- the last of a list, or none
abbrev pub last : List ℕ → ℕ
last xs = last_or no_slot xs

-- the slot that follows s, or none
abbrev pub following : ℕ → List ℕ → ℕ
following s xs = first (after_in s xs)

-- nodes gone from front to back until s is last: what stood after s, what stood before it, s
abbrev pub turned : ℕ → List ℕ → List ℕ
turned s xs = after_in s xs ++ (before_in s xs ++ (s ∷ []))
