-- inner: the order of a bucket, as 01 tells it step by step.
use Rattle.std.specs.Prelude.{ℕ, zero, suc, Bool, false, cond, List, [], ◌∷◌, ◌++◌, eqb}

-- the first goes to the back
abbrev pub front_to_back : List ℕ → List ℕ
front_to_back [] = []
front_to_back (x ∷ xs) = xs ++ (x ∷ [])

-- z is the last
abbrev pub is_last : ℕ → List ℕ → Bool
is_last z [] = false
is_last z (x ∷ []) = eqb z x
is_last z (x ∷ y ∷ ys) = is_last z (y ∷ ys)

-- "nodes go front to back until the sentinel is last": at most k moves
abbrev pub turn_until_last : ℕ → ℕ → List ℕ → List ℕ
turn_until_last z zero xs = xs
turn_until_last z (suc k) xs = cond (is_last z xs) xs (turn_until_last z k (front_to_back xs))
