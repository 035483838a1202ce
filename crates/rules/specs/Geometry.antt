-- inner: the geometry of a wheel: its levels, their ticks and their buckets. 01, "Times and places".
-- The laws hold for every first shift and every list of exponents; 01's wheel is the instance `wheel01`.
use Rattle.std.specs.Prelude.{ℕ, ◌+◌, ◌^◌, List, [], ◌∷◌}

-- ---- the columns of 01's table
abbrev pub shifts : ℕ → List ℕ → List ℕ
shifts s [] = s ∷ []
shifts s (e ∷ es) = s ∷ shifts (s + e) es

abbrev pub counts : List ℕ → List ℕ
counts [] = 1 ∷ []
counts (e ∷ es) = 2 ^ e ∷ counts es
