-- 01, "Worked numbers": the rows that are proved together.
use Rattle.std.specs.Prelude.{ℕ, ◌-◌, ◌*◌, ◌^◌, List, [], ◌∷◌, ◌++◌, replicate}

-- a row of the table
pub data Row : Type 0 where
  -- at a reading, a deadline has the place (level, index)
  placed : (reading deadline level index : ℕ) → Row
  -- armed at a reading, a deadline fires at the first reading of this tick, and at the last reading of no earlier one
  fires : (reading deadline tick : ℕ) → Row
  -- a sketch of a capacity, on a lent table of as many words as the row has, after increases of these hashes: the words
  -- and the size count
  sketched : (capacity : ℕ) (hashes words : List ℕ) (size : ℕ) → Row

abbrev pub rows : List Row
rows =
    -- "W1 reading 0: deadline 0 and 2^30 - 1 give (0,0). W2: 2^30 gives (0,1)."
    placed 0 0 0 0 ∷
    placed 0 (2 ^ 30 - 1) 0 0 ∷
    placed 0 (2 ^ 30) 0 1 ∷
    -- "W3: 2^36 - 1 gives (0,63). W4: 2^36 gives (1,1). W5: 2^42 gives (2,1). W6: 2^47 - 1 gives (2,31)."
    placed 0 (2 ^ 36 - 1) 0 63 ∷
    placed 0 (2 ^ 36) 1 1 ∷
    placed 0 (2 ^ 42) 2 1 ∷
    placed 0 (2 ^ 47 - 1) 2 31 ∷
    -- "W7: 2^49 - 1 gives (3,3); 2^49 and 2^64 - 1 give (4,0)."
    placed 0 (2 ^ 49 - 1) 3 3 ∷
    placed 0 (2 ^ 49) 4 0 ∷
    placed 0 (2 ^ 64 - 1) 4 0 ∷
    -- "W8 reading 1, deadline 2^36: (0,0)."
    placed 1 (2 ^ 36) 0 0 ∷
    -- "W9 reading 5 x 2^30, deadline 2 x 2^30: (0,2). It fires at a reading in tick 66, not 65."
    placed (5 * 2 ^ 30) (2 * 2 ^ 30) 0 2 ∷
    fires (5 * 2 ^ 30) (2 * 2 ^ 30) 66 ∷
    -- "S1 capacity 0, hash 0 ten times: word 5555 hex, size 5."
    sketched 0 (replicate 10 0) (0x5555 ∷ []) 5 ∷
    -- "S2 hash 0 nine times, hash 1 once: 4444 hex, size 3."
    sketched 0 (replicate 9 0 ++ (1 ∷ [])) (0x4444 ∷ []) 3 ∷
    -- "S3 hash 0 seven times, 1, 2, 3 once each: 3333 hex, size 1."
    sketched 0 (replicate 7 0 ++ (1 ∷ 2 ∷ 3 ∷ [])) (0x3333 ∷ []) 1 ∷
    []
