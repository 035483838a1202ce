-- inner to the programs: a buffer in which answers wait: what `append` and `append_decimal` promise.
use Rattle.std.specs.Prelude.{ℕ, ◌+◌, ◌≤◌, ◌<◌, ◌≡◌, cond, List, [], ◌∷◌, length, leb, ltb}
use Rattle.lines.specs.declared.collecting.Lines.{Lines}
use Rattle.std.proofs.Math.Seq.{paste}
use Rattle.lines.specs.Parts.{space}
use Rattle.io.specs.Digits.{last_digits, IsDigitCount}

-- where n bytes go in a buffer of `most`: after the `at` that wait, or at the start, where there is no room and those
-- are written out first
abbrev pub place_of : ℕ → ℕ → ℕ → ℕ
place_of at n most = cond (leb (at + n) most) at 0

-- how many bytes wait where the answers are written out unless more of the block is to be answered
abbrev pub settled : ℕ → Lines → ℕ
settled at s = cond (ltb s.from s.upto) at 0

-- `text` was put after the `at` bytes that waited in `out`, which is `buffer` now, and r bytes wait.
pub record Appended (out : List ℕ) (at : ℕ) (text : List ℕ) (buffer : List ℕ) (r : ℕ) : Type 0 where
  -- the text stands at its place, and what waits ends with it
  pub waits : length text ≤ length out → r ≡ place_of at (length text) (length out) + length text
  pub stands : length text ≤ length out → buffer ≡ paste out (place_of at (length text) (length out)) text (length text)
  -- a text longer than the buffer is written out at once: nothing waits
  pub none_waits : length out < length text → r ≡ 0
  pub untouched : length out < length text → buffer ≡ out
  -- what waits lies within the buffer
  pub within : r ≤ length buffer

-- The same for a number: its decimal digits, as few as hold it.
pub record AppendedNumber (out : List ℕ) (at n : ℕ) (buffer : List ℕ) (r : ℕ) : Type 0 where
  pub places : ℕ
  pub fewest : IsDigitCount 10 1 n places
  pub appended : Appended out at (last_digits 10 places n) buffer r
  pub within : r ≤ length buffer

-- The same for a space and a number.
pub record AppendedField (out : List ℕ) (at n : ℕ) (buffer : List ℕ) (r : ℕ) : Type 0 where
  pub between : List ℕ
  pub wait : ℕ
  pub spaced : Appended out at (space ∷ []) between wait
  pub numbered : AppendedNumber between wait n buffer r
  pub within : r ≤ length buffer
