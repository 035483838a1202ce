-- inner: where a deadline is placed. 01, "Times and places".
use Rattle.std.specs.Prelude.{ℕ}

-- The time by which a timer with the deadline d, last placed at the reading r, is due: the deadline. The invariant of
-- demand 3 speaks of this time alone, so a later rule for overdue deadlines changes this definition, `bucket_of`, and
-- the three laws of proofs/Effective.antt.
unfoldable pub effective : ℕ → ℕ → ℕ
effective r d = d
