-- inner: the buckets, the free slots and the node records of a wheel, on lists, and what is done to them. 01, "Buckets
-- and slots".
-- Buckets and nodes are functions from their number, so that nothing here speaks of lengths.
use Rattle.std.specs.Prelude.{ℕ, ◌+◌}
use Rattle.rules.specs.Wheel.{Bucket, count}

abbrev pub times : ℕ → Bucket → ℕ
times x B = count x B.early + count x B.late
