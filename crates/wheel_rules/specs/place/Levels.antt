-- inner: the levels of 01's wheel by their numbers, and the place of a time at a level.
use Rattle.std.specs.Prelude.{ℕ, ◌+◌, ◌*◌, ◌%◌, ◌^◌, min}
use Rattle.rules.specs.Places.{wheel01, tick, shift_of, size_of, dense, first_of}
use Rattle.wheel_rules.specs.declared.place.Place.{Place}

-- "Tick is 2^"
abbrev pub shift01 : ℕ → ℕ
shift01 l = shift_of wheel01.shift wheel01.sizes l

-- the exponent of "Buckets"
abbrev pub size01 : ℕ → ℕ
size01 l = size_of wheel01.sizes l

-- the number of the level's first bucket
abbrev pub first01 : ℕ → ℕ
first01 l = first_of dense 0 wheel01.sizes l

-- "the index is the deadline's tick at that level modulo the bucket count"
abbrev pub index_at : ℕ → ℕ → ℕ
index_at l t = tick (shift01 l) t % 2 ^ size01 l

abbrev pub place_at : ℕ → ℕ → Place
place_at l t = record { bucket = first01 l + index_at l t; number = min l 4 * 64 + index_at l t }
