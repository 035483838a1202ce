-- inner to the programs: the digest of a run of numbers: FNV-1a on 64-bit words.
use Rattle.std.specs.Prelude.{ℕ, ◌-◌, ◌*◌, ◌%◌, ◌^◌, cond, eqb, List, [], ◌∷◌}
use Rattle.numbers.specs.Shared.{no_slot, past_end}
use Rattle.lines.specs.declared.rows.Value.{Value}
use Rattle.lines.specs.declared.rows.Value.TheVariants.{Number, Link}
use Rattle.std.specs.Int.Bits.{bit_xor}

-- the digest of no numbers
abbrev pub begun : ℕ
begun = 14695981039346656037

-- the digest h with x after it: ((h xor x) x 1099511628211) modulo 2^64
abbrev pub mixed : ℕ → ℕ → ℕ
mixed h x = (bit_xor h x * 1099511628211) % 2 ^ 64

-- the digest h with all of the numbers after it, in order
unfoldable pub mixed_all : ℕ → List ℕ → ℕ
mixed_all h [] = h
mixed_all h (x ∷ l) = mixed_all (mixed h x) l

-- what a value of a row counts as in a digest: a number itself, and so a link, but none and past the end count as the
-- two greatest numbers
abbrev pub counts_as : Value → ℕ
counts_as (Number n) = n
counts_as (Link n) = cond (eqb n no_slot) (2 ^ 64 - 1) (cond (eqb n past_end) (2 ^ 64 - 2) n)

-- the digest h with a row's values after it, in order
unfoldable pub mixed_row : ℕ → List Value → ℕ
mixed_row h [] = h
mixed_row h (v ∷ vs) = mixed_row (mixed h (counts_as v)) vs
