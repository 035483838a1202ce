-- inner: rows of refusals, ordered by the lowest number first, as a relation of the answered number; and the number
-- that a result answers.
use Rattle.std.specs.Prelude.{ℕ, List, [], ◌∷◌, Result, Ok, Err}
use Rattle.numbers.specs.Refusals.{number_of}
use Rattle.numbers.specs.Shared.{unless, not_refused}
use Rattle.numbers.specs.declared.refusals.Refusal.{Refusal}

-- rows in a list, each a test and its number
abbrev pub given : List (Type 0 × ℕ) → ℕ → Type 0
given [] = not_refused
given (t ∷ ts) = unless t.0 t.1 (given ts)

-- the number of a result's refusal, 0 where it is none
abbrev pub refusal_in : {A : Type 0} → Result A Refusal → ℕ
refusal_in (Ok a) = 0
refusal_in (Err why) = number_of why
