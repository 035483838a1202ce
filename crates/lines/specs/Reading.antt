-- inner to the programs: a part of a line as a number: decimal digits, at most 2^64 - 1, or `-` for none.
use Rattle.std.specs.Prelude.{Option, Some, None, ℕ, ◌+◌, ◌-◌, ◌*◌, ◌^◌, Bool, true, false, cond, List, [], ◌∷◌, length, get_or, eqb, ltb}
use Rattle.lines.specs.declared.reading.Number.{Number}
use Rattle.lines.specs.declared.reading.Number.TheVariants.{Is, Dash, Other}

-- the digit that a byte stands for, `0` to `9`, or 10 where it stands for none
abbrev pub digit_of : ℕ → ℕ
digit_of b = cond (ltb b 48) 10 (cond (ltb 57 b) 10 (b - 48))

abbrev pub pick_number : Bool → Number → Number → Number
pick_number true a b = a
pick_number false a b = b

-- the number whose first digits make n and whose other digits are the bytes: something else where a byte is no digit or
-- the number is above 2^64 - 1
unfoldable pub read_on : ℕ → List ℕ → Number
read_on n [] = Is n
read_on n (b ∷ l) = pick_number (ltb 9 (digit_of b)) Other (pick_number (ltb (n * 10 + digit_of b) (2 ^ 64)) (read_on (n * 10 + digit_of b) l) Other)

-- what digits say: the number, or something else where there is none
abbrev pub said : Option ℕ → Number
said (Some n) = Is n
said None = Other

-- a dash is none where it stands alone
abbrev pub dash_of : ℕ → Number
dash_of n = pick_number (eqb n 1) Dash Other

-- what a part says. Leading zeros are decimal; a part with no bytes is something else
abbrev pub number_of : List ℕ → Number
number_of l = pick_number (eqb (length l) 0) Other (pick_number (eqb (get_or l 0 0) 45) (dash_of (length l)) (read_on 0 l))
