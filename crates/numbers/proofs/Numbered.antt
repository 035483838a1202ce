-- No two refusals have one number, and none has 0.
use Rattle.std.proofs.Common.{◌≡◌, ℕ, ◌<◌, refl, ap, arith, List, [], ◌∷◌, get_or, ◌-◌}
use Rattle.numbers.specs.Refusals.{number_of}
use Rattle.numbers.specs.declared.refusals.Refusal.{Refusal}
use Rattle.numbers.specs.declared.refusals.Refusal.TheVariants as why

-- the refusals by their numbers, from 1 on
abbrev in_order : List Refusal
in_order =
    why.NotEnabled ∷ why.AlreadyEnabled ∷ why.LengthsOutOfRange ∷ why.NotSound ∷ why.AdvanceOpen ∷
    why.NoAdvanceOpen ∷ why.NoSuchEntry ∷ why.AnotherGeneration ∷ why.NoDeadline ∷ why.NoFreeSlot ∷
    why.LastSerial ∷ why.StaleHandle ∷ why.NotTheArmedGeneration ∷ why.TableTooShort ∷ why.CapacityTooLarge ∷
    why.NoSuchDeque ∷ why.NotInThisDeque ∷ []

-- the refusal with a number
abbrev named : ℕ → Refusal
named n = get_or in_order (n - 1) why.NotEnabled

named_back : (r : Refusal) → named (number_of r) ≡ r
named_back why.NotEnabled = refl
named_back why.AlreadyEnabled = refl
named_back why.LengthsOutOfRange = refl
named_back why.NotSound = refl
named_back why.AdvanceOpen = refl
named_back why.NoAdvanceOpen = refl
named_back why.NoSuchEntry = refl
named_back why.AnotherGeneration = refl
named_back why.NoDeadline = refl
named_back why.NoFreeSlot = refl
named_back why.LastSerial = refl
named_back why.StaleHandle = refl
named_back why.NotTheArmedGeneration = refl
named_back why.TableTooShort = refl
named_back why.CapacityTooLarge = refl
named_back why.NoSuchDeque = refl
named_back why.NotInThisDeque = refl

pub number_once : (r s : Refusal) → number_of r ≡ number_of s → r ≡ s
number_once r s same = grind (arith, named_back r, named_back s, ap named same)

pub number_above : (r : Refusal) → 0 < number_of r
number_above why.NotEnabled = omega arith
number_above why.AlreadyEnabled = omega arith
number_above why.LengthsOutOfRange = omega arith
number_above why.NotSound = omega arith
number_above why.AdvanceOpen = omega arith
number_above why.NoAdvanceOpen = omega arith
number_above why.NoSuchEntry = omega arith
number_above why.AnotherGeneration = omega arith
number_above why.NoDeadline = omega arith
number_above why.NoFreeSlot = omega arith
number_above why.LastSerial = omega arith
number_above why.StaleHandle = omega arith
number_above why.NotTheArmedGeneration = omega arith
number_above why.TableTooShort = omega arith
number_above why.CapacityTooLarge = omega arith
number_above why.NoSuchDeque = omega arith
number_above why.NotInThisDeque = omega arith
