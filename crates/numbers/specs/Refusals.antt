-- The table of refusals: each case and its number.
use Rattle.std.specs.Prelude.{ℕ}
use Rattle.numbers.specs.declared.refusals.Refusal.{Refusal}
use Rattle.numbers.specs.declared.refusals.Refusal.TheVariants as why

-- "Refusal numbers"
abbrev pub number_of : Refusal → ℕ
-- "wheel not enabled (all wheel calls but create, enable)"
number_of why.NotEnabled = 1
-- "enabled already"
number_of why.AlreadyEnabled = 2
-- "lent lengths outside the range, at enabling; deque: counts outside theirs, at making"
number_of why.LengthsOutOfRange = 3
-- "not sound"
number_of why.NotSound = 4
-- "an advance is open"
number_of why.AdvanceOpen = 5
-- "none is open (pull, abandon)"
number_of why.NoAdvanceOpen = 6
-- "set entry, schedule: no such entry"
number_of why.NoSuchEntry = 7
-- "schedule: entry's generation is another"
number_of why.AnotherGeneration = 8
-- "schedule: entry has no deadline"
number_of why.NoDeadline = 9
-- "schedule, push back: no free slot"
number_of why.NoFreeSlot = 10
-- "schedule: next serial is 2^64 - 1"
number_of why.LastSerial = 11
-- "handle's slot absent, sentinel or free, or its serial another"
number_of why.StaleHandle = 12
-- "generation is not the one at arming"
number_of why.NotTheArmedGeneration = 13
-- "lent table too short"
number_of why.TableTooShort = 14
-- "capacity above 65,536"
number_of why.CapacityTooLarge = 15
-- "no such deque (checked after 4)"
number_of why.NoSuchDeque = 16
-- "slot not in this deque"
number_of why.NotInThisDeque = 17
