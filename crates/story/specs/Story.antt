-- inner to the programs: the story: what is called, chapter by chapter, and what it means to have come that far.
use Rattle.std.specs.Prelude.{◌+◌, ◌^◌, true, List, [], ◌∷◌, ◌++◌}
use Rattle.std.proofs.Math.Option.{some}
use Rattle.rules.specs.Places.{wheel01}
use Rattle.rules.specs.Wheel.{Call, create, enable, set_entry, schedule, deschedule, start, pull, abandon, Answer}
use Rattle.rules.specs.Runs.{after}
use Rattle.rules.specs.Worked.{nothing}
use Rattle.wheel_rules.specs.Lent.{Records}
use Rattle.wheel_rules.specs.Demand3.{Leads, Demand3}
use Rattle.wheel_rules.specs.history.Tells.{Tells}

-- these calls, each with the contract of the function that was called, have led here from some records; so the records
-- stand for the wheel that the same calls of the rules lead to
pub record Reached (calls : List Call) (R : Records) : Type 0 where
  pub tells : Tells R (after wheel01 nothing calls).wheel
  pub from : Records
  pub told : List Answer
  pub leads : Leads from calls told R

-- ---- the chapters
-- a wheel of 168 node records and 2 entries, whose serials begin at 7
abbrev pub begun : List Call
begun = create 7 ∷ enable 168 2 true ∷ []

-- a timer, due a little after the tick 1 begins
abbrev pub armed : List Call
armed = begun ++ (set_entry 0 (some (2 ^ 30 + 5)) 1 ∷ schedule 0 1 ∷ [])

-- demand 3 holds of it from here on, by the theorem over histories
pub record Watched (R : Records) : Type 0 where
  pub reached : Reached armed R
  pub demand : Demand3 165 7 0 (2 ^ 30 + 5) R

-- "Calls on other timers, refused calls": another one is armed and cancelled, and cancelling it again is refused
abbrev pub cancelled : List Call
cancelled = armed ++ (set_entry 1 (some (2 ^ 36)) 3 ∷ schedule 1 3 ∷ deschedule 166 8 3 ∷ deschedule 166 8 3 ∷ [])

-- "abandoned advances": one far beyond the deadline, of which nothing is read
abbrev pub abandoned : List Call
abandoned = cancelled ++ (start (2 ^ 31) ∷ abandon ∷ [])

-- "No advance to a reading before the deadline hands it out": one in the deadline's own tick, read to its end
abbrev pub too_early : List Call
too_early = abandoned ++ (start (2 ^ 30 + 4) ∷ pull ∷ pull ∷ [])

-- "a clock stepped back"
abbrev pub stepped_back : List Call
stepped_back = too_early ++ (start 5 ∷ pull ∷ [])

-- "The first advance that is read to its end, goes to the deadline or later and enters a later tick than the one it
-- started in hands it out once"
abbrev pub handed_out : List Call
handed_out = stepped_back ++ (start (2 ^ 31) ∷ pull ∷ pull ∷ [])
