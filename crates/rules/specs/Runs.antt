-- inner: runs of the rules on sound wheels: lists of calls, what they answer, and what they lead to. A run keeps beside
-- the wheel, for each serial, the reading at which the timer with that serial was last placed.
use Rattle.std.specs.Prelude.{ℕ, true, List, [], ◌∷◌}
use Rattle.std.proofs.Math.Option.{Option, none, some}
use Rattle.rules.specs.Calls.{refusal_if, act, judged}
use Rattle.rules.specs.Places.{Geometry}
use Rattle.rules.specs.Wheel.{Wheel, Call, Answer, create, enable, set_entry, schedule, reschedule, deschedule, start, pull, abandon, armed_count}
use Rattle.rules.specs.Wheel.{next_due, refused, ok, handle, removed, end, expired, rescheduled, number, due, update}

-- ======== refusals

-- of a wheel on lists, whose every state that calls lead to is sound
abbrev pub refusal : Geometry → Wheel → Call → ℕ
refusal g w c = refusal_if g true w c

-- ======== the calls

-- a call on a sound wheel
abbrev pub step : Geometry → Wheel → Call → Answer × Wheel
step g w c = judged (refusal g w c) (act g w c) w

pub record Run : Type 0 where
  pub wheel : Wheel
  pub placed : ℕ → ℕ

-- the serial of the timer that a call placed, as its answer tells: schedule, reschedule that did not remove, and a pull
-- that rescheduled
abbrev pub rearms : Call → Option ℕ
rearms (create n) = none
rearms (enable m k f) = none
rearms (set_entry e o h) = none
rearms (schedule e h) = none
rearms (reschedule x n h) = some n
rearms (deschedule x n h) = none
rearms (start q) = none
rearms pull = none
rearms abandon = none
rearms armed_count = none
rearms next_due = none

abbrev pub placing : Call → Answer → Option ℕ
placing c (refused k) = none
placing c ok = rearms c
placing c (handle x n) = some n
placing c removed = none
placing c end = none
placing c (expired e n d) = none
placing c (rescheduled e n b) = some n
placing c (number k) = none
placing c (due o) = none

abbrev pub noted : Option ℕ → ℕ → (ℕ → ℕ) → ℕ → ℕ
noted none r f = f
noted (some n) r f = update f n r

-- what a call answers, and the run after it
abbrev pub answer : Geometry → Run → Call → Answer
answer g R c = (step g R.wheel c).0

abbrev pub next : Geometry → Run → Call → Run
next g R c = record { wheel = (step g R.wheel c).1; placed = noted (placing c (answer g R c)) R.wheel.reading R.placed }

-- what a list of calls answers, and the run after it
abbrev pub answers : Geometry → Run → List Call → List Answer
answers g R [] = []
answers g R (c ∷ cs) = answer g R c ∷ answers g (next g R c) cs

abbrev pub after : Geometry → Run → List Call → Run
after g R [] = R
after g R (c ∷ cs) = after g (next g R c) cs
