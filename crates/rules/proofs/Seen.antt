-- Demand 3's premise on the calls, read off the answers alone: where each call that would change a timer was answered
-- by a refusal, none of them was taken.
use Prim.Native.Nat.{ℕ}
use mathlib.Core.Path.{subst}
use mathlib.Core.Option.{Option, none, some}
use mathlib.Core.List.{List, [], ◌∷◌}
use Rattle.rules.specs.Places.{Geometry}
use Rattle.rules.specs.Wheel.{Wheel, Call, create, enable, set_entry, schedule, reschedule, deschedule, start, pull, abandon, armed_count, next_due}
use Rattle.rules.specs.Wheel.{Changes, IsRefused, LeftAlone}
use Rattle.rules.specs.Calls.{act, judged, rearmed}
use Rattle.rules.specs.Runs.{Run, next, answers}
use Rattle.rules.specs.Demand3.{Unchanged}

-- a call that changes a timer and is taken does not answer with a refusal
taken_answers : (g : Geometry) (w : Wheel) (x n e d : ℕ) (c : Call) → Changes x n e d c → IsRefused (act g w c).0 → ⊥
taken_answers g w x n e d (create m) k i = i
taken_answers g w x n e d (enable m j f) k i = k
taken_answers g w x n e d (set_entry y o h) k i = i
taken_answers g w x n e d (schedule y h) k i = k
taken_answers g w x n e d (reschedule y m h) k i = go (w.entry (w.lists.node y).entry).deadline i
  where
    go : (o : Option ℕ) → IsRefused (rearmed g w y o).0 → ⊥
    go none j = j
    go (some b) j = j
taken_answers g w x n e d (deschedule y m h) k i = i
taken_answers g w x n e d (start q) k i = k
taken_answers g w x n e d pull k i = k
taken_answers g w x n e d abandon k i = k
taken_answers g w x n e d armed_count k i = k
taken_answers g w x n e d next_due k i = k

pub left_alone : (g : Geometry) (x n e d : ℕ) (R : Run) (cs : List Call) → LeftAlone x n e d cs (answers g R cs) → Unchanged g x n e d R cs
left_alone g x n e d R [] u = tt
left_alone g x n e d R (c ∷ cs) u = (
  λ k z. taken_answers g R.wheel x n e d c k (subst (λ (j : ℕ). IsRefused (judged j (act g R.wheel c) R.wheel).0) z (u.0 k)),
  left_alone g x n e d (next g R c) cs u.1,
)
