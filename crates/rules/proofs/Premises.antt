-- Demand 3's premises: they can be met, and the one on the deadline's tick is needed (W9).
use Prim.Native.Nat.{ℕ, ◌*◌, ◌^◌}
use native.Mathlib.Omega.{arith}
use mathlib.Core.Path.{◌≡◌, refl}
use mathlib.Core.Bool.{true}
use mathlib.Core.Option.{some}
use mathlib.Core.List.{List, [], ◌∷◌, ◌++◌}
use Rattle.rules.specs.Places.{wheel01, tick}
use Rattle.rules.specs.Wheel.{Call, create, enable, set_entry, schedule, reschedule, start, pull, abandon, handed}
use Rattle.rules.specs.Runs.{Run, answers, after, next}
use Rattle.rules.specs.Demand3.{Arms, Unchanged, Full, Demand3}
use Rattle.rules.specs.Worked.{nothing}
use Rattle.rules.proofs.Demand3.{demand3}

-- ---- met: deadline 10, armed at the reading 0 in slot 165 with the serial 7
abbrev pub before_10 : List Call
before_10 = enable 200 8 true ∷ set_entry 0 (some 10) 0 ∷ []

abbrev pub armed_10 : Run
armed_10 = next wheel01 (after wheel01 nothing (create 7 ∷ before_10)) (schedule 0 0)

pub met : Demand3 wheel01 165 7 0 10 armed_10
unfolding tick
met = demand3 wheel01 nothing 7 before_10 (schedule 0 0) 165 7 0 10 (refl, refl, refl) (omega arith)

-- armed again, by a reschedule, after its deadline was changed to 20
abbrev before_20 : List Call
before_20 = enable 200 8 true ∷ set_entry 0 (some 10) 0 ∷ schedule 0 0 ∷ set_entry 0 (some 20) 1 ∷ []

pub met_again : Demand3 wheel01 165 7 0 20 (next wheel01 (after wheel01 nothing (create 7 ∷ before_20)) (reschedule 165 7 0))
unfolding tick
met_again = demand3 wheel01 nothing 7 before_20 (reschedule 165 7 0) 165 7 0 20 (refl, refl, refl, refl, refl) (omega arith)

-- A run that leaves it unchanged, with an advance that enters no later tick, one that is abandoned, a clock stepped
-- back, and its deadline set again; then an advance that is read to its end, goes to the deadline or later and enters a
-- later tick. So the third part's premises on the calls and on the advance are met together, and here it hands the
-- timer out.
abbrev pub run_10 : List Call
run_10 = start 100 ∷ pull ∷ start (2 ^ 31) ∷ abandon ∷ start 3 ∷ pull ∷ set_entry 0 (some 10) 9 ∷ []

pub unchanged_10 : Unchanged wheel01 165 7 0 10 armed_10 (run_10 ++ (start (2 ^ 30) ∷ pull ∷ []))
unfolding tick
unchanged_10 =
    (no, (no, (no, (no, (no, (no, (λ a r. a.1 refl, (no, (no, tt)))))))))
  where
    no : {A : Type 0} → ⊥ → A
    no a = absurd a

pub full_10 : Full wheel01 10 (after wheel01 armed_10 run_10) (2 ^ 30) (pull ∷ [])
unfolding tick
full_10 = ((record { taken = refl; stays = (refl, refl) }, refl), omega arith, omega arith)

pub hands_out_10 : handed 7 (answers wheel01 (after wheel01 armed_10 run_10) (start (2 ^ 30) ∷ pull ∷ [])) ≡ 1
unfolding tick
hands_out_10 = refl

-- ---- needed: W9, reading 5 x 2^30 and deadline 2 x 2^30. The timer is armed, and an advance that is read to its end
-- goes to tick 65, past the deadline, and enters a
-- later tick: it does not hand the timer out. So demand 3 fails of it.
abbrev before_w9 : List Call
before_w9 = enable 200 8 true ∷ start (5 * 2 ^ 30) ∷ pull ∷ set_entry 0 (some (2 * 2 ^ 30)) 0 ∷ []

abbrev w9 : Run
w9 = after wheel01 nothing (create 7 ∷ before_w9)

pub armed_w9 : Arms wheel01 w9.wheel (schedule 0 0) 165 7 0 (2 * 2 ^ 30)
unfolding tick
armed_w9 = (refl, refl, refl)

pub needed : Demand3 wheel01 165 7 0 (2 * 2 ^ 30) (next wheel01 w9 (schedule 0 0)) → ⊥
unfolding tick
needed k =
    let one : ◌≡◌ {A = ℕ} 0 1 =
    k.by_then [] (65 * 2 ^ 30) [] (λ a. absurd a, tt) ((record { taken = refl; stays = refl }, refl), omega arith, omega arith) in
    omega arith
