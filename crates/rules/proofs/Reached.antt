-- Demand 3 is not empty: runs, computed, in which its premises are met together and each of its alternatives comes
-- about. (proofs/Premises.antt has the arming, and why the premise on the deadline's tick is needed.)
use Prim.Native.Nat.{ℕ, ◌+◌, ◌*◌, ◌^◌}
use native.Mathlib.Omega.{arith}
use mathlib.Core.Path.{◌≡◌, refl}
use mathlib.Core.Logic.{◌⊎◌}
use mathlib.Core.Bool.{true}
use mathlib.Core.Option.{some}
use mathlib.Core.List.{List, [], ◌∷◌, ◌++◌}
use Rattle.rules.specs.Places.{wheel01, tick}
use Rattle.rules.specs.Wheel.{Call, create, enable, set_entry, schedule, start, pull, abandon, ok, end, expired, rescheduled, handed}
use Rattle.rules.specs.Runs.{Run, answers, after, next}
use Rattle.rules.specs.Demand3.{Unchanged, NotYet, Advancing, Full, NoneBefore, AbandonedOneHad, Demand3}
use Rattle.rules.specs.Worked.{nothing}
use Rattle.rules.proofs.First.{none_before}
use Rattle.rules.proofs.Demand3.{demand3}
use Rattle.rules.proofs.Premises.{armed_10, met, run_10, unchanged_10, full_10}

-- ---- calls that end no advance, and calls that change no timer
ok_no_end : {A : Type 0} → ok ≡ end → A
ok_no_end i = absurd (let z : ◌≡◌ {A = ℕ} 0 1 = cc in omega arith)

expired_no_end : {A : Type 0} {e n d : ℕ} → expired e n d ≡ end → A
expired_no_end i = absurd (let z : ◌≡◌ {A = ℕ} 0 1 = cc in omega arith)

no : {A : Type 0} → ⊥ → A
no a = absurd a

-- ---- not handed out yet: it stands in one bucket (the first part)
pub not_yet_10 : NotYet wheel01 7 armed_10 run_10
unfolding tick
not_yet_10 = refl

-- ---- handed out by the first
-- Before the advance to 2^30 one ended in its own tick, one was abandoned, and one stepped the clock back: none of them
-- is such an advance.
pub none_10 : NoneBefore wheel01 10 armed_10 run_10
unfolding tick
none_10 =
    none_before wheel01 10 armed_10 run_10
    (ok_no_end, (λ i j k. omega (arith, k), (ok_no_end, (ok_no_end, (ok_no_end, (λ i j k. omega (arith, j), (ok_no_end, tt)))))))

-- the third part, with every premise met: here it is the first alternative (hands_out_10)
pub first_10 : (handed 7 (answers wheel01 (after wheel01 armed_10 run_10) (start (2 ^ 30) ∷ pull ∷ [])) ≡ 1) ⊎ AbandonedOneHad wheel01 7 armed_10 run_10
first_10 = met.first_hands_out run_10 (2 ^ 30) (pull ∷ []) unchanged_10 full_10 none_10

-- ---- already by an abandoned one
-- an advance to 2^30 that hands it out and is abandoned; then one to 2^31, read to its end
abbrev pub abandoned_10 : List Call
abandoned_10 = start (2 ^ 30) ∷ pull ∷ abandon ∷ []

pub had_10 : AbandonedOneHad wheel01 7 armed_10 abandoned_10
unfolding tick
had_10 = (
  record { bs = []; q = 2 ^ 30; ps = pull ∷ []; rest = []; is = refl },
  (record { taken = refl; stays = (refl, refl) }, refl),
  refl,
)

pub unchanged_abandoned : Unchanged wheel01 165 7 0 10 armed_10 (abandoned_10 ++ (start (2 ^ 31) ∷ []))
unfolding tick
unchanged_abandoned = (no, (no, (no, (no, tt))))

pub full_abandoned : Full wheel01 10 (after wheel01 armed_10 abandoned_10) (2 ^ 31) []
unfolding tick
full_abandoned = ((record { taken = refl; stays = refl }, refl), omega arith, omega arith)

pub none_abandoned : NoneBefore wheel01 10 armed_10 abandoned_10
unfolding tick
none_abandoned =
    none_before wheel01 10 armed_10 abandoned_10
    (ok_no_end, (expired_no_end, (ok_no_end, tt)))

-- the first full advance hands out nothing: of the third part's alternatives only the second holds
pub hands_out_none : handed 7 (answers wheel01 (after wheel01 armed_10 abandoned_10) (start (2 ^ 31) ∷ [])) ≡ 0
unfolding tick
hands_out_none = refl

-- ---- never early
-- deadline 2^30 + 5: the advance to 2^30 enters the deadline's tick before the deadline. It pulls the timer, which is
-- rescheduled, and does not hand it out.
abbrev pub early : ℕ
early = 2 ^ 30 + 5

abbrev pub before_early : List Call
before_early = enable 200 8 true ∷ set_entry 0 (some early) 0 ∷ []

abbrev pub armed_early : Run
armed_early = next wheel01 (after wheel01 nothing (create 7 ∷ before_early)) (schedule 0 0)

pub met_early : Demand3 wheel01 165 7 0 early armed_early
unfolding tick
met_early = demand3 wheel01 nothing 7 before_early (schedule 0 0) 165 7 0 early (refl, refl, refl) (omega arith)

pub advancing_early : Advancing wheel01 armed_early (2 ^ 30) (pull ∷ [])
unfolding tick
advancing_early = record { taken = refl; stays = (refl, refl) }

pub hands_out_early : handed 7 (answers wheel01 armed_early (start (2 ^ 30) ∷ pull ∷ [])) ≡ 0
unfolding tick
hands_out_early = refl

pub answers_early :
    answers wheel01 armed_early (start (2 ^ 30) ∷ pull ∷ pull ∷ start (2 ^ 31) ∷ pull ∷ pull ∷ [])
    ≡ ok ∷ rescheduled 0 7 1 ∷ end ∷ ok ∷ expired 0 7 early ∷ end ∷ []
unfolding tick
answers_early = refl

-- ---- a clock stepped back
-- deadline 5 x 2^30: an advance to 3 x 2^30, then one back to 2 x 2^30, both read to their end; the one to 5 x 2^30 is
-- the first that goes to the deadline
abbrev pub before_back : List Call
before_back = enable 200 8 true ∷ set_entry 0 (some (5 * 2 ^ 30)) 0 ∷ []

abbrev pub armed_back : Run
armed_back = next wheel01 (after wheel01 nothing (create 7 ∷ before_back)) (schedule 0 0)

abbrev pub run_back : List Call
run_back = start (3 * 2 ^ 30) ∷ pull ∷ start (2 * 2 ^ 30) ∷ pull ∷ []

pub met_back : Demand3 wheel01 165 7 0 (5 * 2 ^ 30) armed_back
unfolding tick
met_back = demand3 wheel01 nothing 7 before_back (schedule 0 0) 165 7 0 (5 * 2 ^ 30) (refl, refl, refl) (omega arith)

pub reading_back : (after wheel01 armed_back run_back).wheel.reading ≡ 2 * 2 ^ 30
unfolding tick
reading_back = refl

pub unchanged_back : Unchanged wheel01 165 7 0 (5 * 2 ^ 30) armed_back (run_back ++ (start (5 * 2 ^ 30) ∷ pull ∷ []))
unfolding tick
unchanged_back = (no, (no, (no, (no, (no, (no, tt))))))

pub full_back : Full wheel01 (5 * 2 ^ 30) (after wheel01 armed_back run_back) (5 * 2 ^ 30) (pull ∷ [])
unfolding tick
full_back = ((record { taken = refl; stays = (refl, refl) }, refl), omega arith, omega arith)

pub none_back : NoneBefore wheel01 (5 * 2 ^ 30) armed_back run_back
unfolding tick
none_back =
    none_before wheel01 (5 * 2 ^ 30) armed_back run_back
    (ok_no_end, (λ i j k. omega (arith, j), (ok_no_end, (λ i j k. omega (arith, j), tt))))

pub hands_out_back : handed 7 (answers wheel01 (after wheel01 armed_back run_back) (start (5 * 2 ^ 30) ∷ pull ∷ [])) ≡ 1
unfolding tick
hands_out_back = refl
