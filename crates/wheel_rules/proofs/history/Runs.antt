-- What a program over the public calls sees is a run of the rules: the answers are the rules' answers, an enabled
-- wheel's records are sound after every call, and 4 is never given while only these calls write.
use Prim.Native.Nat.{ℕ}
use native.Mathlib.Omega.{arith}
use mathlib.Core.Path.{◌≡◌, refl, sym, ◌∙◌}
use mathlib.Core.Bool.{true}
use mathlib.Core.List.{List, [], ◌∷◌}
use Rattle.rules.specs.Places.{wheel01}
use Rattle.rules.specs.Wheel.{Wheel, Call, create, Answer, refused, ok}
use Rattle.rules.specs.Runs.{Run, next, step, answers, after}
use Rattle.rules.specs.Worked.{nothing}
use Rattle.wheel_rules.specs.Lent.{Records, SoundRecords}
use Rattle.wheel_rules.specs.history.Tells.{Tells}
use Rattle.wheel_rules.specs.Demand3.{Leads, done, then, NeverFour}
use Rattle.wheel_rules.proofs.history.Steps.{create_is, step_is, never_four}

-- calls on records that tell a wheel: their answers are the rules' answers, and the records then tell the rules' wheel
pub run_is : (ρ : Run) (R S : Records) (cs : List Call) (rs : List Answer) → Tells R ρ.wheel → Leads R cs rs S
    → (rs ≡ answers wheel01 ρ cs) × Tells S (after wheel01 ρ cs).wheel
run_is ρ R S [] [] T done = (refl, T)
run_is ρ R S (c ∷ cs) (a ∷ rs) T (then {M = M} p l) =
    let y = step_is c R M a ρ.wheel T p in
    let z = run_is (next wheel01 ρ c) M S cs rs y.1 l in
    (λ i. y.0 i ∷ z.0 i, z.1)
run_is ρ R S [] (a ∷ rs) T x4 = elim x4 [ ]
run_is ρ R S (c ∷ cs) [] T x4 = elim x4 [ ]

four_never : (w : Wheel) (R S : Records) (cs : List Call) (rs : List Answer) → Tells R w → Leads R cs rs S → NeverFour rs
four_never w R S [] [] T done = tt
four_never w R S (c ∷ cs) (a ∷ rs) T (then {M = M} p l) =
    (never_four c R M a w T p, four_never (step wheel01 w c).1 M S cs rs (step_is c R M a w T p).1 l)
four_never w R S [] (a ∷ rs) T x4 = elim x4 [ ]
four_never w R S (c ∷ cs) [] T x4 = elim x4 [ ]

-- from a create on, whatever the records held, and whatever the run ρ was before it
pub history : (ρ : Run) (R S : Records) (first : ℕ) (cs : List Call) (rs : List Answer) → Leads R (create first ∷ cs) rs S
    → (rs ≡ answers wheel01 ρ (create first ∷ cs)) × Tells S (after wheel01 ρ (create first ∷ cs)).wheel
history ρ R S first cs (a ∷ rs) (then {M = M} p l) =
    let y = create_is first R M a ρ.wheel p in
    let z = run_is (next wheel01 ρ (create first)) M S cs rs y.1 l in
    (λ i. y.0 i ∷ z.0 i, z.1)
history ρ R S first cs [] x' = elim x' [ ]

-- "every call on a sound state, refused or not, leaves one": after any such calls an enabled wheel's records are sound
pub always_sound : (R S : Records) (first : ℕ) (cs : List Call) (rs : List Answer) → Leads R (create first ∷ cs) rs S → S.clock.enabled ≡ true →
    SoundRecords wheel01 S
always_sound R S first cs rs l = (history nothing R S first cs rs l).1.kept

-- while only these calls write, 4 is never given
pub never_four_given : (R S : Records) (first : ℕ) (cs : List Call) (rs : List Answer) → Leads R (create first ∷ cs) rs S → NeverFour rs
never_four_given R S first cs (a ∷ rs) (then {M = M} p l) = (
  λ i. let e : ok ≡ refused 4 = sym p.answer_is ∙ i in let z : ◌≡◌ {A = ℕ} 0 1 = cc in omega arith,
  four_never (next wheel01 nothing (create first)).wheel M S cs rs (create_is first R M a nothing.wheel p).1 l,
)
never_four_given R S first cs [] x' = elim x' [ ]
