-- Demand 3's "the first", by a look at each call: where no call ends an advance that goes to the deadline or later and
-- enters a later tick, there is no such advance among them.
use Prim.Native.Nat.{ℕ, ◌≤◌}
use mathlib.Core.Path.{◌≡◌, sym, subst, ◌∙◌}
use mathlib.Core.List.{List, [], ◌∷◌, ◌++◌, append_assoc}
use Rattle.rules.specs.Places.{Geometry}
use Rattle.rules.specs.Wheel.{Call, start, pull, end, Later}
use Rattle.rules.specs.Calls.{origin}
use Rattle.rules.specs.Runs.{Run, answer, next, after}
use Rattle.rules.specs.Demand3.{NoneBefore}
use Rattle.rules.proofs.Advances.{after_app, advancing_clock}

-- the call ends no such advance
abbrev pub EndsNone : Geometry → ℕ → Run → Call → Type 0
EndsNone g d R c =
    answer g R c ≡ end → d ≤ R.wheel.reading → Later g (origin R.wheel.advance R.wheel.reading) R.wheel.reading → ⊥

abbrev pub EachEndsNone : Geometry → ℕ → Run → List Call → Type 0
EachEndsNone g d R [] = Unit {0}
EachEndsNone g d R (c ∷ cs) = EndsNone g d R c × EachEndsNone g d (next g R c) cs

at_call : (g : Geometry) (d : ℕ) (R : Run) (bs : List Call) (c : Call) (rest : List Call) → EachEndsNone g d R (bs ++ (c ∷ rest))
    → EndsNone g d (after g R bs) c
at_call g d R [] c rest k = k.0
at_call g d R (b ∷ bs) c rest k = at_call g d (next g R b) bs c rest k.1

pub none_before : (g : Geometry) (d : ℕ) (R : Run) (cs : List Call) → EachEndsNone g d R cs → NoneBefore g d R cs
none_before g d R cs k a f =
    let A : List Call = start a.q ∷ a.ps in
    let S : Run = after g (after g R a.bs) A in
    let r = advancing_clock g (after g R a.bs) a.q a.ps f.0.0 in
    let here : EndsNone g d S pull =
    subst (λ (T : Run). EndsNone g d T pull) (after_app g R a.bs A)
    (at_call g d R (a.bs ++ A) pull a.rest (subst (EachEndsNone g d R) (a.is ∙ sym (append_assoc a.bs A (pull ∷ a.rest))) k)) in
    here f.0.1 (subst (λ (q : ℕ). d ≤ q) (sym r.0) f.1)
    (subst (λ (p : ℕ). Later g p S.wheel.reading) (sym r.1)
    (subst (λ (q : ℕ). Later g (after g R a.bs).wheel.reading q) (sym r.0) f.2))
