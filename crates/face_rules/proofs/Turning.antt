-- What a call over columns answers, in two: done, or refused.
use mathlib.Core.Path.{◌≡◌, sym, ap}
use Rattle.std.specs.Prelude.{Result, Ok, Err}
use Rattle.face_rules.specs.Turns.{Turns}
use Rattle.numbers.specs.declared.refusals.Refusal.{Refusal}
use Rattle.wheel_rules.specs.Promise.{says, clock_after}
use Rattle.wheel_rules.specs.declared.calls.After.{After}
use Rattle.wheel_rules.specs.declared.calls.Clock.{Clock}

module _ {A : Type 0} (own : Clock) (r : Result (After A) Refusal) where
  pub turns_done : (x : After A) → r ≡ Ok x → Turns own r (record { clock = x.clock; answer = Ok x.answer })
  turns_done x e = record { says = λ f. ap (says (λ y. f y.answer)) (sym e); clock_is = ap (clock_after own) (sym e) }

  pub turns_refused : (w : Refusal) → r ≡ Err w → Turns own r (record { clock = own; answer = Err w })
  turns_refused w e = record { says = λ f. ap (says (λ y. f y.answer)) (sym e); clock_is = ap (clock_after own) (sym e) }

pub ruleset turning = (turns_done, turns_refused)
