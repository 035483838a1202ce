-- inner: what a call over parallel slices answers, in two: the answer without the clock, and the clock from now on,
-- which is the caller's own where none is handed back.
use Rattle.std.specs.Prelude.{Result, ◌≡◌}
use Rattle.numbers.specs.declared.refusals.Refusal.{Refusal}
use Rattle.rules.specs.Wheel.{Answer}
use Rattle.wheel_rules.specs.Promise as there
use Rattle.wheel_rules.specs.declared.calls.After.{After}
use Rattle.wheel_rules.specs.declared.calls.Clock.{Clock}

-- whatever is told of the value
pub record Turns {A : Type 0} (own : Clock) (r : Result (After A) Refusal) (t : After (Result A Refusal)) : Type 0 where
  pub says : (f : A → Answer) → there.says f t.answer ≡ there.says (λ x. f x.answer) r
  pub clock_is : t.clock ≡ there.clock_after own r
