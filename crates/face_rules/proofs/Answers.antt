-- What an answer says determines the answer.
use mathlib.Core.Path.{◌≡◌}
use Rattle.std.specs.Prelude.{Option, Result, ℕ}
use Rattle.face_rules.specs.Face.{scheduled_says, rescheduled_says, pulled_says}
use Rattle.numbers.specs.declared.refusals.Refusal.{Refusal}
use Rattle.wheel_rules.proofs.history.Coincide.{alone, handles, moves, events, done, counts, dues}
use Rattle.wheel_rules.specs.Promise.{noted_says, counted_says, due_says}
use Rattle.wheel_rules.specs.declared.calls.Event.{Event}
use Rattle.wheel_rules.specs.declared.calls.Handle.{Handle}
use Rattle.wheel_rules.specs.declared.calls.Rescheduled.{Rescheduled}

pub scheduled : (r s : Result Handle Refusal) → scheduled_says r ≡ scheduled_says s → r ≡ s
scheduled = alone _ handles

pub rescheduled : (r s : Result Rescheduled Refusal) → rescheduled_says r ≡ rescheduled_says s → r ≡ s
rescheduled = alone _ moves

pub pulled : (r s : Result Event Refusal) → pulled_says r ≡ pulled_says s → r ≡ s
pulled = alone _ events

pub noted : (r s : Result (Unit {0}) Refusal) → noted_says r ≡ noted_says s → r ≡ s
noted = alone _ done

pub counted : (r s : Result ℕ Refusal) → counted_says r ≡ counted_says s → r ≡ s
counted = alone _ counts

pub dued : (r s : Result (Option ℕ) Refusal) → due_says r ≡ due_says s → r ≡ s
dued = alone _ dues
