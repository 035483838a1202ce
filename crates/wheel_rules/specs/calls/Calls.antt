-- inner: what each call writes and answers, as equations on the records (specs/calls/Work.antt). The code is proved to
-- meet them; that they and the promise (specs/Promise.antt) say the same is proved in proofs/calls/Promising.antt.
use Rattle.std.specs.Prelude.{ℕ, not, ◌≡◌}
use Rattle.rules.specs.Calls.{is_none, act}
use Rattle.rules.specs.Places.{wheel01}
use Rattle.rules.specs.Sound.{SoundIfEnabled}
use Rattle.rules.specs.Wheel.{Wheel, Call, create, enable, set_entry, schedule, reschedule, deschedule, start, pull, abandon, armed_count, next_due, Answer}
use Rattle.rules.specs.Wheel.{refused, ok}
use Rattle.wheel_rules.specs.Promise.{created, or_zero}
use Rattle.wheel_rules.specs.Lent.{Records}
use Rattle.wheel_rules.specs.calls.Work.{laid_out, entry_set, scheduled, handle_of, descheduled, rescheduled, reschedule_says, opened, pulled, pull_says}
use Rattle.wheel_rules.specs.calls.Work.{left, armed_says, next_says}
use Rattle.wheel_rules.specs.records.Shows.{Stands}
use Rattle.wheel_rules.specs.refusals.Refuse.{rows_on}

-- every record after a call that is not refused
abbrev pub written : Call → Records → Records
written (create n) R = created R n
written (enable m k f) R = laid_out R
written (set_entry e o h) R = entry_set R e (not (is_none o)) (or_zero o) h
written (schedule e h) R = scheduled R e h
written (reschedule x n h) R = rescheduled R x
written (deschedule x n h) R = descheduled R x
written (start q) R = opened R q
written pull R = pulled R
written abandon R = left R
written armed_count R = R
written next_due R = R

-- what it answers
abbrev pub says : Call → Records → Answer
says (create n) R = ok
says (enable m k f) R = ok
says (set_entry e o h) R = ok
says (schedule e h) R = handle_of R
says (reschedule x n h) R = reschedule_says R x
says (deschedule x n h) R = ok
says (start q) R = ok
says pull R = pull_says R
says abandon R = ok
says armed_count R = armed_says R
says next_due R = next_says R

-- what the rules' call c is on every wheel that the records stand for: this answer, and these records afterwards
abbrev pub Acts : Call → Records → Records → Answer → Type 0
Acts c R R' answer = (w : Wheel) → Stands wheel01 R w → SoundIfEnabled wheel01 w → ((act wheel01 w c).0 ≡ answer) × Stands wheel01 R' (act wheel01 w c).1

-- The rows give a number. Where it is not 0 the answer is that refusal and every record is as before; where it is 0 the
-- answer and the records are as written.
pub record Meets (c : Call) (R R' : Records) (a : Answer) : Type 0 where
  pub number : ℕ
  pub by : rows_on R c number
  pub refusal : (number ≡ 0 → ⊥) → (a ≡ refused number) × (R' ≡ R)
  pub result : number ≡ 0 → (a ≡ says c R) × (R' ≡ written c R)
