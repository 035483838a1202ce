-- There are histories: on records that are sound if enabled every call has a result that meets its promise, so that
-- every history that began with a create goes on with any calls (enable only with the lent lengths).
use Prim.Native.Nat.{ℕ}
use mathlib.Core.Path.{◌≡◌, refl, subst}
use mathlib.Core.Logic.{⊎_elim}
use mathlib.Core.Bool.{true}
use mathlib.Core.List.{List, [], ◌∷◌}
use Rattle.rules.specs.Places.{wheel01}
use Rattle.rules.specs.Wheel.{Wheel, Call, create, enable, set_entry, schedule, reschedule, deschedule, start, pull, abandon, armed_count, next_due, Answer}
use Rattle.rules.specs.Wheel.{refused}
use Rattle.rules.specs.Calls.{refusal_if}
use Rattle.numbers.proofs.Cases.{same?}
use Rattle.wheel_rules.specs.Lent.{Records, SoundRecords, wheel_of as shown}
use Rattle.wheel_rules.specs.refusals.Refuse.{rows_on}
use Rattle.wheel_rules.specs.Promise.{Looks, Promised}
use Rattle.wheel_rules.specs.calls.Calls.{written, says}
use Rattle.wheel_rules.specs.history.Tells.{Tells}
use Rattle.wheel_rules.specs.Demand3.{Leads, done, then}
use Rattle.wheel_rules.proofs.calls.Deciding.{LentTo, given_number}
use Rattle.wheel_rules.proofs.calls.Promising.{promise}
use Rattle.rules.specs.Runs.{step}
use Rattle.wheel_rules.proofs.history.Steps.{step_is}

-- ---- one call
module _ (c : Call) (R : Records) (l : LentTo R c) where
  -- where its rows refuse nothing, the promise is met by what is written and said
  pub answered_so : rows_on R c 0 → Promised c R (written c R) (says c R)
  answered_so r =
      promise c R (written c R) (says c R) l (record { number = 0; by = r; refusal = λ n. absurd (n refl); result = λ z. (refl, refl) })

  -- where they refuse, by that refusal and the records as they are
  pub refused_so : (k : ℕ) → (k ≡ 0 → ⊥) → rows_on R c k → Promised c R R (refused k)
  refused_so k n r =
      promise c R R (refused k) l (record { number = k; by = r; refusal = λ z. (refl, refl); result = λ z. absurd (n z) })

looks_sound : (c : Call) (R : Records) → LentTo R c → (R.clock.enabled ≡ true → SoundRecords wheel01 R) → Looks c R true
looks_sound (create n) R l s = tt
looks_sound (enable m k f) R l s = l
looks_sound (set_entry e o h) R l s = λ on. record { sound = λ t. s on; complete = λ t. refl }
looks_sound (schedule e h) R l s = λ on. record { sound = λ t. s on; complete = λ t. refl }
looks_sound (reschedule x n h) R l s = λ on. record { sound = λ t. s on; complete = λ t. refl }
looks_sound (deschedule x n h) R l s = λ on. record { sound = λ t. s on; complete = λ t. refl }
looks_sound (start q) R l s = λ on. record { sound = λ t. s on; complete = λ t. refl }
looks_sound pull R l s = λ on. record { sound = λ t. s on; complete = λ t. refl }
looks_sound abandon R l s = λ on. record { sound = λ t. s on; complete = λ t. refl }
looks_sound armed_count R l s = λ on. record { sound = λ t. s on; complete = λ t. refl }
looks_sound next_due R l s = λ on. record { sound = λ t. s on; complete = λ t. refl }

pub record Result (c : Call) (R : Records) : Type 0 where
  pub after : Records
  pub says : Answer
  pub promised : Promised c R after says

pub result : (c : Call) (R : Records) → LentTo R c → (R.clock.enabled ≡ true → SoundRecords wheel01 R) → Result c R
result c R l s =
    let k : ℕ = refusal_if wheel01 true (shown wheel01 R) c in
    let r : rows_on R c k = given_number R c true (looks_sound c R l s) in
    ⊎_elim
    (λ (z : k ≡ 0). record { after = written c R; says = says c R; promised = answered_so c R l (subst (rows_on R c) z r) })
    (λ (n : k ≡ 0 → ⊥). record { after = R; says = refused k; promised = refused_so c R l k n r })
    (same? k 0)

-- ---- any calls
pub record Continued (R : Records) (cs : List Call) : Type 0 where
  pub answers : List Answer
  pub after : Records
  pub leads : Leads R cs answers after

-- none of the calls asks for lengths: there is no enable among them
abbrev pub Anywhere : List Call → Type 0
Anywhere [] = Unit {0}
Anywhere (c ∷ cs) = ((R : Records) → LentTo R c) × Anywhere cs

pub continues : (w : Wheel) (R : Records) (cs : List Call) → Tells R w → Anywhere cs → Continued R cs
continues w R [] T l = record { answers = []; after = R; leads = done }
continues w R (c ∷ cs) T l =
    let r = result c R (l.0 R) T.kept in
    let k = continues (step wheel01 w c).1 r.after cs (step_is c R r.after r.says w T r.promised).1 l.1 in
    record { answers = r.says ∷ k.answers; after = k.after; leads = then r.promised k.leads }
