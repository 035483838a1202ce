-- Each promise is the rules' step, and leaves sound records sound; 4 is never given on records that calls led to.
use Prim.Native.Nat.{ℕ}
use native.Mathlib.Omega.{arith}
use mathlib.Core.Path.{◌≡◌, refl, sym, ap, subst, ◌∙◌}
use mathlib.Core.Logic.{⊎_elim}
use mathlib.Core.Bool.{Bool, true, false, cond, false≢true}
use mathlib.Core.List.{List, [], ◌∷◌}
use Rattle.rules.specs.Places.{wheel01}
use Rattle.rules.specs.Wheel.{Wheel, Call, create, enable, set_entry, schedule, reschedule, deschedule, start, pull, abandon, armed_count, next_due, Answer}
use Rattle.rules.specs.Wheel.{refused, ok, removed}
use Rattle.rules.specs.Calls.{Row, rows, tests_of, pick, act, judged}
use Rattle.rules.specs.Runs.{refusal, step}
use Rattle.rules.specs.Sound.{SoundIfEnabled}
use Rattle.numbers.proofs.Cases.{same?}
use Rattle.rules.proofs.SoundCalls.{sound_step}
use Rattle.wheel_rules.specs.popping.Pop.{event_of}
use Rattle.wheel_rules.specs.Promise.{told}
use Rattle.wheel_rules.specs.Lent.{Records, SoundRecords}
use Rattle.wheel_rules.specs.records.Shows.{Stands}
use Rattle.wheel_rules.specs.declared.calls.Event.{Event}
use Rattle.wheel_rules.specs.declared.calls.Event.TheVariants.{Expired, Rescheduled, End}
use Rattle.wheel_rules.specs.refusals.Refuse.{rows_on}
use Rattle.wheel_rules.specs.calls.Work.{has_deadline, pulling}
use Rattle.wheel_rules.specs.Promise.{Leaves, Promised}
use Rattle.wheel_rules.specs.calls.Calls.{says}
use Rattle.wheel_rules.specs.history.Tells.{Tells}
use Rattle.wheel_rules.proofs.calls.Deciding.{LentTo, number_is, lent_to}
use Rattle.wheel_rules.proofs.calls.Promising.{acts, judged_no, number_of, number_given, refuses, writes}

-- ---- the rules' step
-- what a call leaves is sound, if enabled
left_sound : (c : Call) (R R' : Records) → Leaves c R R' → R'.clock.enabled ≡ true → SoundRecords wheel01 R'
left_sound (create n) R R' p e = absurd (false≢true (sym (ap (λ (x : Records). x.clock.enabled) p) ∙ e))
left_sound (enable m k f) R R' p e = p.0.sound
left_sound (set_entry i o h) R R' p e = p.0.sound
left_sound (schedule i h) R R' p e = p.0.sound
left_sound (reschedule x n h) R R' p e = p.0.sound
left_sound (deschedule x n h) R R' p e = p.0.sound
left_sound (start q) R R' p e = p.0.sound
left_sound pull R R' p e = p.0.sound
left_sound abandon R R' p e = p.0.sound
left_sound armed_count R R' p e = p.0.sound
left_sound next_due R R' p e = p.0.sound

module _ (c : Call) (R R' : Records) (a : Answer) (w : Wheel) (T : Tells R w) (p : Promised c R R' a) where
  abbrev k : ℕ
  k = number_of c R R' a p

  lent : LentTo R c
  lent = lent_to R c p.sound p.looks

  -- the rules' number on a wheel that the records tell
  pub number : refusal wheel01 w c ≡ k
  number = number_is R w T c lent k (number_given c R R' a p)

  taken : k ≡ 0 → (a ≡ (act wheel01 w c).0) × Tells R' (act wheel01 w c).1
  taken z =
      let y = acts c R lent (subst (rows_on R c) z (number_given c R R' a p)) w T.stands T.sound in
      let is = writes c R R' a p z in
      let s : step wheel01 w c ≡ act wheel01 w c = ap (λ (j : ℕ). judged j (act wheel01 w c) w) (number ∙ z) in (
        is.0 ∙ sym y.0,
        record {
          stands = subst (λ (x : Records). Stands wheel01 x (act wheel01 w c).1) (sym is.1) y.1;
          sound = subst (λ (x : Answer × Wheel). SoundIfEnabled wheel01 x.1) s (sound_step wheel01 w T.sound c);
          kept = left_sound c R R' (p.leaves z);
        },
      )

  -- every call: its answer is the rules' answer, and the records after it tell the rules' wheel after it
  pub step_is : (a ≡ (step wheel01 w c).0) × Tells R' (step wheel01 w c).1
  step_is =
      ⊎_elim
      (λ (z : k ≡ 0).
      subst (λ (x : Answer × Wheel). (a ≡ x.0) × Tells R' x.1) (sym (ap (λ (j : ℕ). judged j (act wheel01 w c) w) (number ∙ z))) (taken z))
      (λ (n : k ≡ 0 → ⊥).
      let u = refuses c R R' a p n in
      subst (λ (x : Answer × Wheel). (a ≡ x.0) × Tells R' x.1)
      (sym (ap (λ (j : ℕ). judged j (act wheel01 w c) w) number ∙ judged_no k (act wheel01 w c) w n))
      (u.0, subst (λ (x : Records). Tells x w) (sym u.1) T))
      (same? k 0)

-- create begins a wheel whatever stood there before
pub create_is : (n : ℕ) (R R' : Records) (a : Answer) (w : Wheel) → Promised (create n) R R' a → (a ≡ (step wheel01 w (create n)).0) × Tells R'
    (step wheel01 w (create n)).1
create_is n R R' a w p = (
  p.answer_is,
  subst (λ (x : Records). Tells x (step wheel01 w (create n)).1) (sym (p.leaves refl))
      (record {
        stands = record { enabled = refl; reading = refl; next = refl; shows = λ e. absurd (false≢true e) };
        sound = λ e. absurd (false≢true e);
        kept = λ e. absurd (false≢true e);
      }),
)

-- ---- 4 is never given
-- what is answered where a call is not refused is no refusal
event_told : (v : Event) (k : ℕ) → told v ≡ refused k → ⊥
event_told (Expired e n d) k i = let z : ◌≡◌ {A = ℕ} 0 1 = cc in omega arith
event_told (Rescheduled e n b) k i = let z : ◌≡◌ {A = ℕ} 0 1 = cc in omega arith
event_told End k i = let z : ◌≡◌ {A = ℕ} 0 1 = cc in omega arith

moved_told : (b : Bool) (k : ℕ) → cond b ok removed ≡ refused k → ⊥
moved_told true k i = let z : ◌≡◌ {A = ℕ} 0 1 = cc in omega arith
moved_told false k i = let z : ◌≡◌ {A = ℕ} 0 1 = cc in omega arith

not_refused_lem : (c : Call) (R : Records) (k : ℕ) → says c R ≡ refused k → ⊥
not_refused_lem (create n) R k i = let z : ◌≡◌ {A = ℕ} 0 1 = cc in omega arith
not_refused_lem (enable m j f) R k i = let z : ◌≡◌ {A = ℕ} 0 1 = cc in omega arith
not_refused_lem (set_entry e o h) R k i = let z : ◌≡◌ {A = ℕ} 0 1 = cc in omega arith
not_refused_lem (schedule e h) R k i = let z : ◌≡◌ {A = ℕ} 0 1 = cc in omega arith
not_refused_lem (reschedule x n h) R k i = moved_told (has_deadline R x) k i
not_refused_lem (deschedule x n h) R k i = let z : ◌≡◌ {A = ℕ} 0 1 = cc in omega arith
not_refused_lem (start q) R k i = let z : ◌≡◌ {A = ℕ} 0 1 = cc in omega arith
not_refused_lem pull R k i = event_told (event_of (pulling R).turn) k i
not_refused_lem abandon R k i = let z : ◌≡◌ {A = ℕ} 0 1 = cc in omega arith
not_refused_lem armed_count R k i = let z : ◌≡◌ {A = ℕ} 0 1 = cc in omega arith
not_refused_lem next_due R k i = let z : ◌≡◌ {A = ℕ} 0 1 = cc in omega arith

-- the rows of a sound wheel do not give 4
abbrev NoFour : List (Row Bool) → Type 0
NoFour [] = Unit {0}
NoFour (t ∷ ts) = (t.1 ≡ 4 → t.0 ≡ true) × NoFour ts

no_four_by : (b : Bool) (n m : ℕ) → (n ≡ 4 → b ≡ true) → (m ≡ 4 → ⊥) → cond b m n ≡ 4 → ⊥
no_four_by true n m f g i = g i
no_four_by false n m f g i = false≢true (f i)

no_four : (ts : List (Row Bool)) → NoFour ts → pick ts ≡ 4 → ⊥
no_four [] n i = omega (arith, i)
no_four (t ∷ ts) n i = no_four_by t.0 t.1 (pick ts) n.0 (no_four ts n.1) i

module _ (w : Wheel) where
  fourless : (c : Call) → NoFour (rows (tests_of wheel01 true w) c)
  fourless (create n) = tt
  fourless (enable m j f) = (λ i. absurd (omega (arith, i)), (λ i. absurd (omega (arith, i)), tt))
  fourless (set_entry e o h) = (λ i. absurd (omega (arith, i)), (λ i. refl, (λ i. absurd (omega (arith, i)), (λ i. absurd (omega (arith, i)), tt))))
  fourless (schedule e h) = (
    λ i. absurd (omega (arith, i)),
    (λ i. refl, (λ i. absurd (omega (arith, i)), (λ i. absurd (omega (arith, i)), (λ i. absurd (omega (arith, i)), rest)))),
  )
    where
      rest : NoFour (((tests_of wheel01 true w).dated e, 9) ∷ ((tests_of wheel01 true w).room, 10) ∷ ((tests_of wheel01 true w).serial, 11) ∷ [])
      rest = (λ i. absurd (omega (arith, i)), (λ i. absurd (omega (arith, i)), (λ i. absurd (omega (arith, i)), tt)))
  fourless (reschedule x n h) = (λ i. absurd (omega (arith, i)), (λ i. refl, (λ i. absurd (omega (arith, i)), (λ i. absurd (omega (arith, i)), (λ i. absurd (omega (arith, i)), tt)))))
  fourless (deschedule x n h) = (λ i. absurd (omega (arith, i)), (λ i. refl, (λ i. absurd (omega (arith, i)), (λ i. absurd (omega (arith, i)), (λ i. absurd (omega (arith, i)), tt)))))
  fourless (start q) = (λ i. absurd (omega (arith, i)), (λ i. refl, (λ i. absurd (omega (arith, i)), tt)))
  fourless pull = (λ i. absurd (omega (arith, i)), (λ i. refl, (λ i. absurd (omega (arith, i)), tt)))
  fourless abandon = (λ i. absurd (omega (arith, i)), (λ i. refl, (λ i. absurd (omega (arith, i)), tt)))
  fourless armed_count = (λ i. absurd (omega (arith, i)), (λ i. refl, tt))
  fourless next_due = (λ i. absurd (omega (arith, i)), (λ i. refl, (λ i. absurd (omega (arith, i)), tt)))

pub never_four : (c : Call) (R R' : Records) (a : Answer) (w : Wheel) → Tells R w → Promised c R R' a → a ≡ refused 4 → ⊥
never_four c R R' a w T p i =
    ⊎_elim
    (λ (z : number_of c R R' a p ≡ 0). not_refused_lem c R 4 (sym (writes c R R' a p z).0 ∙ i))
    (λ (n : number_of c R R' a p ≡ 0 → ⊥).
    let e : number_of c R R' a p ≡ 4 = refused_same (number_of c R R' a p) 4 (sym (refuses c R R' a p n).0 ∙ i) in
    no_four (rows (tests_of wheel01 true w) c) (fourless w c) (number c R R' a w T p ∙ e))
    (same? (number_of c R R' a p) 0)
  where
    refused_same : (j k : ℕ) → refused j ≡ refused k → j ≡ k
    refused_same j k e = cc
