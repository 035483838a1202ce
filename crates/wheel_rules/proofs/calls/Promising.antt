-- The promise of a call (specs/Promise.antt) and the equations on records (specs/calls/Calls.antt) say the same;
-- and two results that meet the promise coincide.
use Prim.Native.Nat.{ℕ, zero, suc, ◌≤◌}
use native.Mathlib.Omega.{arith}
use mathlib.Core.Path.{◌≡◌, refl, sym, ap, subst, ◌∙◌}
use mathlib.Core.Logic.{⊎_elim}
use mathlib.Core.Bool.{Bool, true, false, cond, not, false≢true}
use mathlib.Core.Option.{Option, none, some}
use mathlib.Core.List.{List, [], ◌∷◌}
use lib.ListN.{length}
use Rattle.rules.specs.Places.{wheel01}
use Rattle.rules.specs.Wheel.{Wheel, Call, create, enable, set_entry, schedule, reschedule, deschedule, start, pull, abandon, armed_count, next_due, Answer}
use Rattle.rules.specs.Wheel.{refused}
use Rattle.rules.specs.Calls.{Row, rows, is_none, refusal_if, armed, rearmed, act, judged}
use Rattle.rules.specs.Runs.{step}
use Rattle.rules.specs.Sound.{SoundIfEnabled}
use Rattle.numbers.proofs.Cases.{same?}
use Rattle.numbers.proofs.Rows.{Single, none_left, row}
use Rattle.rules.proofs.SoundCalls.{sound_step}
use Rattle.wheel_rules.specs.Lent.{Entries, Records, SoundRecords, wheel_of as shown}
use Rattle.wheel_rules.specs.sound.Sound.{InRange}
use Rattle.numbers.specs.Rows.{given}
use Rattle.numbers.specs.Shared.{unless, not_refused as answered}
use Rattle.wheel_rules.specs.refusals.Refuse.{Lendable, tests_on, rows_on}
use Rattle.wheel_rules.specs.calls.Work.{has_deadline, moved, descheduled}
use Rattle.wheel_rules.specs.Promise.{or_zero, entries_with, Shown, Kept, Cleared, Leaves, Promised}
use Rattle.wheel_rules.specs.calls.Calls.{written, says, Acts, Meets}
use Rattle.wheel_rules.specs.history.Tells.{Tells}
use Rattle.wheel_rules.proofs.refusals.Rows.{past, standing_past, closed_past}
use Rattle.wheel_rules.proofs.sound.Shown.{shows_sound}
use Rattle.wheel_rules.proofs.calls.Deciding.{LentTo, number_is, later, rest, tells_shown, numbered, given_number, lent_to}
use Rattle.wheel_rules.proofs.calls.Doing.{enable_acts, schedule_acts, reschedule_acts, deschedule_acts, set_acts, start_acts, abandon_acts}
use Rattle.wheel_rules.proofs.calls.Doing.{pull_acts, count_acts, due_acts}
use Rattle.wheel_rules.proofs.calls.Framing.{Framed, schedule_framed, deschedule_framed, reschedule_framed, set_framed, start_framed, abandon_framed}
use Rattle.wheel_rules.proofs.calls.Framing.{pull_framed, same_framed, enable_blank}
use Rattle.wheel_rules.proofs.calls.Same.{frame_determines, blank_determines}
use Rattle.wheel_rules.proofs.calls.Ranges.{of_sound, freeing, counting, starting, abandoning, enabling_range, moving, pulling_range}

-- ---- what is written is what the rules' call does
set_acts_as : (R : Records) (e : ℕ) (o : Option ℕ) (h : ℕ) → rows_on R (set_entry e o h) 0
    → Acts (set_entry e o h) R (written (set_entry e o h) R) (says (set_entry e o h) R)
set_acts_as R e none h r = set_acts R e false 0 h r
set_acts_as R e (some d) h r = set_acts R e true d h r

pub acts : (c : Call) (R : Records) → LentTo R c → rows_on R c 0 → Acts c R (written c R) (says c R)
acts (create n) R l r =
    λ w t o. (refl, record { enabled = refl; reading = refl; next = refl; shows = λ e. absurd (false≢true e) })
acts (enable m k f) R l r = subst (λ (c : Call). Acts c R (written (enable m k f) R) (says (enable m k f) R)) (sym l) (enable_acts R r)
acts (set_entry e o h) R l r = set_acts_as R e o h r
acts (schedule e h) R l r = schedule_acts R e h r
acts (reschedule x n h) R l r = reschedule_acts R x n h r
acts (deschedule x n h) R l r = deschedule_acts R x n h r
acts (start q) R l r = start_acts R q r
acts pull R l r = pull_acts R r
acts abandon R l r = abandon_acts R r
acts armed_count R l r = count_acts R r
acts next_due R l r = due_acts R r

-- ---- the wheel stays enabled, with as many nodes
module _ {A : Type 0} (f : Wheel → A) (w : Wheel) (same : (v : Wheel) → v.enabled ≡ w.enabled → v.nodes ≡ w.nodes → f v ≡ f w) where
  schedule_same : (e h : ℕ) → f (act wheel01 w (schedule e h)).1 ≡ f w
  schedule_same e h = go (w.entry e).deadline w.lists.free
    where
      go : (o : Option ℕ) (fs : List ℕ) → f (armed wheel01 w e h o fs).1 ≡ f w
      go none fs = refl
      go (some d) [] = refl
      go (some d) (x ∷ fs) = same _ refl refl

  reschedule_same : (x n h : ℕ) → f (act wheel01 w (reschedule x n h)).1 ≡ f w
  reschedule_same x n h = go (w.entry (w.lists.node x).entry).deadline
    where
      go : (o : Option ℕ) → f (rearmed wheel01 w x o).1 ≡ f w
      go none = same _ refl refl
      go (some d) = same _ refl refl

schedule_on : (w : Wheel) (e h : ℕ) → (act wheel01 w (schedule e h)).1.enabled ≡ w.enabled
schedule_on w = schedule_same (λ (v : Wheel). v.enabled) w (λ v e n. e)

reschedule_on : (w : Wheel) (x n h : ℕ) → (act wheel01 w (reschedule x n h)).1.enabled ≡ w.enabled
reschedule_on w = reschedule_same (λ (v : Wheel). v.enabled) w (λ v e n. e)

schedule_nodes : (w : Wheel) (e h : ℕ) → (act wheel01 w (schedule e h)).1.nodes ≡ w.nodes
schedule_nodes w = schedule_same (λ (v : Wheel). v.nodes) w (λ v e n. n)

reschedule_nodes : (w : Wheel) (x n h : ℕ) → (act wheel01 w (reschedule x n h)).1.nodes ≡ w.nodes
reschedule_nodes w = reschedule_same (λ (v : Wheel). v.nodes) w (λ v e n. n)

-- ---- a call of 1 that is not refused: the records show the rules' wheel after it, and are sound
module _ (R : Records) (on : R.clock.enabled ≡ true) (so : SoundRecords wheel01 R) where
  abbrev w : Wheel
  w = shown wheel01 R

  tells : Tells R w
  tells = tells_shown R on so

  shown_by : (c : Call) → LentTo R c → rows_on R c 0 → (act wheel01 w c).1.enabled ≡ R.clock.enabled → InRange wheel01 (written c R).clock
      → Shown c R (written c R)
  shown_by c l r e range =
      let y = acts c R l r w tells.stands tells.sound in
      let w-on : (act wheel01 w c).1.enabled ≡ true = e ∙ on in
      let s : step wheel01 w c ≡ act wheel01 w c = ap (λ (k : ℕ). judged k (act wheel01 w c) w) (number_is R w tells c l 0 r) in
      let sound : SoundIfEnabled wheel01 (act wheel01 w c).1 =
      subst (λ (p : Answer × Wheel). SoundIfEnabled wheel01 p.1) s (sound_step wheel01 w tells.sound c) in
      record {
        shows = y.1.shows w-on;
        sound = shows_sound wheel01 (written c R) (act wheel01 w c).1 (y.1.shows w-on) (sound w-on) range;
      }

kept : (R R' : Records) (E : Entries) → R'.entries ≡ E → Framed R R' → Kept E R R'
kept R R' E e f = record { nodes = f.nodes; clock = f.clock; entries = e }

-- an entry set to a deadline or none
entries_set : (R : Records) (e : ℕ) (o : Option ℕ) (h : ℕ) → (written (set_entry e o h) R).entries ≡ entries_with e o h R.entries
entries_set R e none h = refl
entries_set R e (some d) h = refl

moved_entries : (R : Records) (x n h : ℕ) → (written (reschedule x n h) R).entries ≡ R.entries
moved_entries R x n h = go (has_deadline R x)
  where
    go : (b : Bool) → (cond b (moved R x) (descheduled R x)).entries ≡ R.entries
    go true = refl
    go false = refl

module _ (R : Records) where
  -- what the rows of each call have shown, where they refuse nothing
  abbrev open_rest : ℕ → Type 0
  open_rest = unless (R.clock.open ≡ true) 6 answered

  -- ---- enable: nothing is asked of the records but their lengths
  off : (m k : ℕ) (f : Bool) → rows_on R (enable m k f) 0 → (R.clock.enabled ≡ false) × Lendable R
  off m k f r =
      let u = past 2 0 r (λ i. omega (arith, i)) in
      (u.0, (past 3 0 u.1 (λ i. omega (arith, i))).0)

  enable_shown : (m k : ℕ) (f : Bool) → LentTo R (enable m k f) → rows_on R (enable m k f) 0 → Shown (enable m k f) R (written (enable m k f) R)
  enable_shown m k f l r =
      let c : Call = enable m k f in
      let w : Wheel = shown wheel01 R in
      let u = off m k f r in
      let no : R.clock.enabled ≡ true → ⊥ = λ e. false≢true (sym u.0 ∙ e) in
      let y = acts c R l r w (record { enabled = refl; reading = refl; next = refl; shows = λ e. absurd (no e) }) (λ e. absurd (no e)) in
      let s : step wheel01 w c ≡ act wheel01 w c = ap (λ (j : ℕ). judged j (act wheel01 w c) w) (numbered R c l 0 r).2 in
      let sound : SoundIfEnabled wheel01 (act wheel01 w c).1 =
      subst (λ (p : Answer × Wheel). SoundIfEnabled wheel01 p.1) s (sound_step wheel01 w (λ e. absurd (no e)) c) in
      record {
        shows = y.1.shows refl;
        sound = shows_sound wheel01 (written c R) (act wheel01 w c).1 (y.1.shows refl) (sound refl) (enabling_range R u.1);
      }

  enable_clears : (m k : ℕ) (f : Bool) → rows_on R (enable m k f) 0 → Cleared R (written (enable m k f) R)
  enable_clears m k f r = record { nodes = enable_blank R r; previous = refl; level = refl; step = refl; entries = refl }

  -- ---- every call that is not refused leaves what it promises
  pub leaves : (c : Call) → LentTo R c → rows_on R c 0 → Leaves c R (written c R)
  leaves (create n) l r = refl
  leaves (enable m k f) l r = (enable_shown m k f l r, enable_clears m k f r)
  leaves (set_entry e o h) l r =
      let v = closed_past R (given (rest (later (rows (tests_on R) (set_entry e o h))))) 0 r refl in
      (shown_by R v.0 v.1 (set_entry e o h) tt r refl (of_sound R v.1), kept R _ _ (entries_set R e o h) (set_framed R e (not (is_none o)) (or_zero o) h))
  leaves (schedule e h) l r =
      let v = closed_past R (given (rest (later (rows (tests_on R) (schedule e h))))) 0 r refl in (
        shown_by R v.0 v.1 (schedule e h) tt r (schedule_on (shown wheel01 R) e h) (counting R.clock (of_sound R v.1) _),
        kept R _ _ refl (schedule_framed R e h r),
      )
  leaves (reschedule x n h) l r =
      let v = closed_past R (given (rest (later (rows (tests_on R) (reschedule x n h))))) 0 r refl in (
        shown_by R v.0 v.1 (reschedule x n h) tt r (reschedule_on (shown wheel01 R) x n h) (moving R x (has_deadline R x) (of_sound R v.1)),
        kept R _ _ (moved_entries R x n h) (reschedule_framed R x n h r),
      )
  leaves (deschedule x n h) l r =
      let v = closed_past R (given (rest (later (rows (tests_on R) (deschedule x n h))))) 0 r refl in (
        shown_by R v.0 v.1 (deschedule x n h) tt r refl (freeing R.clock (of_sound R v.1) x),
        kept R _ _ refl (deschedule_framed R x n h r),
      )
  leaves (start q) l r =
      let v = closed_past R answered 0 r refl in
      (shown_by R v.0 v.1 (start q) tt r refl (starting R.clock (of_sound R v.1) q), kept R _ _ refl (start_framed R q r))
  leaves pull l r =
      let v = standing_past R open_rest 0 r refl in (
        shown_by R v.0 v.1 pull tt r refl (pulling_range R.entries.dated R.entries.deadline R.nodes R.clock (of_sound R v.1)),
        kept R _ _ refl (pull_framed R r),
      )
  leaves abandon l r =
      let v = standing_past R open_rest 0 r refl in
      (shown_by R v.0 v.1 abandon tt r refl (abandoning R.clock (of_sound R v.1)), kept R _ _ refl (abandon_framed R r))
  leaves armed_count l r =
      let v = standing_past R answered 0 r refl in
      (shown_by R v.0 v.1 armed_count tt r refl (of_sound R v.1), kept R _ _ refl (same_framed R))
  leaves next_due l r =
      let v = closed_past R answered 0 r refl in
      (shown_by R v.0 v.1 next_due tt r refl (of_sound R v.1), kept R _ _ refl (same_framed R))

  -- ---- and answers it
  by_tells : (c : Call) → LentTo R c → rows_on R c 0 → R.clock.enabled ≡ true → SoundRecords wheel01 R → (act wheel01 (shown wheel01 R) c).0 ≡ says c R
  by_tells c l r on so = let T = tells R on so in (acts c R l r (shown wheel01 R) T.stands T.sound).0

  pub answers_so : (c : Call) → LentTo R c → rows_on R c 0 → (act wheel01 (shown wheel01 R) c).0 ≡ says c R
  answers_so (create n) l r = refl
  answers_so (enable m k f) l r = refl
  answers_so (set_entry e o h) l r = refl
  answers_so (schedule e h) l r =
      let v = closed_past R (given (rest (later (rows (tests_on R) (schedule e h))))) 0 r refl in
      by_tells (schedule e h) l r v.0 v.1
  answers_so (reschedule x n h) l r =
      let v = closed_past R (given (rest (later (rows (tests_on R) (reschedule x n h))))) 0 r refl in
      by_tells (reschedule x n h) l r v.0 v.1
  answers_so (deschedule x n h) l r = refl
  answers_so (start q) l r = refl
  answers_so pull l r =
      let v = standing_past R open_rest 0 r refl in
      by_tells pull l r v.0 v.1
  answers_so abandon l r = refl
  answers_so armed_count l r =
      let v = standing_past R answered 0 r refl in
      by_tells armed_count l r v.0 v.1
  answers_so next_due l r =
      let v = closed_past R answered 0 r refl in
      by_tells next_due l r v.0 v.1

-- ---- the equations give the promise
pub judged_no : (k : ℕ) (r : Answer × Wheel) (w : Wheel) → (k ≡ 0 → ⊥) → judged k r w ≡ (refused k, w)
judged_no zero r w n = absurd (n refl)
judged_no (suc k) r w n = refl

module _ (c : Call) (R : Records) where
  abbrev v : Wheel
  v = shown wheel01 R

  said_by : (R' : Records) (a : Answer) → LentTo R c → (m : Meets c R R' a) (k : ℕ) → k ≡ m.number → a ≡ (judged k (act wheel01 v c) v).0
  said_by R' a l m k e =
      ⊎_elim
      (λ (z : m.number ≡ 0).
      (m.result z).0 ∙ sym (answers_so R c l (subst (rows_on R c) z m.by)) ∙ ap (λ (j : ℕ). (judged j (act wheel01 v c) v).0) (sym (e ∙ z)))
      (λ (n : m.number ≡ 0 → ⊥).
      (m.refusal n).0 ∙ ap refused (sym e) ∙ ap (λ (p : Answer × Wheel). p.0) (sym (judged_no k (act wheel01 v c) v (λ z. n (sym e ∙ z)))))
      (same? m.number 0)

  pub promise : (R' : Records) (a : Answer) → LentTo R c → Meets c R R' a → Promised c R R' a
  promise R' a l m =
      let u = numbered R c l m.number m.by in
      record {
        sound = u.0;
        looks = u.1;
        answer_is = said_by R' a l m (refusal_if wheel01 u.0 v c) u.2;
        stays = λ n. (m.refusal (λ z. n (u.2 ∙ z))).1;
        leaves = λ z.
            let y : m.number ≡ 0 = sym u.2 ∙ z in
            subst (Leaves c R) (sym (m.result y).1) (leaves R c l (subst (rows_on R c) y m.by));
      }

-- ---- two results coincide
given_single : (ts : List (Row (Type 0))) → Single (given ts)
given_single [] = none_left
given_single (t ∷ ts) = row t.0 t.1 (given ts) (given_single ts)

module _ (R R₁ R₂ : Records) where
  known : (S : Records) → SoundRecords wheel01 S → S.clock.open ≡ true → S.clock.level ≤ length wheel01.sizes
  known S s o = (s.advance.stands o).known

  -- a call of 1 that is not refused
  framed : (c : Call) (E : Entries) → SoundRecords wheel01 R → (act wheel01 (shown wheel01 R) c).1.nodes ≡ R.clock.nodes
      → Shown c R R₁ × Kept E R R₁ → Shown c R R₂ × Kept E R R₂ → R₁ ≡ R₂
  framed c E s n p q =
      frame_determines wheel01 R R₁ R₂ (act wheel01 (shown wheel01 R) c).1 (s.lengths.nodes.next_len ∙ sym n) p.0.shows q.0.shows
      (known R₁ p.0.sound) (known R₂ q.0.sound) p.1.nodes q.1.nodes p.1.clock q.1.clock
      (p.1.entries ∙ sym q.1.entries)

  determined : (c : Call) → rows_on R c 0 → Leaves c R R₁ → Leaves c R R₂ → R₁ ≡ R₂
  determined (create n) r p q = p ∙ sym q
  determined (enable m k f) r p q =
      blank_determines wheel01 R₁ R₂ (act wheel01 (shown wheel01 R) (enable m k f)).1 p.0.shows q.0.shows refl p.1.nodes q.1.nodes
      (p.1.previous, p.1.level, p.1.step) (q.1.previous, q.1.level, q.1.step) (p.1.entries ∙ sym q.1.entries)
  determined (set_entry e o h) r p q =
      framed (set_entry e o h) _ (closed_past R (given (rest (later (rows (tests_on R) (set_entry e o h))))) 0 r refl).1 refl p q
  determined (schedule e h) r p q =
      framed (schedule e h) _ (closed_past R (given (rest (later (rows (tests_on R) (schedule e h))))) 0 r refl).1 (schedule_nodes (shown wheel01 R) e h) p q
  determined (reschedule x n h) r p q =
      framed (reschedule x n h) _ (closed_past R (given (rest (later (rows (tests_on R) (reschedule x n h))))) 0 r refl).1
      (reschedule_nodes (shown wheel01 R) x n h) p q
  determined (deschedule x n h) r p q =
      framed (deschedule x n h) _ (closed_past R (given (rest (later (rows (tests_on R) (deschedule x n h))))) 0 r refl).1 refl p q
  determined (start q) r p s = framed (start q) _ (closed_past R answered 0 r refl).1 refl p s
  determined pull r p q = framed pull _ (standing_past R (open_rest R) 0 r refl).1 refl p q
  determined abandon r p q = framed abandon _ (standing_past R (open_rest R) 0 r refl).1 refl p q
  determined armed_count r p q = framed armed_count _ (standing_past R answered 0 r refl).1 refl p q
  determined next_due r p q = framed next_due _ (closed_past R answered 0 r refl).1 refl p q

  -- the answer, every record, word and clock field
  pub coincide : (c : Call) (a b : Answer) → Promised c R R₁ a → Promised c R R₂ b → (a ≡ b) × (R₁ ≡ R₂)
  coincide c a b p q =
      let w : Wheel = shown wheel01 R in
      let j : ℕ = refusal_if wheel01 p.sound w c in
      let k : ℕ = refusal_if wheel01 q.sound w c in
      let r : rows_on R c j = given_number R c p.sound p.looks in
      let e : j ≡ k = given_single (rows (tests_on R) c) j k r (given_number R c q.sound q.looks) in (
        p.answer_is ∙ ap (λ (i : ℕ). (judged i (act wheel01 w c) w).0) e ∙ sym q.answer_is,
        ⊎_elim
            (λ (z : j ≡ 0). determined c (subst (rows_on R c) z r) (p.leaves z) (q.leaves (sym e ∙ z)))
            (λ (n : j ≡ 0 → ⊥). p.stays n ∙ sym (q.stays (λ z. n (e ∙ z))))
            (same? j 0),
      )

-- ---- the promise gives the equations
module _ (c : Call) (R R' : Records) (a : Answer) (p : Promised c R R' a) where
  -- the number that it is refused with, or 0
  abbrev pub number_of : ℕ
  number_of = refusal_if wheel01 p.sound (shown wheel01 R) c

  pub number_given : rows_on R c number_of
  number_given = given_number R c p.sound p.looks

  pub refuses : (number_of ≡ 0 → ⊥) → (a ≡ refused number_of) × (R' ≡ R)
  refuses n =
      let w : Wheel = shown wheel01 R in
      (p.answer_is ∙ ap (λ (y : Answer × Wheel). y.0) (judged_no number_of (act wheel01 w c) w n), p.stays n)

  pub writes : number_of ≡ 0 → (a ≡ says c R) × (R' ≡ written c R)
  writes z =
      coincide R R' (written c R) c a (says c R) p
      (promise c R (written c R) (says c R) (lent_to R c p.sound p.looks)
      (record { number = 0; by = subst (rows_on R c) z number_given; refusal = λ n. absurd (n refl); result = λ _. (refl, refl) }))

  pub equations : Meets c R R' a
  equations = record { number = number_of; by = number_given; refusal = refuses; result = writes }
