-- Why each public call meets its promise: refused, and not refused.
use Prim.Native.Nat.{ℕ}
use mathlib.Core.Path.{◌≡◌, refl, sym, ap, ◌∙◌}
use mathlib.Core.Bool.{Bool, true, false, cond, not}
use mathlib.Core.List.{List}
use lib.ListN.{get_or}
use borrow.Author.Tests.{not-true, not-false}
use Rattle.deque_rules.specs.Links.{Links}
use Rattle.rules.specs.Places.{wheel01}
use Rattle.rules.specs.Wheel.{Call, create, set_entry, schedule, reschedule, deschedule, start, pull, abandon, armed_count, next_due, Answer, refused, ok}
use Rattle.rules.specs.Wheel.{handle, removed, number, due}
use Rattle.wheel_rules.specs.Promise.{timed_says, timed_clock, clock_after, says as tells}
use Rattle.wheel_rules.specs.Promise.{told, due_told}
use Rattle.std.specs.Prelude.{Option, Some, None, Result, Ok, Err, is_some, unwrap_or, IsErr, IsErrAnd}
use Rattle.numbers.proofs.Numbered.{number_above}
use Rattle.numbers.specs.Refusals.{number_of}
use Rattle.numbers.specs.declared.refusals.Refusal.{Refusal}
use Rattle.wheel_rules.specs.declared.calls.Event.{Event}
use native.Mathlib.Omega.{arith}
use mathlib.Core.Path.{subst}
use Rattle.wheel_rules.specs.declared.calls.After.{After}
use Rattle.wheel_rules.specs.declared.calls.Clock.{Clock}
use Rattle.wheel_rules.specs.declared.calls.Handle.{Handle}
use Rattle.wheel_rules.specs.Lent.{Nodes, Entries, Records, records}
use Rattle.wheel_rules.specs.records.Records.{with_links}
use Rattle.wheel_rules.specs.timers.Timers.{Arms, Disarms, Rearms}
use Rattle.wheel_rules.specs.records.Counts.{Counts, FindsDue}
use Rattle.wheel_rules.specs.records.Settings.{settled, Sets}
use Rattle.wheel_rules.specs.records.Moments.{Starts, Abandons}
use Rattle.wheel_rules.specs.layout.Layout.{Lays}
use Rattle.wheel_rules.specs.declared.calls.Event.{Event}
use Rattle.wheel_rules.specs.pull.Pull.{Pulls}
use Rattle.wheel_rules.specs.Promise.{handle_told, created_clock, empty_ends, enabling, Promised, over, Begins}
use Rattle.wheel_rules.specs.refusals.Refuse.{rows_on, RefusesEnable, RefusesCount, RefusesClosed, RefusesOpen, RefusesSet, RefusesSchedule}
use Rattle.wheel_rules.specs.refusals.Refuse.{RefusesHandle}
use Rattle.wheel_rules.specs.calls.Work.{descheduled, moved}
use Rattle.wheel_rules.specs.calls.Calls.{written, says}
use Rattle.wheel_rules.proofs.calls.Deciding.{LentTo}
use Rattle.wheel_rules.proofs.calls.Promising.{promise}

-- a refusal, and a result by 0
pub no : (c : Call) (R : Records) (why : Refusal) → LentTo R c → rows_on R c (number_of why) → Promised c R R (refused (number_of why))
no c R why l f =
    promise c R R (refused (number_of why)) l
    (record {
      number = number_of why;
      by = f;
      refusal = λ _. (refl, refl);
      result = λ z. absurd (omega (arith, z, number_above why));
    })

yes : (c : Call) (R R' : Records) (a : Answer) → LentTo R c → rows_on R c 0 → a ≡ says c R → R' ≡ written c R → Promised c R R' a
yes c R R' a l f i j =
    promise c R R' a l (record { number = 0; by = f; refusal = λ n. absurd (n refl); result = λ _. (i, j) })

-- ---- create
pub begins : (first : ℕ) (c : Clock) (h t : List ℕ) → c ≡ created_clock first → h ≡ empty_ends → t ≡ empty_ends → Begins first c h t ok
begins first c h t i j k =
    record {
      promised = λ R.
          yes (create first) R (over R c h t) ok tt refl refl (λ y. over R (i y) (j y) (k y));
    }

-- ---- refused
module _ (R : Records) (why : Refusal) where
  pub enable_no : RefusesEnable R (number_of why) → Promised (enabling R) R R (refused (number_of why))
  enable_no f = no (enabling R) R why refl f.by

  pub schedule_no : (e h : ℕ) → RefusesSchedule R e h (number_of why) → Promised (schedule e h) R R (refused (number_of why))
  schedule_no e h f = no (schedule e h) R why tt f.by

  pub deschedule_no : (x n h : ℕ) → RefusesHandle R x n h (number_of why) → Promised (deschedule x n h) R R (refused (number_of why))
  deschedule_no x n h f = no (deschedule x n h) R why tt f.by

  pub reschedule_no : (x n h : ℕ) → RefusesHandle R x n h (number_of why) → Promised (reschedule x n h) R R (refused (number_of why))
  reschedule_no x n h f = no (reschedule x n h) R why tt f.by

  pub set_no : (e h : ℕ) (o : Option ℕ) → RefusesSet R e (number_of why) → Promised (set_entry e (due_told o) h) R R (refused (number_of why))
  set_no e h o f = no (set_entry e (due_told o) h) R why tt f.by

  pub start_no : (q : ℕ) → RefusesClosed R (number_of why) → Promised (start q) R R (refused (number_of why))
  start_no q f = no (start q) R why tt f.by

  pub abandon_no : RefusesOpen R (number_of why) → Promised abandon R R (refused (number_of why))
  abandon_no f = no abandon R why tt f.by

  pub pull_no : RefusesOpen R (number_of why) → Promised pull R R (refused (number_of why))
  pull_no f = no pull R why tt f.by

  pub count_no : RefusesCount R (number_of why) → Promised armed_count R R (refused (number_of why))
  count_no f = no armed_count R why tt f.by

  pub due_no : RefusesClosed R (number_of why) → Promised next_due R R (refused (number_of why))
  due_no f = no next_due R why tt f.by

-- ---- what a call answers that hands a refusal on: no clock but its own, and what is said of a refusal
module _ (c : Call) (N : Nodes) (E : Entries) (k : Clock) (why : Refusal) (p : Promised c (records N E k) (records N E k) (refused (number_of why))) where
  pub refused_timed : (q : Result Clock Refusal) → IsErr q × IsErrAnd q (λ v. v ≡ why) → Promised c (records N E k) (records N E (timed_clock k q)) (timed_says q)
  refused_timed (Ok v) e = absurd e.1
  refused_timed (Err v) e = subst (λ w. Promised c (records N E k) (records N E k) (refused (number_of w))) (sym e.1) p

  pub refused_after : {A : Type 0} (f : A → Answer) (q : Result (After A) Refusal) → IsErr q × IsErrAnd q (λ v. v ≡ why)
      → Promised c (records N E k) (records N E (clock_after k q)) (tells (λ r. f r.answer) q)
  refused_after f (Ok v) e = absurd e.1
  refused_after f (Err v) e = subst (λ w. Promised c (records N E k) (records N E k) (refused (number_of w))) (sym e.1) p

-- ---- not refused
module _ (N : Nodes) (E : Entries) (c : Clock) where
  abbrev R : Records
  R = records N E c

  pub enable_yes : (N' : Nodes) (E' : Entries) (c' : Clock) → RefusesEnable R 0 → Lays wheel01 N E c N' E' c'
      → Promised (enabling R) R (records N' E' c') ok
  enable_yes N' E' c' f u =
      yes (enabling R) R (records N' E' c') ok refl f.by refl
      (λ i. records (u.nodes_are i) (u.entries_are i) (u.clock_is i))

  pub schedule_yes : (e h : ℕ) (N' : Nodes) (r : After Handle) → RefusesSchedule R e h 0 → Arms wheel01 N c N' r e h (get_or E.deadline e 0)
      → Promised (schedule e h) R (records N' E r.clock) (handle_told r.answer)
  schedule_yes e h N' r f u =
      yes (schedule e h) R (records N' E r.clock) (handle r.answer.slot r.answer.serial) tt f.by
      (λ i. handle (u.slot_is i) (u.serial_is i)) (λ i. records (u.is i) E (u.clock_is i))

  pub set_yes : (e h : ℕ) (o : Option ℕ) (E' : Entries) → RefusesSet R e 0 → Sets wheel01 E E' e (is_some o) (unwrap_or o 0) h
      → Promised (set_entry e (due_told o) h) R (records N E' c) ok
  set_yes e h o E' f u =
      yes (set_entry e (due_told o) h) R (records N E' c) ok tt f.by refl ((λ y. records N (u.is y) c) ∙ set_written o)
    where
      set_written : (o : Option ℕ) → records N (settled e (is_some o) (unwrap_or o 0) h E) c ≡ written (set_entry e (due_told o) h) R
      set_written (Some d) = refl
      set_written None = refl

  pub start_yes : (q : ℕ) (c' : Clock) → RefusesClosed R 0 → Starts wheel01 c c' q → Promised (start q) R (records N E c') ok
  start_yes q c' f u = yes (start q) R (records N E c') ok tt f.by refl (λ i. records N E (u.is i))

  pub abandon_yes : (c' : Clock) → RefusesOpen R 0 → Abandons wheel01 c c' → Promised abandon R (records N E c') ok
  abandon_yes c' f u = yes abandon R (records N E c') ok tt f.by refl (λ i. records N E (u.is i))

  pub pull_yes : (N' : Nodes) (r : After Event) → RefusesOpen R 0 → Pulls wheel01 N E.dated E.deadline c N' r.clock r.answer
      → Promised pull R (records N' E r.clock) (told r.answer)
  pull_yes N' r f u =
      yes pull R (records N' E r.clock) (told r.answer) tt f.by (ap told u.event_is) (λ i. records (u.is i) E (u.clock_is i))

  pub count_yes : (r : ℕ) → RefusesCount R 0 → Counts wheel01 N.links.heads N.links.home r → Promised armed_count R R (number r)
  count_yes r f u = yes armed_count R R (number r) tt f.by (ap number u.is) refl

  pub due_yes : (v : Option ℕ) → RefusesClosed R 0 → FindsDue wheel01 N.links.heads N.links.home N.entry E.dated E.deadline v
      → Promised next_due R R (due (due_told v))
  due_yes v f u = yes next_due R R (due (due_told v)) tt f.by (ap due u.is) refl

  -- with a handle
  module _ (x n h : ℕ) (f : RefusesHandle R x n h 0) where
    pub deschedule_yes : (N' : Nodes) (c' : Clock) → Disarms wheel01 N c N' c' x → Promised (deschedule x n h) R (records N' E c') ok
    deschedule_yes N' c' u =
        yes (deschedule x n h) R (records N' E c') ok tt f.by refl (λ i. records (u.is i) E (u.clock_is i))

    -- without a deadline
    pub reschedule_removes : (N' : Nodes) (c' : Clock) → not (get_or E.dated (get_or N.entry x 0) false) ≡ true → Disarms wheel01 N c N' c' x
        → Promised (reschedule x n h) R (records N' E c') removed
    reschedule_removes N' c' b u =
        let e : get_or E.dated (get_or N.entry x 0) false ≡ false = not-true (get_or E.dated (get_or N.entry x 0) false) b in
        yes (reschedule x n h) R (records N' E c') removed tt f.by (ap (λ (t : Bool). cond t ok removed) (sym e))
        ((λ i. records (u.is i) E (u.clock_is i)) ∙ ap (λ (t : Bool). cond t (moved R x) (descheduled R x)) (sym e))

    -- with one: the payload stays
    pub reschedule_moves : (N' : Nodes) (a' : Links) → not (get_or E.dated (get_or N.entry x 0) false) ≡ false
        → Rearms wheel01 N.links a' c.reading x (get_or E.deadline (get_or N.entry x 0) 0) → N' ≡ with_links a' N
        → Promised (reschedule x n h) R (records N' E c) ok
    reschedule_moves N' a' b u v =
        let e : get_or E.dated (get_or N.entry x 0) false ≡ true = not-false (get_or E.dated (get_or N.entry x 0) false) b in
        yes (reschedule x n h) R (records N' E c) ok tt f.by (ap (λ (t : Bool). cond t ok removed) (sym e))
        (ap (λ (M : Nodes). records M E c) v ∙ (λ i. records (with_links (u.is i) N) E c) ∙ ap (λ (t : Bool). cond t (moved R x) (descheduled R x)) (sym e))
