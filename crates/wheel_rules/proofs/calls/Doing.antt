-- What each call writes and answers is what the rules' call does: of the definitions alone, without any function.
use Prim.Native.Nat.{ℕ}
use native.Mathlib.Omega.{arith}
use mathlib.Core.Path.{◌≡◌, refl, sym, ap, subst}
use mathlib.Core.Bool.{Bool, true, false, cond}
use mathlib.Core.Option.{Option, none, some}
use lib.ListN.{get_or}
use Rattle.deque_rules.specs.Links.{Links, link_back}
use Rattle.deque_rules.specs.Change.{Pushable}
use Rattle.deque_rules.proofs.Laws.{first_in, pushes}
use Rattle.rules.specs.Places.{wheel01, bucket_of}
use Rattle.rules.specs.Wheel.{Wheel, set_entry, schedule, reschedule, deschedule, start, pull, abandon, armed_count, next_due, Answer, ok, number, due}
use Rattle.rules.specs.Wheel.{removed}
use Rattle.rules.specs.Calls.{act, rearmed}
use Rattle.rules.proofs.Placing.{bucket_of_in}
use Rattle.wheel_rules.specs.declared.calls.Clock.{Clock}
use Rattle.wheel_rules.specs.Lent.{Nodes, Entries, Records, Shows}
use Rattle.wheel_rules.specs.records.Clocks.{ended}
use Rattle.wheel_rules.specs.records.Settings.{EntryReady}
use Rattle.wheel_rules.specs.timers.Change.{written}
use Rattle.wheel_rules.specs.timers.Timers.{SlotReady, MoveReady}
use Rattle.wheel_rules.specs.layout.Layout.{LayReady}
use Rattle.wheel_rules.specs.popping.Pop.{TurnReady}
use Rattle.numbers.specs.Shared.{not_refused as answered, unless}
use Rattle.wheel_rules.specs.refusals.Refuse.{enable_rows, set_rows, schedule_rows, handle_rows, closed_rows, open_rows, count_rows, RefusesSet}
use Rattle.wheel_rules.specs.refusals.Refuse.{RefusesHandle}
use Rattle.wheel_rules.specs.calls.Work.{entry_set, deadline_at, scheduled, handle_of, descheduled, moved, has_deadline, rescheduled, reschedule_says}
use Rattle.wheel_rules.specs.calls.Work.{laid_out, entry_of, opened, left, pulled, pull_says, armed_says, next_says}
use Rattle.wheel_rules.specs.calls.Calls.{Acts}
use Rattle.wheel_rules.specs.Promise.{enabling}
use Rattle.wheel_rules.proofs.records.Setting.{sets_does}
use Rattle.wheel_rules.proofs.records.Retiming.{start_does, end_does, abandon_does}
use Rattle.wheel_rules.proofs.records.Counting.{count_same, due_same}
use Rattle.wheel_rules.proofs.timers.Timing.{arm_shows}
use Rattle.wheel_rules.proofs.timers.Doing.{disarms, rearms}
use Rattle.wheel_rules.proofs.layout.Doing.{lay_does}
use Rattle.wheel_rules.proofs.pull.Doing.{pull_does}
use Rattle.wheel_rules.proofs.refusals.Rows.{past, standing_past, closed_past}
use Rattle.wheel_rules.proofs.refusals.Refusing.{set_past}
use Rattle.wheel_rules.proofs.calls.Acting.{lay_ready, Schedulable, schedulable_by, ready, Handled, handled_by, slot_ready, entry_ready, turn_ready}
use Rattle.wheel_rules.proofs.calls.Acting.{deadline_is, held_is}
use Rattle.wheel_rules.proofs.calls.Lifting.{stands_of, lift, same_option}

-- ---- enable
pub enable_acts : (R : Records) → enable_rows R 0 → Acts (enabling R) R (laid_out R) ok
enable_acts R f w t o =
    let y : LayReady wheel01 R.nodes R.entries = lay_ready R.nodes R.entries R.clock (record { by = f }) in
    (refl, stands_of (laid_out R) _ (lay_does R.nodes R.entries R.clock y w t.reading t.next))

-- ---- schedule
module _ (R : Records) (e h : ℕ) (s : Schedulable R.nodes R.entries R.clock e) where
  abbrev at : ℕ
  at = bucket_of wheel01 R.clock.reading (deadline_at R e)

  -- there is a free slot, and the bucket is a deque
  free_pushable : Pushable R.nodes.links R.clock.free at
  free_pushable =
      let t = (ready R.nodes R.entries R.clock s.enabled s.sound).shows in
      record {
        v = t.lists;
        rep = t.rep;
        free_is = t.free_is;
        slot = (t.rep.spare R.clock.free (first_in t.lists.free R.clock.free t.free_is s.free)).0;
        deque = omega (arith, bucket_of_in wheel01 R.clock.reading (deadline_at R e), t.count);
      }

  schedule_lifts : Acts (schedule e h) R (scheduled R e h) (handle_of R)
  schedule_lifts =
      let N : Nodes = R.nodes in
      let a : Links = N.links in
      let x : ℕ = R.clock.free in
      let b : Links = link_back a at x in
      let M : Nodes = written x e h R.clock.serial N in
      lift (schedule e h) R (scheduled R e h) (handle_of R) s.enabled
      (λ w t o.
      arm_shows a.heads a.tails a.next a.prev a.home N.entry N.generation N.serial R.clock (deadline_at R e) (get_or a.next x 0) at
      (record { is = refl }) b.heads b.tails b.next b.prev b.home M.entry M.generation M.serial e h
      (record { entry_is = refl; generation_is = refl; serial_is = refl }) (pushes a x at free_pushable) R.entries w t o
      (deadline_is R.entries w N R.clock e true t s.entry s.dated))

pub schedule_acts : (R : Records) (e h : ℕ) → schedule_rows R e h 0 → Acts (schedule e h) R (scheduled R e h) (handle_of R)
schedule_acts R e h f = schedule_lifts R e h (schedulable_by R e h f)

-- ---- deschedule, reschedule
module _ (R : Records) (x n h : ℕ) (f : handle_rows R x n h 0) where
  refuses : RefusesHandle R x n h 0
  refuses = record { by = f }

  held : Handled R.nodes R.entries R.clock x n
  held = handled_by R.nodes R.entries R.clock x n h refuses

  slot : SlotReady wheel01 R.nodes R.clock x
  slot = slot_ready R.nodes R.entries R.clock x n h refuses

  pub deschedule_acts : Acts (deschedule x n h) R (descheduled R x) ok
  deschedule_acts =
      lift (deschedule x n h) R (descheduled R x) ok held.enabled (λ w t o. (refl, (disarms R.nodes R.clock x slot).does R.entries w t o n h))

  -- with a deadline, and without
  reschedule_by : (b : Bool) → has_deadline R x ≡ b → Acts (reschedule x n h) R (cond b (moved R x) (descheduled R x)) (cond b ok removed)
  reschedule_by true e =
      let N : Nodes = R.nodes in
      let c : Clock = R.clock in
      let y : MoveReady wheel01 N.links c.reading x =
      record { e = N.entry; h = N.generation; n = N.serial; c = c; at = refl; ready = slot } in
      lift (reschedule x n h) R (moved R x) ok held.enabled
      (λ w t o.
      (rearms N.links c.reading x (deadline_at R (entry_of R x)) y).does N.entry N.generation N.serial R.entries c w t o refl
      (held_is N R.entries c x n w true held t e) n h)
  reschedule_by false e =
      lift (reschedule x n h) R (descheduled R x) removed held.enabled
      (λ w t o.
      subst (λ (m : Answer × Wheel). (m.0 ≡ removed) × Shows wheel01 (descheduled R x) m.1)
      (sym (ap (rearmed wheel01 w x) (held_is R.nodes R.entries R.clock x n w false held t e)))
      (refl, (disarms R.nodes R.clock x slot).does R.entries w t o n h))

  pub reschedule_acts : Acts (reschedule x n h) R (rescheduled R x) (reschedule_says R x)
  reschedule_acts = reschedule_by (has_deadline R x) refl

-- ---- set entry
pub set_acts : (R : Records) (e : ℕ) (has : Bool) (d h : ℕ) → set_rows R e 0 → Acts (set_entry e (cond has (some d) none) h) R (entry_set R e has d h) ok
set_acts R e has d h f =
    let g : RefusesSet R e 0 = record { by = f } in
    let E : Entries = R.entries in
    let j : ℕ = cond has d 0 in
    let y : EntryReady E e = entry_ready R.nodes E R.clock e g in
    lift (set_entry e (cond has (some d) none) h) R (entry_set R e has d h) ok (set_past R e 0 g refl).0
    (λ w t o. (
      refl,
      subst (λ (m : Option ℕ). Shows wheel01 (entry_set R e has d h) (act wheel01 w (set_entry e m h)).1) (same_option has j d refl)
          ((sets_does wheel01 E.dated E.deadline E.generation e has j h y).does R.nodes R.clock w t),
    ))

-- ---- start, abandon
pub start_acts : (R : Records) (q : ℕ) → closed_rows R 0 → Acts (start q) R (opened R q) ok
start_acts R q f =
    lift (start q) R (opened R q) ok (closed_past R answered 0 f refl).0 (λ w t o. (refl, (start_does wheel01 R.clock q).does R.nodes R.entries w t))

-- what the rows of pull and abandon have shown
open_past : (R : Records) → open_rows R 0 → (R.clock.enabled ≡ true) × (R.clock.open ≡ true)
open_past R f =
    let v = standing_past R (unless (R.clock.open ≡ true) 6 answered) 0 f refl in
    (v.0, (past 6 0 v.2 (λ i. omega (arith, i))).0)

pub abandon_acts : (R : Records) → open_rows R 0 → Acts abandon R (left R) ok
abandon_acts R f =
    let c : Clock = R.clock in
    lift abandon R (left R) ok (open_past R f).0
    (λ w t o. (refl, (abandon_does wheel01 c (ended c) (end_does wheel01 c)).does R.nodes R.entries w t (open_past R f).1))

-- ---- the two counts
pub count_acts : (R : Records) → count_rows R 0 → Acts armed_count R R (armed_says R)
count_acts R f =
    lift armed_count R R (armed_says R) (standing_past R answered 0 f refl).0
    (λ w t o. (ap number (count_same wheel01 R.nodes R.entries R.clock w t o), t))

pub due_acts : (R : Records) → closed_rows R 0 → Acts next_due R R (next_says R)
due_acts R f =
    lift next_due R R (next_says R) (closed_past R answered 0 f refl).0
    (λ w t o. (ap due (due_same wheel01 R.nodes R.entries R.clock w t o), t))

-- ---- pull
pub pull_acts : (R : Records) → open_rows R 0 → Acts pull R (pulled R) (pull_says R)
pull_acts R f =
    let E : Entries = R.entries in
    let y : TurnReady wheel01 R.nodes E.dated E.deadline R.clock =
    turn_ready R.nodes E R.clock (record { by = f }) in
    lift pull R (pulled R) (pull_says R) (open_past R f).0
    (λ w t o. pull_does R.nodes E.dated E.deadline R.clock y E.generation w t o)
