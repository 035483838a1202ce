-- A timer that is armed, or armed again, on a sound wheel, with a timely deadline, waits.
use Prim.Native.Nat.{ℕ, zero, suc}
use native.Mathlib.Omega.{arith}
use mathlib.Core.Path.{◌≡◌, refl, sym, ap, subst, ◌∙◌}
use mathlib.Core.Bool.{true, false}
use mathlib.Core.Option.{Option, none, some}
use mathlib.Core.List.{List, [], ◌∷◌}
use Rattle.rules.specs.Places.{Geometry, buckets, bucket_of}
use Rattle.rules.specs.Place.{effective}
use Rattle.rules.specs.Wheel.{Slot as Node, Lists, new_node, placed_in, update, link, unlink, claim, Advance, closed, poised, within, Wheel, Call, create}
use Rattle.rules.specs.Wheel.{enable, set_entry, schedule, reschedule, deschedule, start, pull, abandon, armed_count, next_due, handle, ok, Timely}
use Rattle.rules.specs.Calls.{is_open, rows, tests_of, armed, rearmed, act, judged}
use Rattle.rules.specs.Runs.{refusal, step, Run, next}
use Rattle.rules.specs.Sound.{Sound, SoundIfEnabled}
use Rattle.rules.specs.Demand3.{Arms}
use Rattle.numbers.proofs.Cases.{not_both}
use Rattle.rules.proofs.Counting.{update_is}
use Rattle.rules.proofs.Effective.{effective_placed}
use Rattle.rules.proofs.Standing.{unlink_link, claim_link, bearers_else, unlink_own, link_own}
use Rattle.rules.proofs.Timers.{Due, Stage, Waiting}
use Rattle.rules.proofs.Passing.{rest, ready, fresh, handles}
use Rattle.rules.proofs.SoundLists.{at_of, free_nowhere}
use Rattle.rules.proofs.WaitingCalls.{led}

-- it waits, and no advance is open
pub record Armed (g : Geometry) (x e n d : ℕ) (R : Run) : Type 0 where
  pub generation : ℕ
  pub waiting : Waiting g x e generation n d R
  pub shut : is_open R.wheel.advance ≡ false

stage_new : (g : Geometry) (x t b r : ℕ) (L : Lists) (A : Advance) → is_open A ≡ false → Due g r t b → Stage g x t b r L A
stage_new g x t b r L closed i u = u
stage_new g x t b r L (poised p bs) i u = absurd (not_both (sym i))
stage_new g x t b r L (within p c bs) i u = absurd (not_both (sym i))

module _ (g : Geometry) (R : Run) (on : R.wheel.enabled ≡ true) (s : Sound g R.wheel) (shut : is_open R.wheel.advance ≡ false) where
  -- ---- armed
  module _ (e h d : ℕ) (dated : (R.wheel.entry e).deadline ≡ some d) (timely : Timely g R.wheel.reading d) where
    first : (x : ℕ) (fs : List ℕ) → R.wheel.lists.free ≡ x ∷ fs → Armed g x e R.wheel.next d
        (led R (schedule e h) (armed g R.wheel e h (some d) (x ∷ fs)))
    first x fs f =
        let w : Wheel = R.wheel in
        let b : ℕ = bucket_of g w.reading d in
        let v : Node = new_node b e h w.next in
        record {
          generation = h;
          waiting = record {
            b = b;
            timer = record {
              at = link_own x (w.lists.node x) (claim fs w.lists) b v
                  (free_nowhere (buckets g) w.nodes w.entries w.next x w.lists s.lists fs f);
              only = bearers_else w.next (λ (y : ℕ). y ≡ x) x w.lists (link b x v (claim fs w.lists))
                  (record {
                    standing = λ c y i k. absurd (omega (arith, s.lists.below y (s.lists.member c y i), k));
                    armed = λ y i k. absurd (omega (arith, s.lists.below y i, k));
                  })
                  (claim_link x w.lists fs f b v) (λ i. refl);
            };
            stage = stage_new g x (effective (update R.placed w.next w.reading w.next) d) b w.reading (link b x v (claim fs w.lists))
                w.advance shut
                (subst (λ (r : ℕ). Due g w.reading (effective r d) b) (sym (update_is R.placed w.next w.next w.reading refl))
                (effective_placed g w.reading d timely));
            dated = dated;
            issued = omega arith;
            on = on;
          };
          shut = shut;
        }

    first_any : (x n : ℕ) (o : Option ℕ) (fs : List ℕ) → o ≡ some d → R.wheel.lists.free ≡ fs → (armed g R.wheel e h o fs).0 ≡ handle x n
        → Armed g x e n d (led R (schedule e h) (armed g R.wheel e h o fs))
    first_any x n none fs i f a = absurd (let z : ◌≡◌ {A = ℕ} 0 1 = cc in omega arith)
    first_any x n (some c) [] i f a = absurd (let z : ◌≡◌ {A = ℕ} 0 1 = cc in omega arith)
    first_any x n (some c) (y ∷ fs) i f a =
        let j : y ≡ x = cc in
        let k : R.wheel.next ≡ n = cc in
        let l : d ≡ c = cc in
        subst (λ (z : ℕ). Armed g z e n d (led R (schedule e h) (armed g R.wheel e h (some c) (y ∷ fs)))) j
        (subst (λ (z : ℕ). Armed g y e z d (led R (schedule e h) (armed g R.wheel e h (some c) (y ∷ fs)))) k
        (subst (λ (z : ℕ). Armed g y e R.wheel.next d (led R (schedule e h) (armed g R.wheel e h (some z) (y ∷ fs)))) l (first y fs f)))

  -- ---- armed again
  again : (x n h d : ℕ) → (R.wheel.lists.node x).armed ≡ true → (R.wheel.lists.node x).serial ≡ n
      → (R.wheel.entry (R.wheel.lists.node x).entry).deadline ≡ some d → Timely g R.wheel.reading d
      → Armed g x (R.wheel.lists.node x).entry n d (led R (reschedule x n h) (rearmed g R.wheel x (some d)))
  again x n h d l is dated timely =
      let w : Wheel = R.wheel in
      let L : Lists = w.lists in
      let b : ℕ = bucket_of g w.reading d in
      let v : Node = placed_in b (L.node x) in
      let m = link_own x (L.node x) (unlink x L) b v
      (unlink_own x (L.node x) L (L.node x).bucket refl (at_of (buckets g) w.nodes w.entries w.next x L s.lists l)) in
      record {
        generation = (L.node x).generation;
        waiting = record {
          b = b;
          timer = record {
            at = record { stands = m.stands; spare = m.spare; says = m.says ∙ ap (new_node b (L.node x).entry (L.node x).generation) is };
            only = bearers_else n (λ (y : ℕ). y ≡ x) x L (link b x v (unlink x L))
                (record {
                  standing = λ c y i k. s.lists.differ y x (s.lists.member c y i) l (k ∙ sym is);
                  armed = λ y i k. s.lists.differ y x i l (k ∙ sym is);
                })
                (unlink_link x L b v) (λ i. refl);
          };
          stage = stage_new g x (effective (update R.placed n w.reading n) d) b w.reading (link b x v (unlink x L)) w.advance shut
              (subst (λ (r : ℕ). Due g w.reading (effective r d) b) (sym (update_is R.placed n n w.reading refl))
              (effective_placed g w.reading d timely));
          dated = dated;
          issued = omega (arith, s.lists.below x l, is);
          on = on;
        };
        shut = shut;
      }

-- ---- "Arm or re-arm a timer whose deadline is not in an earlier tick than the wheel's reading"
module _ (g : Geometry) (R : Run) (s : SoundIfEnabled g R.wheel) (x n e d : ℕ) (timely : Timely g R.wheel.reading d) where
  schedules : (h : ℕ) → (step g R.wheel (schedule e h)).0 ≡ handle x n → (R.wheel.entry e).deadline ≡ some d → Armed g x e n d (next g R (schedule e h))
  schedules h a dated = go (refusal g R.wheel (schedule e h)) refl a
    where
      go : (k : ℕ) → refusal g R.wheel (schedule e h) ≡ k → (judged k (act g R.wheel (schedule e h)) R.wheel).0 ≡ handle x n
          → Armed g x e n d (led R (schedule e h) (judged k (act g R.wheel (schedule e h)) R.wheel))
      go zero z a =
          let r = ready R.wheel.enabled (is_open R.wheel.advance) (rest (rest (rest (rows (tests_of g true R.wheel) (schedule e h))))) z in
          first_any g R r.0 (s r.0) r.1 e h d dated timely x n (R.wheel.entry e).deadline R.wheel.lists.free dated refl a
      go (suc k) z a = absurd (let z : ◌≡◌ {A = ℕ} 0 1 = cc in omega arith)

  reschedules : (h : ℕ) → (step g R.wheel (reschedule x n h)).0 ≡ ok → (R.wheel.lists.node x).entry ≡ e → (R.wheel.entry e).deadline ≡ some d
      → Armed g x e n d (next g R (reschedule x n h))
  reschedules h a is dated = subst (λ (i : ℕ). Armed g x i n d (next g R (reschedule x n h))) is (go (refusal g R.wheel (reschedule x n h)) refl a)
    where
      dated' : (R.wheel.entry (R.wheel.lists.node x).entry).deadline ≡ some d
      dated' = ap (λ (i : ℕ). (R.wheel.entry i).deadline) is ∙ dated

      go : (k : ℕ) → refusal g R.wheel (reschedule x n h) ≡ k → (judged k (act g R.wheel (reschedule x n h)) R.wheel).0 ≡ ok
          → Armed g x (R.wheel.lists.node x).entry n d (led R (reschedule x n h) (judged k (act g R.wheel (reschedule x n h)) R.wheel))
      go zero z a =
          let i = handles g R.wheel x n h z in
          let j = fresh R.wheel x n i.2 in
          rw dated' (again g R i.0 (s i.0) i.1 x n h d j.1 j.2 dated' timely)
      go (suc k) z a = absurd (let z : ◌≡◌ {A = ℕ} 0 1 = cc in omega arith)

  pub arms_waiting : (c : Call) → Arms g R.wheel c x n e d → Armed g x e n d (next g R c)
  arms_waiting (create m) a = absurd a
  arms_waiting (enable m k f) a = absurd a
  arms_waiting (set_entry i o h) a = absurd a
  arms_waiting (schedule i h) a =
      let r : (step g R.wheel (schedule e h)).0 ≡ handle x n = subst (λ (j : ℕ). (step g R.wheel (schedule j h)).0 ≡ handle x n) a.1 a.0 in
      subst (λ (j : ℕ). Armed g x e n d (next g R (schedule j h))) (sym a.1) (schedules h r a.2)
  arms_waiting (reschedule y m h) a =
      let r : (step g R.wheel (reschedule x n h)).0 ≡ ok =
      subst (λ (j : ℕ). (step g R.wheel (reschedule x j h)).0 ≡ ok) a.2 (subst (λ (j : ℕ). (step g R.wheel (reschedule j m h)).0 ≡ ok) a.1 a.0) in
      subst (λ (j : ℕ). Armed g x e n d (next g R (reschedule j m h))) (sym a.1)
      (subst (λ (j : ℕ). Armed g x e n d (next g R (reschedule x j h))) (sym a.2) (reschedules h r a.3 a.4))
  arms_waiting (deschedule y m h) a = absurd a
  arms_waiting (start q) a = absurd a
  arms_waiting pull a = absurd a
  arms_waiting abandon a = absurd a
  arms_waiting armed_count a = absurd a
  arms_waiting next_due a = absurd a
