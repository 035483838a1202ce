-- A wheel once enabled stays enabled until another create.
use Prim.Native.Nat.{ℕ, zero, suc}
use mathlib.Core.Path.{◌≡◌, refl, subst, ◌∙◌}
use mathlib.Core.Logic.{◌⊎◌, inl, inr, ⊎_elim}
use mathlib.Core.Bool.{true}
use mathlib.Core.Option.{Option, none, some}
use mathlib.Core.List.{List, [], ◌∷◌}
use Rattle.rules.specs.Places.{Geometry}
use Rattle.rules.specs.Wheel.{Wheel, Call, create, enable, set_entry, schedule, reschedule, deschedule, start, pull, abandon, armed_count, next_due}
use Rattle.rules.specs.Wheel.{Answer, Changes}
use Rattle.rules.specs.Runs.{refusal, step, Run, next, after}
use Rattle.rules.specs.Calls.{armed, rearmed, act, judged}
use Rattle.rules.specs.Demand3.{Unchanged}

armed_enabled : (g : Geometry) (w : Wheel) (e h : ℕ) (o : Option ℕ) (fs : List ℕ) → (armed g w e h o fs).1.enabled ≡ w.enabled
armed_enabled g w e h none fs = refl
armed_enabled g w e h (some d) [] = refl
armed_enabled g w e h (some d) (x ∷ fs) = refl

rearmed_enabled : (g : Geometry) (w : Wheel) (x : ℕ) (o : Option ℕ) → (rearmed g w x o).1.enabled ≡ w.enabled
rearmed_enabled g w x none = refl
rearmed_enabled g w x (some d) = refl

module _ (g : Geometry) (w : Wheel) (on : w.enabled ≡ true) where
  judged_enabled : (k : ℕ) (r : Answer × Wheel) → r.1.enabled ≡ true → (judged k r w).1.enabled ≡ true
  judged_enabled zero r i = i
  judged_enabled (suc k) r i = on

  -- every call but create
  pub stays_enabled : (c : Call) → ((step g w c).1.enabled ≡ true) ⊎ ((m : ℕ) × (c ≡ create m))
  stays_enabled (create m) = inr (m, refl)
  stays_enabled (enable m k f) = inl (judged_enabled (refusal g w (enable m k f)) (act g w (enable m k f)) refl)
  stays_enabled (set_entry e o h) = inl (judged_enabled (refusal g w (set_entry e o h)) (act g w (set_entry e o h)) on)
  stays_enabled (schedule e h) =
      inl (judged_enabled (refusal g w (schedule e h)) (act g w (schedule e h)) (armed_enabled g w e h (w.entry e).deadline w.lists.free ∙ on))
  stays_enabled (reschedule x n h) =
      inl (judged_enabled (refusal g w (reschedule x n h)) (act g w (reschedule x n h))
      (rearmed_enabled g w x (w.entry (w.lists.node x).entry).deadline ∙ on))
  stays_enabled (deschedule x n h) = inl (judged_enabled (refusal g w (deschedule x n h)) (act g w (deschedule x n h)) on)
  stays_enabled (start q) = inl (judged_enabled (refusal g w (start q)) (act g w (start q)) on)
  stays_enabled pull = inl (judged_enabled (refusal g w pull) (act g w pull) on)
  stays_enabled abandon = inl (judged_enabled (refusal g w abandon) (act g w abandon) on)
  stays_enabled armed_count = inl (judged_enabled (refusal g w armed_count) (act g w armed_count) on)
  stays_enabled next_due = inl (judged_enabled (refusal g w next_due) (act g w next_due) on)

-- over calls that leave a timer unchanged there is no create
pub unchanged_enabled : (g : Geometry) (x n e d : ℕ) (R : Run) (cs : List Call) → R.wheel.enabled ≡ true → Unchanged g x n e d R cs
    → (after g R cs).wheel.enabled ≡ true
unchanged_enabled g x n e d R [] on u = on
unchanged_enabled g x n e d R (c ∷ cs) on u =
    ⊎_elim
    (λ (i : (step g R.wheel c).1.enabled ≡ true). unchanged_enabled g x n e d (next g R c) cs i u.1)
    (λ i. absurd (subst (λ (b : Call). Changes x n e d b → refusal g R.wheel b ≡ 0 → ⊥) i.1 u.0 tt refl))
    (stays_enabled g R.wheel on c)
