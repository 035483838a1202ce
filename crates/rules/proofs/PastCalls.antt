-- What each call does after a timer has been handed out: it is not handed out again.
use Prim.Native.Nat.{ℕ, zero, suc}
use native.Mathlib.Omega.{arith}
use mathlib.Core.Path.{◌≡◌, refl, sym, ◌∙◌}
use mathlib.Core.Bool.{true}
use mathlib.Core.Option.{Option, none, some}
use mathlib.Core.List.{List, [], ◌∷◌}
use Rattle.rules.specs.Places.{Geometry, bucket_of}
use Rattle.rules.specs.Wheel.{Slot as Node, Lists, new_node, placed_in, link, unlink, release, claim, Wheel, Call, create, enable, set_entry, schedule}
use Rattle.rules.specs.Wheel.{reschedule, deschedule, start, pull, abandon, armed_count, next_due, Answer, Changes, hands_out}
use Rattle.rules.specs.Calls.{rows, tests_of, armed, rearmed, act, judged}
use Rattle.rules.specs.Runs.{refusal, step, Run}
use Rattle.numbers.proofs.Cases.{not_both}
use Rattle.rules.proofs.Standing.{Gone, bearers_else, unlink_release, unlink_link, claim_link, serial_freed, serial_linked}
use Rattle.rules.proofs.Timers.{Past}
use Rattle.rules.proofs.Gone.{pulled_gone}
use Rattle.rules.proofs.Passing.{rest, pass_not, fresh, handles}
use Rattle.rules.proofs.WaitingCalls.{led}

module _ (g : Geometry) (n : ℕ) (R : Run) (k : Past n R) where
  abbrev Silent : Call → Answer × Wheel → Type 0
  Silent c r = (hands_out n r.0 ≡ 0) × Past n (led R c r)

  refused_silent : (c : Call) (j : ℕ) (r : Answer × Wheel) → (j ≡ 0 → Silent c r) → Silent c (judged j r R.wheel)
  refused_silent c zero r f = f refl
  refused_silent c (suc j) r f = (refl, record { gone = k.gone; issued = k.issued; on = k.on })

  arms_silent : (i m : ℕ) (o : Option ℕ) (fs : List ℕ) → R.wheel.lists.free ≡ fs → Silent (schedule i m) (armed g R.wheel i m o fs)
  arms_silent i m none fs f = (refl, record { gone = k.gone; issued = k.issued; on = k.on })
  arms_silent i m (some j) [] f = (refl, record { gone = k.gone; issued = k.issued; on = k.on })
  arms_silent i m (some j) (y ∷ fs) f =
      let w : Wheel = R.wheel in
      let b : ℕ = bucket_of g w.reading j in
      let v : Node = new_node b i m w.next in (
        refl,
        record {
          gone = bearers_else n (λ (z : ℕ). ⊥) y w.lists (link b y v (claim fs w.lists)) k.gone (claim_link y w.lists fs f b v)
              (λ z. omega (arith, k.issued, sym (serial_linked y b v (claim fs w.lists)) ∙ z));
          issued = omega (arith, k.issued);
          on = k.on;
        },
      )

  drops_silent : (y : ℕ) → (R.wheel.lists.node y).armed ≡ true → Gone n (release y (unlink y R.wheel.lists))
  drops_silent y l =
      let L : Lists = R.wheel.lists in
      bearers_else n (λ (z : ℕ). ⊥) y L (release y (unlink y L)) k.gone (unlink_release y L)
      (λ z. k.gone.armed y l (sym (serial_freed y (unlink y L)) ∙ z))

  rearms_silent : (y m i : ℕ) (o : Option ℕ) → (R.wheel.lists.node y).armed ≡ true → Silent (reschedule y m i) (rearmed g R.wheel y o)
  rearms_silent y m i none l = (refl, record { gone = drops_silent y l; issued = k.issued; on = k.on })
  rearms_silent y m i (some j) l =
      let L : Lists = R.wheel.lists in
      let b : ℕ = bucket_of g R.wheel.reading j in
      let v : Node = placed_in b (L.node y) in (
        refl,
        record {
          gone = bearers_else n (λ (z : ℕ). ⊥) y L (link b y v (unlink y L)) k.gone (unlink_link y L b v)
              (λ z. k.gone.armed y l (sym (serial_linked y b v (unlink y L)) ∙ z));
          issued = k.issued;
          on = k.on;
        },
      )

  pub each_call_past : (x e d : ℕ) (c : Call) → (Changes x n e d c → refusal g R.wheel c ≡ 0 → ⊥) → Silent c (step g R.wheel c)
  each_call_past x e d (create m) f = absurd (f tt refl)
  each_call_past x e d (enable m j b) f =
      refused_silent (enable m j b) (refusal g R.wheel (enable m j b)) (act g R.wheel (enable m j b))
      (λ z. absurd (not_both (sym (pass_not R.wheel.enabled 1 (rest (rows (tests_of g true R.wheel) (enable m j b))) z).0 ∙ k.on)))
  each_call_past x e d (set_entry i o m) f =
      refused_silent (set_entry i o m) (refusal g R.wheel (set_entry i o m)) (act g R.wheel (set_entry i o m))
      (λ z. (refl, record { gone = k.gone; issued = k.issued; on = k.on }))
  each_call_past x e d (schedule i m) f =
      refused_silent (schedule i m) (refusal g R.wheel (schedule i m)) (act g R.wheel (schedule i m))
      (λ z. arms_silent i m (R.wheel.entry i).deadline R.wheel.lists.free refl)
  each_call_past x e d (reschedule y m j) f =
      refused_silent (reschedule y m j) (refusal g R.wheel (reschedule y m j)) (act g R.wheel (reschedule y m j))
      (λ z. rearms_silent y m j (R.wheel.entry (R.wheel.lists.node y).entry).deadline (fresh R.wheel y m (handles g R.wheel y m j z).2).1)
  each_call_past x e d (deschedule y m j) f =
      refused_silent (deschedule y m j) (refusal g R.wheel (deschedule y m j)) (act g R.wheel (deschedule y m j))
      (λ z. (refl, record { gone = drops_silent y (fresh R.wheel y m (handles g R.wheel y m j z).2).1; issued = k.issued; on = k.on }))
  each_call_past x e d (start q) f =
      refused_silent (start q) (refusal g R.wheel (start q)) (act g R.wheel (start q))
      (λ z. (refl, record { gone = k.gone; issued = k.issued; on = k.on }))
  each_call_past x e d pull f =
      refused_silent pull (refusal g R.wheel pull) (act g R.wheel pull)
      (λ z.
      let i = pulled_gone g R.wheel.entry n R.wheel.reading R.wheel.advance R.wheel.lists k.gone in
      (i.0, record { gone = i.1; issued = k.issued; on = k.on }))
  each_call_past x e d abandon f =
      refused_silent abandon (refusal g R.wheel abandon) (act g R.wheel abandon) (λ z. (refl, record { gone = k.gone; issued = k.issued; on = k.on }))
  each_call_past x e d armed_count f =
      refused_silent armed_count (refusal g R.wheel armed_count) (act g R.wheel armed_count)
      (λ z. (refl, record { gone = k.gone; issued = k.issued; on = k.on }))
  each_call_past x e d next_due f =
      refused_silent next_due (refusal g R.wheel next_due) (act g R.wheel next_due) (λ z. (refl, record { gone = k.gone; issued = k.issued; on = k.on }))
