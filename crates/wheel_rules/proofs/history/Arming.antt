-- An arming seen on records is the rules' arming on every wheel that these tell.
use Prim.Native.Nat.{ℕ, zero, suc, ◌<◌}
use mathlib.Core.Path.{◌≡◌, refl, sym, ap, subst, ◌∙◌}
use mathlib.Core.Logic.{⊎_elim}
use mathlib.Core.Bool.{true}
use mathlib.Core.Option.{some}
use lib.ListN.{get_or}
use lib.Dec.{ltb}
use borrow.Author.Tests.{ltb-true}
use Rattle.rules.specs.Places.{wheel01}
use Rattle.rules.specs.Wheel.{Slot as Node, Entry, Wheel, Call, schedule, reschedule, Answer, ok, handle, IsRefused}
use Rattle.rules.specs.Calls.{rows, tests_of, is_open, act, judged}
use Rattle.rules.specs.Runs.{refusal, step}
use Rattle.rules.specs.Demand3.{Arms as RunArms}
use Rattle.rules.proofs.Passing.{rest, pass, ready, fresh, handles}
use Rattle.wheel_rules.specs.Lent.{Records, entry_at}
use Rattle.wheel_rules.specs.Promise.{Promised}
use Rattle.wheel_rules.specs.history.Tells.{Tells}
use Rattle.wheel_rules.specs.Demand3.{Arms}
use Rattle.wheel_rules.proofs.history.Steps.{step_is}
use Rattle.wheel_rules.proofs.history.Standing.{armed_node}

-- a call whose answer is no refusal is taken
taken : (w : Wheel) (c : Call) → (IsRefused (step wheel01 w c).0 → ⊥) → refusal wheel01 w c ≡ 0
taken w c = go (refusal wheel01 w c)
  where
    go : (k : ℕ) → (IsRefused (judged k (act wheel01 w c) w).0 → ⊥) → k ≡ 0
    go zero f = refl
    go (suc k) f = absurd (f tt)

-- the call that arms, and the wheel then
pub record Armed (w : Wheel) (R : Records) (x n e d : ℕ) : Type 0 where
  pub call : Call
  pub arms : RunArms wheel01 w call x n e d
  pub tells : Tells R (step wheel01 w call).1

module _ (w : Wheel) (P R : Records) (T : Tells P w) (x n e d : ℕ) (dated : (entry_at P.entries e).deadline ≡ some d) where
  -- the deadline of an entry that exists
  dated_there : w.enabled ≡ true → e < w.entries → (w.entry e).deadline ≡ some d
  dated_there on l = ap (λ (v : Entry). v.deadline) ((T.stands.shows on).entry e l) ∙ dated

  by_schedule : (h : ℕ) → Promised (schedule e h) P R (handle x n) → Armed w R x n e d
  by_schedule h p =
      let y = step_is (schedule e h) P R (handle x n) w T p in
      let z : refusal wheel01 w (schedule e h) ≡ 0 = taken w (schedule e h) (subst (λ (a : Answer). IsRefused a → ⊥) y.0 (λ i. i)) in
      let r = ready w.enabled (is_open w.advance) (rest (rest (rest (rows (tests_of wheel01 true w) (schedule e h))))) z in
      let l = pass (ltb e w.entries) 6 (rest (rest (rest (rest (rows (tests_of wheel01 true w) (schedule e h)))))) r.2 in
      record {
        call = schedule e h;
        arms = (sym y.0, refl, dated_there r.0 (ltb-true e w.entries l.0));
        tells = y.1;
      }

  by_reschedule : (h : ℕ) → get_or P.nodes.entry x 0 ≡ e → Promised (reschedule x n h) P R ok → Armed w R x n e d
  by_reschedule h i p =
      let y = step_is (reschedule x n h) P R ok w T p in
      let z : refusal wheel01 w (reschedule x n h) ≡ 0 = taken w (reschedule x n h) (subst (λ (a : Answer). IsRefused a → ⊥) y.0 (λ i. i)) in
      let k = handles wheel01 w x n h z in
      let a = (fresh w x n k.2).1 in
      let own : (w.lists.node x).entry ≡ e = ap (λ (v : Node). v.entry) (armed_node P w (T.stands.shows k.0) (T.sound k.0) x a) ∙ i in
      record {
        call = reschedule x n h;
        arms = (sym y.0, refl, refl, own, dated_there k.0 (subst (λ (j : ℕ). j < w.entries) own ((T.sound k.0).lists.entry x a)));
        tells = y.1;
      }

pub armed_so : (w : Wheel) (P R : Records) → Tells P w → (x n e d : ℕ) → Arms P R x n e d → Armed w R x n e d
armed_so w P R T x n e d a =
    ⊎_elim
    (λ b. by_schedule w P R T x n e d a.dated b.0 b.1)
    (λ b. by_reschedule w P R T x n e d a.dated b.0 b.1 b.2)
    a.armed
