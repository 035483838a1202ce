-- Why a refused call meets its promise, where the check needs it. Where a call is not refused the check finds it alone.
use Prim.Native.Nat.{ℕ}
use native.Mathlib.Omega.{arith}
use mathlib.Core.Path.{◌≡◌, refl, sym, ◌∙◌}
use mathlib.Core.Logic.{inl}
use mathlib.Core.Bool.{Bool, false, false≢true}
use Rattle.std.specs.Prelude.{Err}
use Rattle.numbers.proofs.Numbered.{number_above}
use Rattle.numbers.specs.Refusals.{number_of}
use Rattle.numbers.specs.declared.refusals.Refusal.{Refusal}
use Rattle.numbers.specs.declared.refusals.Refusal.TheVariants as why
use Rattle.deque_rules.specs.Deque.{State, make, move_to_back, unlink_and_drop, DequePromised as Promised}
use Rattle.deque_rules.specs.alone.Refuse.{RefusesNode}
use Rattle.deque_rules.specs.alone.Sound.{IsLent}
use Rattle.deque_rules.proofs.alone.Meeting.{no}

pub make_no : (a : State) (free : ℕ) (r : Bool) → IsLent a r → r ≡ false → Promised make a free a (Err why.LengthsOutOfRange)
make_no a free r z i = record { meets = no _ a _ _ 3 (inl ((λ y. false≢true (sym i ∙ z.complete y)), refl)) (λ k. omega (arith, k)) }

module _ (a : State) (free d s : ℕ) (w : Refusal) (f : RefusesNode a free d s (number_of w)) where
  above : number_of w ≡ 0 → ⊥
  above z = omega (arith, number_above w)

  pub move_no : Promised (move_to_back d s) a free a (Err w)
  move_no = record { meets = no _ a _ _ (number_of w) f.by above }

  pub drop_no : Promised (unlink_and_drop d s) a free a (Err w)
  drop_no = record { meets = no _ a _ _ (number_of w) f.by above }
