-- What `waiting` answers.
use Prim.Native.Nat.{ℕ}
use mathlib.Core.Path.{◌≡◌, sym, ap, ◌∙◌}
use mathlib.Core.List.{List}
use lib.ListN.{get_or}
use Rattle.numbers.specs.Shared.{no_slot as nowhere}
use Rattle.deque_rules.specs.Read.{Front}
use Rattle.rules.specs.Places.{wheel01}
use Rattle.wheel_rules.specs.declared.calls.Clock.{Clock}
use Rattle.wheel_rules.specs.popping.Pop.{stands_in}
use Rattle.wheel_rules.proofs.popping.Waiting.{wait_before, wait_none, wait_some}
use Rattle.wheel_rules.specs.turns.Turns.{Waits}

pub waits_before : (h : List ℕ) (c : Clock) → c.step ≡ 0 → Waits wheel01 h c nowhere
waits_before h c e = record { is = sym (wait_before wheel01 h c e) }

module _ (h : List ℕ) (c : Clock) (b x : ℕ) (n : c.step ≡ 0 → ⊥) (eb : b ≡ stands_in wheel01 c) (f : Front h b x) where
  at_head : get_or h (stands_in wheel01 c) 0 ≡ x
  at_head = ap (λ (k : ℕ). get_or h k 0) (sym eb) ∙ sym f.is

  pub waits_none : x ≡ b → Waits wheel01 h c nowhere
  waits_none e = record { is = sym (wait_none wheel01 h c n (at_head ∙ e ∙ eb)) }

  pub waits_some : (x ≡ b → ⊥) → Waits wheel01 h c x
  waits_some k = record { is = sym (wait_some wheel01 h c n (λ e. k (sym at_head ∙ e ∙ sym eb)) ∙ at_head) }
