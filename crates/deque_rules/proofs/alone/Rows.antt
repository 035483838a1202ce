-- The order in which a push is refused and what a reset writes, each as a law by itself. Where no node is free a push is
-- refused 10, whether there is such a deque or not; 16 comes after. A reset that is not refused puts back the cursor of
-- its own deque.
use Prim.Native.Nat.{ℕ, ◌≤◌}
use native.Mathlib.Omega.{arith}
use mathlib.Core.Path.{◌≡◌, refl}
use mathlib.Core.Logic.{inl, inr}
use mathlib.Core.Bool.{Bool, false, not}
use mathlib.Core.List.{List}
use lib.ListN.{length}
use borrow.Author.Tests.{not-false}
use Rattle.std.specs.Prelude.{Ok}
use Rattle.numbers.specs.Shared.{no_slot as none}
use Rattle.deque_rules.specs.Deque.{State, state, Sound, with_cursor, reset_cursor, DequePromised as Promised}
use Rattle.deque_rules.specs.alone.Sound.{Judged}
use Rattle.deque_rules.specs.alone.Refuse.{RefusesDeque, RefusesPush}
use Rattle.deque_rules.proofs.alone.Meeting.{yes_by}

-- ---- push back
module _ (h t l c n p o e : List ℕ) (free d : ℕ) (b : Bool) (j : Judged (state h t l c n p o e) free b) where
  good : not b ≡ false → Sound (state h t l c n p o e) free
  good i = j.sound (not-false b i)

  pub push_10 : not b ≡ false → free ≡ none → RefusesPush (state h t l c n p o e) free d 10
  push_10 i k = record { by = inr (good i, inl ((λ m. m k), refl)) }

  pub push_16 : not b ≡ false → (free ≡ none → ⊥) → length h ≤ d → RefusesPush (state h t l c n p o e) free d 16
  push_16 i f k = record { by = inr (good i, inr (f, inl ((λ m. omega (arith, m, k)), refl))) }

-- ---- reset cursor
module _ (a : State) (free d k : ℕ) (f : RefusesDeque a free d k) where
  pub reset_yes : k ≡ 0 → Promised (reset_cursor d) a free (with_cursor a d none) (Ok tt)
  reset_yes z = record { meets = yes_by _ a (with_cursor a d none) _ _ _ k f.by z refl refl }
