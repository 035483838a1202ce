-- The kinds of the slots below x: what the pass over all slots keeps.
use Prim.Native.Nat.{ℕ, ◌<◌}
use mathlib.Core.List.{List}
use lib.ListN.{get_or}
use Rattle.wheel_rules.specs.Lent.{KindAt}

-- each slot below x is a sentinel, armed or free
pub record KindsTo (t : ℕ) (bucket : List ℕ) (x : ℕ) : Type 0 where
  pub each : (k : ℕ) → k < x → KindAt t k (get_or bucket k 0)
