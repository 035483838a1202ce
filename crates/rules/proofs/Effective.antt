-- The three laws of a timer's effective time: all that demand 3's invariant knows of it.
use Prim.Native.Nat.{ℕ, ◌≤◌}
use native.Mathlib.Omega.{arith}
use mathlib.Core.Path.{◌≡◌, refl}
use Rattle.rules.specs.Places.{Geometry, tick, bucket_of}
use Rattle.rules.specs.Place.{effective}
use Rattle.rules.proofs.Placing.{InTime, placed_in_time}

-- it is not before the deadline
pub effective_late : (r d : ℕ) → d ≤ effective r d
unfolding effective
effective_late r d = omega arith

-- a deadline in no earlier tick than the reading is placed in time for it
pub effective_placed : (g : Geometry) (r d : ℕ) → tick g.shift r ≤ tick g.shift d
    → InTime 0 g.shift g.sizes 0 r (effective r d) (bucket_of g r d)
unfolding effective
effective_placed g r d h = placed_in_time 0 g.shift g.sizes 0 r d (omega arith)

-- under the rule of 01 it is the deadline
pub effective_deadline : (r d : ℕ) → effective r d ≡ d
unfolding effective
effective_deadline r d = refl
