-- The invariant of one timer, over every state that a run can come to. It speaks of the timer's effective time t.
use Prim.Native.Nat.{ℕ, ◌<◌}
use native.Mathlib.Omega.{arith}
use mathlib.Core.Path.{◌≡◌}
use mathlib.Core.Logic.{◌⊎◌}
use mathlib.Core.Bool.{true}
use mathlib.Core.Option.{some}
use Rattle.rules.specs.Places.{Geometry, buckets}
use Rattle.rules.specs.Place.{effective}
use Rattle.rules.specs.Wheel.{Lists, new_node, hit, count, Advance, closed, poised, within, Answer, refused, ok, handle, removed, end, expired}
use Rattle.rules.specs.Wheel.{rescheduled, number, due, Later}
use Rattle.rules.specs.Runs.{Run}
use Rattle.rules.proofs.Placing.{Mem, InTime, in-time-in}
use Rattle.rules.proofs.Standing.{Elsewhere, At, Bearers, Gone, at_same, bearers_else}

-- b is the bucket of t at some level, and at the reading r that level has not passed it
abbrev pub Due : Geometry → ℕ → ℕ → ℕ → Type 0
Due g r t b = InTime 0 g.shift g.sizes 0 r t b

-- An advance from p to q has dealt with the timer, or will not come to its bucket: it is due at q, and if the advance
-- enters a later tick, t is after q.
pub record Settled (g : Geometry) (p q t b : ℕ) : Type 0 where
  pub due : Due g q t b
  pub later : Later g p q → q < t

-- Where the timer x in the bucket b stands in an advance to q. While one is open from p, it is due at p, whatever has
-- been pulled (abandon rests on that); and its bucket is yet to be entered, or it stands before the sentinel of the
-- bucket that was entered last, or it is settled.
abbrev pub Stage : Geometry → ℕ → ℕ → ℕ → ℕ → Lists → Advance → Type 0
Stage g x t b q L closed = Due g q t b
Stage g x t b q L (poised p bs) = Due g p t b × ((c : ℕ) → Mem c bs → Later g p q) × (Mem b bs ⊎ Settled g p q t b)
Stage g x t b q L (within p c bs) =
    Due g p t b × Later g p q × ((Mem b bs ⊎ (0 < count x (L.bucket c).early)) ⊎ Settled g p q t b)

pub stage_in : (g : Geometry) (x t b q : ℕ) (L : Lists) (A : Advance) → Stage g x t b q L A → b < buckets g
stage_in g x t b q L closed s = omega (arith, in-time-in 0 g.shift g.sizes 0 q t b s)
stage_in g x t b q L (poised p bs) s = omega (arith, in-time-in 0 g.shift g.sizes 0 p t b s.0)
stage_in g x t b q L (within p c bs) s = omega (arith, in-time-in 0 g.shift g.sizes 0 p t b s.0)

-- x is armed for the entry e with the generation h and the serial n, stands in b once and in no other bucket, and no
-- other slot bears the serial n
pub record Timer (x e h n b : ℕ) (L : Lists) : Type 0 where
  pub at : At x (new_node b e h n) (hit b) L
  pub only : Bearers n (λ (y : ℕ). y ≡ x) L

-- a step on another slot, with another serial
pub timer_else : (x e h n b y : ℕ) (L M : Lists) → Timer x e h n b L → Elsewhere y L M → (x ≡ y → ⊥) → ((M.node y).serial ≡ n → ⊥) → Timer x e h n b M
timer_else x e h n b y L M t a ne s =
    record {
      at = at_same x (new_node b e h n) (hit b) L M t.at (a.is x ne);
      only = bearers_else n (λ (z : ℕ). z ≡ x) y L M t.only a (λ i. absurd (s i));
    }

-- the answer is End
abbrev pub Ends : Answer → Type 0
Ends (refused k) = ⊥
Ends ok = ⊥
Ends (handle x m) = ⊥
Ends removed = ⊥
Ends end = Unit {0}
Ends (expired e m d) = ⊥
Ends (rescheduled e m b) = ⊥
Ends (number k) = ⊥
Ends (due o) = ⊥

-- the timer (x, n), armed with the generation h for the entry e, whose deadline is d, waits in the wheel
pub record Waiting (g : Geometry) (x e h n d : ℕ) (R : Run) : Type 0 where
  pub b : ℕ
  pub timer : Timer x e h n b R.wheel.lists
  pub stage : Stage g x (effective (R.placed n) d) b R.wheel.reading R.wheel.lists R.wheel.advance
  pub dated : (R.wheel.entry e).deadline ≡ some d
  pub issued : n < R.wheel.next
  pub on : R.wheel.enabled ≡ true

-- it has been handed out
pub record Past (n : ℕ) (R : Run) : Type 0 where
  pub gone : Gone n R.wheel.lists
  pub issued : n < R.wheel.next
  pub on : R.wheel.enabled ≡ true
