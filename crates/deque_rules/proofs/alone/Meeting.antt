-- Why a call meets its promise: refused, and not refused.
use Prim.Native.Nat.{ℕ}
use mathlib.Core.Path.{◌≡◌, refl}
use Rattle.deque_rules.specs.Deque.{State, DequeAnswer as Told, refused, Meets}

-- a refusal by a number that is not 0, and a result by 0
pub no : (rows : ℕ → Type 0) (a after : State) (then : Told) (k : ℕ) → rows k → (k ≡ 0 → ⊥) → Meets rows a a (refused k) after then
no rows a after then k f n = record { number = k; by = f; refusal = λ _. (refl, refl); result = λ z. absurd (n z) }

pub yes_by : (rows : ℕ → Type 0) (a b after : State) (answer then : Told) (k : ℕ) → rows k → k ≡ 0 → answer ≡ then → b ≡ after → Meets rows a b answer after
    then
yes_by rows a b after answer then k f z i j = record { number = k; by = f; refusal = λ n. absurd (n z); result = λ _. (i, j) }
