-- inner: sound records: 01's sentences on the deque by itself, a field for each clause.
use Rattle.std.specs.Prelude.{ℕ, ◌<◌, Bool, true, List, ◌⊎◌, ◌≡◌, length, get_or}
use Rattle.deque_rules.specs.Deque.{State, LentDeques, LentNodes, Lent, Sound}
use Rattle.numbers.specs.Shared.{no_slot, past_end}

-- ---- what the tests answer: each is exact
pub record DequesOk (heads tails lens cursors : List ℕ) (r : Bool) : Type 0 where
  pub sound : r ≡ true → LentDeques heads tails lens cursors
  pub complete : LentDeques heads tails lens cursors → r ≡ true

pub record NodesOk (next prev home elements : List ℕ) (r : Bool) : Type 0 where
  pub sound : r ≡ true → LentNodes next prev home elements
  pub complete : LentNodes next prev home elements → r ≡ true

pub record IsLent (a : State) (r : Bool) : Type 0 where
  pub sound : r ≡ true → Lent a
  pub complete : Lent a → r ≡ true

pub record Judged (a : State) (free : ℕ) (r : Bool) : Type 0 where
  pub sound : r ≡ true → Sound a free
  pub complete : Sound a free → r ≡ true

-- the cursor c of d stands at none, past the end, or at a node that names d
abbrev pub StandsBy : ℕ → List ℕ → ℕ → Type 0
StandsBy c home d = (c ≡ no_slot) ⊎ (c ≡ past_end) ⊎ ((c < length home) × (get_or home c 0 ≡ d))

pub record StandsOk (c : ℕ) (home : List ℕ) (d : ℕ) (r : Bool) : Type 0 where
  pub sound : r ≡ true → StandsBy c home d
  pub complete : StandsBy c home d → r ≡ true
