-- inner: a word as sixteen counters of four bits.
use Rattle.std.specs.Prelude.{ℕ, ◌+◌, ◌/◌, ◌<◌, min, ◌≡◌}
use Rattle.sketch_rules.specs.Sketch.{counter, raised, halved}

-- what raising counter k gives: the word, and what that is counter by counter
pub record Raises (w k r : ℕ) : Type 0 where
  pub is : r ≡ raised w k
  pub risen : counter r k ≡ min (counter w k + 1) 15
  pub others : (j : ℕ) → (j ≡ k → ⊥) → counter r j ≡ counter w j

-- what halving gives: the word, and what that is counter by counter
pub record Halves (w r : ℕ) : Type 0 where
  pub is : r ≡ halved w
  pub half : (k : ℕ) → k < 16 → counter r k ≡ counter w k / 2
