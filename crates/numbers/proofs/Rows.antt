-- Rows of refusals give one number.
use Rattle.std.proofs.Common.{◌≡◌, ℕ, sym, ◌∙◌, inl, inr}
use Rattle.numbers.specs.Shared.{unless, not_refused as answered}

abbrev pub Single : (ℕ → Type 0) → Type 0
Single rows = (j k : ℕ) → rows j → rows k → j ≡ k

pub none_left : Single answered
none_left j k p q = p ∙ sym q

pub row : (A : Type 0) (n : ℕ) (more : ℕ → Type 0) → Single more → Single (unless A n more)
row A n more s j k (inl p) (inl q) = p.1 ∙ sym q.1
row A n more s j k (inl p) (inr q) = absurd (p.0 q.0)
row A n more s j k (inr p) (inl q) = absurd (q.0 p.0)
row A n more s j k (inr p) (inr q) = s j k p.1 q.1
