-- Two numbers: less or not, the same or not.
use Rattle.std.proofs.Common.{◌≡◌, ℕ, suc, ◌<◌, ◌≤◌, true, false, ◌⊎◌, inl, inr, arith}
use native.Mathlib.Decide.{ℕ_discrete, dec_le}

pub below? : (x y : ℕ) → (x < y) ⊎ (y ≤ x)
below? x y = go (dec_le (suc x) y)
  where
    go : Dec (x < y) → (x < y) ⊎ (y ≤ x)
    go (yes p) = inl p
    go (no n) = inr (omega arith)

pub same? : (x y : ℕ) → (x ≡ y) ⊎ (x ≡ y → ⊥)
same? x y = go (ℕ_discrete x y)
  where
    go : Dec (x ≡ y) → (x ≡ y) ⊎ (x ≡ y → ⊥)
    go (yes p) = inl p
    go (no n) = inr n

pub not_both : false ≡ true → ⊥
not_both i = let z : ◌≡◌ {A = ℕ} 0 1 = cc in omega arith
