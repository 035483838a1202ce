-- A product's remainder.
use Rattle.std.proofs.Common.{◌≡◌, ℕ, ◌+◌, ◌*◌, ◌/◌, ◌%◌, sym, refl, ap, ◌∙◌, mul_assoc, mul_comm, mul_left_comm, add-mul, div-add-mod'}
use native.Mathlib.Nat.{mul-add-mod_self_right}

-- a factor may be cut to its remainder before the product is
pub factor_cut : (x s N : ℕ) → x % N * s % N ≡ x * s % N
factor_cut x s N =
    sym (mul-add-mod_self_right (x / N * s) N (x % N * s))
    ∙ ap (λ (n : ℕ). n % N)
    (ap (λ (n : ℕ). n + x % N * s) (simp (mul_assoc, mul_comm, mul_left_comm) refl)
    ∙ sym (add-mul (x / N * N) (x % N) s) ∙ ap (λ (n : ℕ). n * s) (div-add-mod' x N))
