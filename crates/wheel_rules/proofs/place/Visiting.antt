-- How many buckets a level visits, and which comes next, as the code computes them.
use Prim.Native.Nat.{ℕ, ◌+◌, ◌-◌, ◌/◌, ◌%◌, ◌^◌, ◌≤◌, ◌<◌}
use native.Mathlib.Nat.{mod-lt, mod-add-mod, add-mod-mod}
use native.Mathlib.Omega.{arith}
use mathlib.Core.Path.{◌≡◌, sym, ap, ◌∙◌}
use lib.Pow.{pow_pos}
use lib.Bits.{bit_and, and_mask}
use borrow.Author.Tests.{lt-ltb, le-ltb}
use Rattle.rules.specs.Places.{wheel01, tick, visited_at, bucket_at}
use Rattle.wheel_rules.specs.place.Levels.{shift01, size01, first01}

-- s and n are the level's shift and count
module _ (l p q s n : ℕ) (is : s ≡ shift01 l) (many : n ≡ 2 ^ size01 l) where
  ticks : (t : ℕ) → t / 2 ^ s ≡ tick (shift01 l) t
  unfolding tick
  ticks t = ap (λ (k : ℕ). t / 2 ^ k) is

  pub visits_none : q / 2 ^ s ≤ p / 2 ^ s → 0 ≡ visited_at wheel01 p q l
  visits_none h = sym (simp (le-ltb (tick (shift01 l) p) (tick (shift01 l) q) (omega (arith, ticks p, ticks q))))

  pub visits_few : p / 2 ^ s < q / 2 ^ s → q / 2 ^ s - p / 2 ^ s < n → q / 2 ^ s - p / 2 ^ s + 1 ≡ visited_at wheel01 p q l
  visits_few h k =
      simp (lt-ltb (tick (shift01 l) p) (tick (shift01 l) q) (omega (arith, ticks p, ticks q))) (omega (arith, ticks p, ticks q, many))

  pub visits_all : p / 2 ^ s < q / 2 ^ s → n ≤ q / 2 ^ s - p / 2 ^ s → n ≡ visited_at wheel01 p q l
  visits_all h k =
      simp (lt-ltb (tick (shift01 l) p) (tick (shift01 l) q) (omega (arith, ticks p, ticks q))) (omega (arith, ticks p, ticks q, many))

  -- a number masked is below the count
  pub masked_below : (a : ℕ) → bit_and a (n - 1) < 2 ^ size01 l
  masked_below a =
      let e : bit_and a (n - 1) ≡ a % 2 ^ size01 l = ap (λ (m : ℕ). bit_and a (m - 1)) many ∙ and_mask a (size01 l) in
      omega (arith, mod-lt a (pow_pos (size01 l)))

  pub next_bucket : (j f : ℕ) → f ≡ first01 l → f + bit_and (bit_and (p / 2 ^ s) (n - 1) + bit_and j (n - 1)) (n - 1) ≡ bucket_at wheel01 p l j
  next_bucket j f first =
      let m : ℕ = 2 ^ size01 l in
      let a : (x : ℕ) → bit_and x (n - 1) ≡ x % m = λ x. ap (λ (k : ℕ). bit_and x (k - 1)) many ∙ and_mask x (size01 l) in
      let e : bit_and (bit_and (p / 2 ^ s) (n - 1) + bit_and j (n - 1)) (n - 1) ≡ (tick (shift01 l) p + j) % m =
      a (bit_and (p / 2 ^ s) (n - 1) + bit_and j (n - 1))
      ∙ ap (λ (x : ℕ). (x + bit_and j (n - 1)) % m) (a (p / 2 ^ s) ∙ ap (λ (x : ℕ). x % m) (ticks p))
      ∙ ap (λ (x : ℕ). (tick (shift01 l) p % m + x) % m) (a j)
      ∙ mod-add-mod (tick (shift01 l) p) m (j % m)
      ∙ add-mod-mod (tick (shift01 l) p) j m in
      ap (λ (x : ℕ). f + x) e ∙ ap (λ (x : ℕ). x + (tick (shift01 l) p + j) % m) first
