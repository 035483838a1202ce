-- The word of a hash: as the code computes it, that it lies in the table, and when the host's function gives one.
use mathlib.Core.Path.{◌≡◌, sym, ap, ◌∙◌, subst}
use mathlib.Core.Bool.{Bool, true, false, cond, ◌&&◌}
use Prim.Native.Nat.{ℕ, ◌+◌, ◌-◌, ◌*◌, ◌/◌, ◌%◌, ◌^◌, ◌<◌}
use native.Mathlib.Nat.{mod-lt}
use native.Mathlib.Omega.{arith}
use lib.Dec.{ltb}
use lib.Bits.{bit_and}
use borrow.Author.Tests.{le-ltb, lt-ltb}
use Rattle.numbers.specs.Shared.{is_power_to}
use Rattle.numbers.proofs.Products.{factor_cut}
use Rattle.numbers.proofs.Powers.{power_least, power_most, mask_cut}
use Rattle.numbers.proofs.Replies.{is_false, and_right}
use Rattle.sketch_rules.specs.Index.{Places}
use Rattle.sketch_rules.specs.Sketch.{seed, product, folded, word_at, word_index}

pub word_below : (hash i n : ℕ) → 0 < n → word_at hash i n < n
unfolding word_at
word_below hash i n h = mod-lt (folded (product hash (seed i))) h

-- the code adds modulo 2 ^ 64 before it multiplies, and takes the remainder by a mask
pub placed : (hash i n s a x y : ℕ) → s ≡ seed i → a ≡ (hash + s) % 2 ^ 64 → x ≡ a * s % 2 ^ 64 → y ≡ (x + x / 2 ^ 32) % 2 ^ 64
    → is_power_to 16 n ≡ true → Places hash i n (bit_and y (n - 1))
unfolding word_at product folded
placed hash i n s a x y e p q f h =
    let back : n - 1 + 1 ≡ n = omega (arith, power_least 16 n h) in
    let cut : bit_and y (n - 1) ≡ y % n = mask_cut 16 y (n - 1) (ap (is_power_to 16) back ∙ h) ∙ ap (λ (m : ℕ). y % m) back in
    let known : x ≡ product hash (seed i) =
    q ∙ ap (λ (m : ℕ). m * s % 2 ^ 64) p ∙ factor_cut (hash + s) s (2 ^ 64) ∙ ap (product hash) e in
    let is : bit_and y (n - 1) ≡ word_at hash i n = cut ∙ ap (λ (m : ℕ). m % n) (f ∙ ap folded known) in
    record { is = is; inside = subst (λ (m : ℕ). m < n) (sym is) (word_below hash i n (power_least 16 n h)) }

-- ---- the host's function

pub no_depth : (hash depth mask : ℕ) → 3 < depth → 65536 ≡ word_index hash depth mask
unfolding word_index
no_depth hash depth mask h = simp (le-ltb depth 4 h)

pub no_table : (hash depth mask : ℕ) → depth < 4 → is_power_to 16 (mask + 1) ≡ false → 65536 ≡ word_index hash depth mask
unfolding word_index
no_table hash depth mask h e = simp (lt-ltb depth 4 h, e)

pub too_long : (mask : ℕ) → 65535 < mask → is_power_to 16 (mask + 1) ≡ false
too_long mask h = is_false _ (λ t. omega (arith, power_most 16 (mask + 1) t))

pub given : (hash depth mask : ℕ) → depth < 4 → is_power_to 16 (mask + 1) ≡ true → word_at hash depth (mask + 1) ≡ word_index hash depth mask
unfolding word_index
given hash depth mask h e = simp (lt-ltb depth 4 h, e)

-- 65,536 is given just where there is no such depth or no such table: a word that is given lies below it
pub given_below : (hash depth mask : ℕ) → (ltb depth 4 && is_power_to 16 (mask + 1)) ≡ true → word_index hash depth mask < 65536
unfolding word_index
given_below hash depth mask h =
    let t : is_power_to 16 (mask + 1) ≡ true = and_right (ltb depth 4) (is_power_to 16 (mask + 1)) h in
    let l : word_at hash depth (mask + 1) < 65536 = omega (arith, word_below hash depth (mask + 1) (power_least 16 (mask + 1) t), power_most 16 (mask + 1) t) in
    subst (λ (b : Bool). cond b (word_at hash depth (mask + 1)) 65536 < 65536) (sym h) l

pub refused_else : (hash depth mask : ℕ) → (ltb depth 4 && is_power_to 16 (mask + 1)) ≡ false → word_index hash depth mask ≡ 65536
unfolding word_index
refused_else hash depth mask h = ap (λ (b : Bool). cond b (word_at hash depth (mask + 1)) 65536) h
