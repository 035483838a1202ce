-- An array of which the first n places are lent to a call: they lie in it, and it is as long afterwards.
use Prim.Native.Nat.{ℕ, ◌≤◌}
use mathlib.Core.Path.{◌≡◌, sym, ◌∙◌}
use mathlib.Core.List.{List, ◌++◌}
use native.Mathlib.Omega.{arith}
use lib.ListN.{length, take, drop}
use lib.Seq.{length-take-le, length_front, take_at}

module _ {A : Type 0} (xs : List A) (k n : ℕ) (h : n ≤ k) (long : length xs ≡ k) where
  -- the part that is lent lies in the array, and has n places
  pub lent_fits : n ≤ length xs
  lent_fits = omega (arith, long, h)

  pub lent_count : n ≡ length (take n xs)
  lent_count = sym (length-take-le n xs lent_fits)

-- where the call leaves ys of it, the array is as long as it was
pub lent_long : {A : Type 0} (xs ys : List A) (n k : ℕ) → length ys ≡ length (take n xs) → length xs ≡ k → length (ys ++ drop n xs) ≡ k
lent_long xs ys n k kept long = length_front xs ys n kept ∙ long

-- and its first n places are ys
pub lent_back : {A : Type 0} (xs ys : List A) (n : ℕ) → length ys ≡ length (take n xs) → n ≤ length xs → take n (ys ++ drop n xs) ≡ ys
lent_back xs ys n kept h = take_at ys (drop n xs) n (kept ∙ length-take-le n xs h)
