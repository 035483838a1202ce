-- inner: the four counters of a hash in a table of n words: the least of them, and all four raised.
use Rattle.std.specs.Prelude.{ℕ, zero, suc, ◌≤◌, ◌<◌, Bool, true, false, ◌&&◌, ◌||◌, List, ◌≡◌, eqb, length}
use Rattle.numbers.specs.Shared.{is_power_to}
use Rattle.sketch_rules.specs.Sketch.{word_at, counter_of, counted, rose}

-- the first n words of a lent table are in use: "used length .. a power of two to 65,536", not "beyond the lent table"
pub record InUse (n : ℕ) (t : List ℕ) : Type 0 where
  pub power : is_power_to 16 n ≡ true
  pub some : 0 < n
  pub most : n ≤ 65536
  pub inside : n ≤ length t

-- what counting a hash at its four depths gives
pub record Counts (hash n : ℕ) (t : List ℕ) (r : ℕ) (after : List ℕ) : Type 0 where
  pub rises : r ≡ rose hash n 4 t
  pub table : after ≡ counted hash n 4 t

-- whether counter k of word j is the hash's own at one of the first i depths
unfoldable pub is_counted_at : ℕ → ℕ → ℕ → ℕ → ℕ → Bool
is_counted_at hash n zero j k = false
is_counted_at hash n (suc i) j k = (eqb j (word_at hash i n) && eqb k (counter_of hash i)) || is_counted_at hash n i j k
