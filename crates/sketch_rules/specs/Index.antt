-- inner: where a hash goes in a table of words: 01, "The sketch", the first half of its second paragraph.
use Rattle.std.specs.Prelude.{ℕ, ◌<◌, ◌≡◌}
use Rattle.sketch_rules.specs.Sketch.{word_at}

-- that word, which lies in the table
pub record Places (hash i n r : ℕ) : Type 0 where
  pub is : r ≡ word_at hash i n
  pub inside : r < n
