-- inner: what an increase does to the size count and, at the sample size, to the whole table: 01, "The sketch".
use Rattle.std.specs.Prelude.{ℕ, ◌<◌, List, ◌≡◌}
use Rattle.sketch_rules.specs.Hashes.{InUse}
use Rattle.sketch_rules.specs.Sketch.{rose, is_full, settled_table, settled_sketch, raised_table, raised_size}
use Rattle.sketch_rules.specs.declared.Counted.{Counted}
use Rattle.sketch_rules.specs.declared.Sketch.{Sketch}

-- a sketch in use whose size count has not come to the sample size
pub record Ready (t : List ℕ) (s : Sketch) : Type 0 where
  pub table : InUse s.used t
  pub size : s.size < s.sample

-- the table is aged if the size count has come to the sample size, and the answer says so
pub record Settles (s : Sketch) (size risen : ℕ) (t : List ℕ) (r : Counted) (after : List ℕ) : Type 0 where
  pub rose : r.rose ≡ risen
  pub aged : r.aged ≡ is_full s size
  pub sketch : r.sketch ≡ settled_sketch s size t
  pub table : after ≡ settled_table s size t

-- an increase of a sketch in use, which says how many counters rose too
pub record Raises (t : List ℕ) (s : Sketch) (hash : ℕ) (r : Counted) (after : List ℕ) : Type 0 where
  pub settles : Settles s (raised_size t s hash) (rose hash s.used 4 t) (raised_table t s hash) r after
