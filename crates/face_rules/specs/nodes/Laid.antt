-- inner: the lent nodes as enabling lays them out: "sentinels placed, other slots free".
use Rattle.std.specs.Prelude.{ℕ, suc, Bool, true, false, cond, List, map, ◌≡◌, ltb, length}
use Rattle.face_rules.specs.declared.Node.{Node}
use Rattle.numbers.specs.Shared.{no_slot, up_from}
use Rattle.rules.specs.Places.{wheel01, buckets}

-- the slot i of n, over D buckets: a sentinel in the bucket i; or free, before the one above it, where there is one
abbrev pub laid_node : ℕ → ℕ → ℕ → Node
laid_node D n i = record {
  next = cond (ltb i D) no_slot (cond (ltb (suc i) n) (suc i) no_slot);
  prev = no_slot;
  bucket = cond (ltb i D) i no_slot;
  entry = 0;
  generation = 0;
  serial = 0;
}

-- n nodes, laid out over D buckets
abbrev pub laid_nodes : ℕ → ℕ → List Node
laid_nodes D n = map (laid_node D n) (up_from n 0)

-- the nodes ns became ns': laid out, as many as they are, or left
pub record Laid (ns : List Node) (on : Bool) (ns' : List Node) : Type 0 where
  pub lays : on ≡ true → ns' ≡ laid_nodes (buckets wheel01) (length ns)
  pub stays : on ≡ false → ns' ≡ ns
