-- What the columns are once the lent nodes are read into them, block by block, and the nodes once they are written from
-- columns.
use Prim.Native.Nat.{ℕ, ◌≤◌}
use mathlib.Core.Path.{◌≡◌, refl}
use mathlib.Core.List.{List, map}
use native.Mathlib.Omega.{arith}
use lib.ListN.{length, get_or, take}
use Rattle.face_rules.specs.declared.Node.{Node}
use Rattle.face_rules.specs.nodes.Columns.{Columns, columns, columns_of, front, Holds}
use Rattle.face_rules.proofs.nodes.Fills.{fills, fills_field}

-- a node of zeros, which stands past the end of a list
abbrev pub blank : Node
blank = record { next = 0; prev = 0; bucket = 0; entry = 0; generation = 0; serial = 0 }

-- ---- the node that stands at place i of the columns, written one by one over the nodes
abbrev pub node_at : Columns → ℕ → Node
node_at c i = record {
  next = get_or c.next i 0;
  prev = get_or c.prev i 0;
  bucket = get_or c.bucket i 0;
  entry = get_or c.entry i 0;
  generation = get_or c.generation i 0;
  serial = get_or c.serial i 0;
}

abbrev pub stored_nodes : List Node → Columns → ℕ → List Node
stored_nodes ns c = fills (node_at c) ns

module _ (ns : List Node) (c : Columns) (few : length ns ≤ 4096) where
  stored_field : (g : Node → ℕ) (xs : List ℕ) → ((i : ℕ) → g (node_at c i) ≡ get_or xs i 0) → 4096 ≤ length xs →
      map g (stored_nodes ns c (length ns)) ≡ take (length ns) xs
  stored_field g xs same long = fills_field g (node_at c) 0 xs ns same (omega (arith, long, few))

  pub stored : Holds 4096 c → columns_of (stored_nodes ns c (length ns)) ≡ front (length ns) c
  stored long =
      λ i.
      columns (stored_field (λ v. v.next) c.next (λ _. refl) long.next_has i)
      (stored_field (λ v. v.prev) c.prev (λ _. refl) long.prev_has i)
      (stored_field (λ v. v.bucket) c.bucket (λ _. refl) long.bucket_has i)
      (stored_field (λ v. v.entry) c.entry (λ _. refl) long.entry_has i)
      (stored_field (λ v. v.generation) c.generation (λ _. refl) long.generation_has i)
      (stored_field (λ v. v.serial) c.serial (λ _. refl) long.serial_has i)
