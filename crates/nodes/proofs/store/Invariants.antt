-- The nodes so far: the first i are written.
use Rattle.std.proofs.Common.{◌≡◌}
use Rattle.face_rules.proofs.nodes.Using.{stored_nodes}
use Rattle.face_rules.specs.nodes.Columns.{columns}
use Rattle.nodes.proofs.store.Given as goal

abbrev pub invariant-loop-i : goal.invariant-loop-i
invariant-loop-i l = l.nodes ≡ stored_nodes l.fn.nodes (columns l.next l.prev l.bucket l.entry l.generation l.serial) l.i
