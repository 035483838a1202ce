-- The nodes so far: the first i are laid out.
use Rattle.std.proofs.Common.{◌≡◌}
use Rattle.face_rules.proofs.nodes.InPlace.{laid_to}
use Rattle.nodes.proofs.laying.lay.Given as goal

abbrev pub invariant-loop-i : goal.invariant-loop-i
invariant-loop-i l = l.nodes ≡ laid_to l.fn.nodes l.i
