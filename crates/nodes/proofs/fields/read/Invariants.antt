-- The part so far: the values of the first i nodes, and what was there before.
use Rattle.std.proofs.Common.{◌≡◌, ◌++◌, drop, map, take}
use Rattle.nodes.proofs.fields.read.Given as goal

abbrev pub invariant-loop-i : goal.invariant-loop-i
invariant-loop-i g l = l.part ≡ map g.value (take l.i l.block) ++ drop l.i l.fn.part
