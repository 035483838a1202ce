-- `lines::collecting::collect` meets its contract. The invariant is `Reached`.
use Rattle.lines.proofs.Blocks.{Reached}
use Rattle.lines.proofs.collecting.collect.Given as goal

abbrev pub invariant-loop-i : goal.invariant-loop-i
invariant-loop-i l = Reached l.block l.from l.initial.line l.kept l.line l.i l.n
