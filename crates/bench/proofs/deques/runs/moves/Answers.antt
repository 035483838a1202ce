-- `moves` keeps the records those of one deque that has every node.
use Rattle.std.proofs.Common.{ℕ, arith, length-take}
use Rattle.bench.proofs.DequeStanding.{full_asks}
use Rattle.bench.proofs.deques.runs.moves.Goals as goal

pub loop-init : goal.loop-init
loop-init c = full_asks _ _ c.args.n c.in-Some.ensures (omega (arith, length-take {A = ℕ})) (omega arith)
