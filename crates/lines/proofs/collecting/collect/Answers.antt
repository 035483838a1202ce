-- `lines::collecting::collect` meets its contract. The invariant is `Reached`.
use Rattle.std.proofs.Common.{arith}
use Rattle.lines.proofs.Blocks.{reached_first, reached_next, reached_end, reached_stop}
use Rattle.lines.proofs.collecting.collect.Goals as goal

pub loop-i-init : goal.loop-i-init
loop-i-init c = reached_first _ _ _ _

pub returns-then-b-eq-LINE_END : goal.returns-then-b-eq-LINE_END
returns-then-b-eq-LINE_END c = reached_end _ _ _ _ _ _ _ c.loop-i.invariant (omega arith) c.if-b-eq-LINE_END.true

pub loop-i-preserved : goal.loop-i-preserved
loop-i-preserved c =
    reached_next _ _ _ _ _ _ _ c.loop-i.invariant _ _ (omega arith) c.if-b-eq-LINE_END.false c.keep-n.ensures

pub returns : goal.returns
returns c = rw c.max.ensures (reached_stop _ _ _ _ _ _ _ c.loop-i.invariant c.loop-i-test.false c.loop-i.auto.i-end)
