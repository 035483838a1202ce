use Rattle.std.proofs.Common.{arith}
use Rattle.sketch_rules.proofs.Rises.{one_at, sum_below_lem, up, full}
use Rattle.sketch.proofs.counters.raise.Goals as goal

pub overflow_add-result : goal.overflow_add-result
overflow_add-result c = grind (arith, one_at c.args.k c.requires, sum_below_lem 16 c.args.k c.args.w c.requires c.ranges.w.fits)

pub returns-then-count-lt15 : goal.returns-then-count-lt15
returns-then-count-lt15 c = rw (one_at c.args.k c.requires) (up _ _ (omega arith))

pub returns-else-count-lt15 : goal.returns-else-count-lt15
returns-else-count-lt15 c = full _ _ (omega arith)
