use Rattle.std.proofs.Common.{arith}
use Rattle.sketch_rules.proofs.Places.{no_depth, no_table, too_long, given}
use Rattle.sketch.proofs.index.word_index.Goals as goal

pub returns-then-is_power : goal.returns-then-is_power
returns-then-is_power c = grind (arith, given)

pub returns-else-depth-lt4 : goal.returns-else-depth-lt4
returns-else-depth-lt4 c = grind (arith, no_depth, no_table, too_long)
