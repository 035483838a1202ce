use Rattle.std.proofs.Common.{refl, arith}
use Rattle.sketch_rules.specs.Sketch.{counted, rose}
use Rattle.sketch_rules.proofs.Counting.{rises_le, rose_le, turn_table, turn_rose}
use Rattle.sketch.proofs.unchecked.count.Goals as goal

pub loop-depth-init : goal.loop-depth-init
unfolding counted rose
loop-depth-init c = record { table = refl; rose = refl }

pub overflow_add-rose : goal.overflow_add-rose
overflow_add-rose c = grind (arith, rises_le, rose_le)

pub loop-depth-preserved : goal.loop-depth-preserved
loop-depth-preserved c = record { table = search turn_table; rose = search turn_rose }
