use Rattle.std.proofs.Common.{arith}
use Rattle.sketch_rules.proofs.Words.{halved_counter}
use Rattle.sketch_rules.proofs.Masks.{halved_mask}
use Rattle.sketch.proofs.counters.halve.Goals as goal

pub returns : goal.returns
returns c = grind (arith, halved_mask, halved_counter)
