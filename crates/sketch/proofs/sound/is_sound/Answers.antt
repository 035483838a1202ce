use Rattle.std.proofs.Common.{arith}
use Rattle.sketch_rules.proofs.Soundness.{blank_size, blank_sample, not_inside, not_power, not_tenfold, too_low, too_high, by_size}
use Rattle.sketch.proofs.sound.is_sound.Goals as goal

pub returns-then-sample-eq0 : goal.returns-then-sample-eq0
returns-then-sample-eq0 c = search blank_size

pub returns-else-sample-eq0 : goal.returns-else-sample-eq0
returns-else-sample-eq0 c = search blank_sample

pub returns-then-lent-used : goal.returns-then-lent-used
returns-then-lent-used c = search not_inside

pub returns-then-not-is_power : goal.returns-then-not-is_power
returns-then-not-is_power c = grind (arith, not_power)

pub returns-then-sample-ne0 : goal.returns-then-sample-ne0
returns-then-sample-ne0 c = grind (arith, not_tenfold)

pub returns-then-capacity-used : goal.returns-then-capacity-used
returns-then-capacity-used c = grind (arith, too_low)

pub returns-then-capacity-used-2 : goal.returns-then-capacity-used-2
returns-then-capacity-used-2 c = grind (arith, too_high)

pub returns : goal.returns
returns c = grind (arith, by_size)
