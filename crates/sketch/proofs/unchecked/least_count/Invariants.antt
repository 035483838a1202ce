-- The least of the counters at the depths so far.
use Rattle.std.proofs.Common.{◌≡◌}
use Rattle.sketch_rules.proofs.Counting.{least_to}
use Rattle.sketch.proofs.unchecked.least_count.Given as goal

abbrev pub invariant-loop-depth : goal.invariant-loop-depth
invariant-loop-depth l = l.least ≡ least_to l.hash l.used l.depth l.table
