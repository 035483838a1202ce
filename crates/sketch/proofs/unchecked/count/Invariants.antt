-- The depths so far are counted.
use Rattle.std.proofs.Common.{◌≡◌}
use Rattle.sketch_rules.specs.Sketch.{counted, rose}
use Rattle.sketch.proofs.unchecked.count.Given as goal

abbrev pub invariant-loop-depth : goal.invariant-loop-depth
invariant-loop-depth l = record {
  table : l.table ≡ counted l.hash l.used l.depth l.initial.table;
  rose : l.rose ≡ rose l.hash l.used l.depth l.initial.table;
}
