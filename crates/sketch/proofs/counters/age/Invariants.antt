-- The first words are halved, and their odd counters are counted.
use Rattle.std.proofs.Common.{◌≡◌}
use Rattle.sketch_rules.specs.Sketch.{halved_to, odds_to}
use Rattle.sketch.proofs.counters.age.Given as goal

abbrev pub invariant-loop-w : goal.invariant-loop-w
invariant-loop-w l = record {
  halved : l.w-items ≡ halved_to l.w-index l.initial.w-items;
  counted : l.odd ≡ odds_to l.w-index l.initial.w-items;
}
