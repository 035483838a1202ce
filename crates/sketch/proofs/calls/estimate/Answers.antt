use Rattle.sketch_rules.proofs.Promises.{in_use}
use Rattle.sketch.proofs.calls.estimate.Goals as goal

pub least_count-requires : goal.least_count-requires
least_count-requires c = in_use _ _ c.in_ok-standing.ensures c.if-sketch-eq0.false
