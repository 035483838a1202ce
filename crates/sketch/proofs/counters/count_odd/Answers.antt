-- `counters::count_odd` meets its contract.
use Rattle.sketch_rules.proofs.Masks.{odds_mask}
use Rattle.sketch.proofs.counters.count_odd.Goals as goal

pub returns : goal.returns
returns c = odds_mask c.args.w
