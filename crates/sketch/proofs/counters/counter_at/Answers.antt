-- `counters::counter_at` meets its contract.
use Rattle.sketch_rules.proofs.Rises.{read_counter}
use Rattle.sketch.proofs.counters.counter_at.Goals as goal

pub returns : goal.returns
returns c = read_counter c.args.w c.args.k
