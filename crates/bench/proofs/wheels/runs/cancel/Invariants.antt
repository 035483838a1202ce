-- `cancel`: the wheel lies over the nodes that were given, from turn to turn.
use Rattle.bench.specs.Kept.{Lies}
use Rattle.bench.proofs.wheels.runs.cancel.Given as goal

abbrev pub invariant-loop : goal.invariant-loop
invariant-loop l = Lies l.nodes l.wheel
