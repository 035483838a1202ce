-- `go_on`: the wheel lies over the nodes that were given, from turn to turn.
use Rattle.bench.specs.Kept.{Lies}
use Rattle.bench.proofs.wheels.runs.go_on.Given as goal

abbrev pub invariant-loop : goal.invariant-loop
invariant-loop g l = Lies l.nodes l.wheel
