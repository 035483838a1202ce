-- `arm_listed`: the records show a sound wheel from turn to turn, of the same size.
use Rattle.bench.specs.Kept.{shown, Works, SameSize}
use Rattle.bench.proofs.wheels.records.Wheel.arm_listed.Given as goal

abbrev pub invariant-loop-i : goal.invariant-loop-i
invariant-loop-i g l = Works (shown l.self) × SameSize l.initial.self l.self
