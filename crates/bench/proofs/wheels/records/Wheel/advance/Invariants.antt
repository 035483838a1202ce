-- `advance`: the records show a sound wheel from turn to turn, of the same size, at the reading of the advance.
use Rattle.std.specs.Prelude.{◌≡◌}
use Rattle.bench.specs.Kept.{shown, Works, SameSize}
use Rattle.bench.proofs.wheels.records.Wheel.advance.Given as goal

abbrev pub invariant-loop : goal.invariant-loop
invariant-loop l = Works (shown l.self) × SameSize l.initial.self l.self × (l.self.clock.reading ≡ l.q)
