-- `open_to` opens an advance on a sound wheel.
use Rattle.bench.proofs.WheelKeeping.{started_works}
use Rattle.bench.proofs.wheels.records.Wheel.open_to.Goals as goal

pub returns-clause-works : goal.returns-clause-works
returns-clause-works c = started_works _ _ _ c.requires _ _ c.start-self.ensures
