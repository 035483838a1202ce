-- `arm` leaves a sound wheel, of the same size.
use Rattle.bench.proofs.WheelKeeping.{armed_works, armed_lengths}
use Rattle.bench.proofs.wheels.records.Wheel.arm.Goals as goal

pub returns-clause-works : goal.returns-clause-works
returns-clause-works c = armed_works _ _ _ c.requires _ _ c.if-e-self.false _ c.set_entry.ensures.does _ _ c.arm-armed.ensures.does

pub returns-clause-size : goal.returns-clause-size
returns-clause-size c = armed_lengths _ _ _ c.requires _ _ c.if-e-self.false _ c.set_entry.ensures.does _ _ c.arm-armed.ensures.does
