-- `disarm` leaves a sound wheel, of the same size.
use Rattle.bench.proofs.WheelKeeping.{disarmed_works, disarmed_lengths}
use Rattle.bench.proofs.wheels.records.Wheel.disarm.Goals as goal

pub returns-clause-works : goal.returns-clause-works
returns-clause-works c = disarmed_works _ _ _ c.requires _ c.if-x-lt-BUCKETS.false c.if-x-self.false c.if-self-x-ge-BUCKETS.false _ _
    c.disarm-self.ensures.does

pub returns-clause-size : goal.returns-clause-size
returns-clause-size c = disarmed_lengths _ _ _ c.requires _ c.if-x-lt-BUCKETS.false c.if-x-self.false c.if-self-x-ge-BUCKETS.false _ _
    c.disarm-self.ensures.does
