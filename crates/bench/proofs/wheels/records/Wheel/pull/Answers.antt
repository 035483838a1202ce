-- `pull` leaves a sound wheel, of the same size and at the same reading.
use Rattle.bench.proofs.WheelKeeping.{pulled_works, pulled_lengths, pulled_reading}
use Rattle.bench.proofs.wheels.records.Wheel.pull.Goals as goal

pub returns-clause-works : goal.returns-clause-works
returns-clause-works c = pulled_works _ _ _ c.requires _ _ c.as_read.ensures.dated c.as_read.ensures.deadline _ _ _ c.pull-after.ensures.does

pub returns-clause-size : goal.returns-clause-size
returns-clause-size c = pulled_lengths _ _ _ c.requires _ _ c.as_read.ensures.dated c.as_read.ensures.deadline _ _ _ c.pull-after.ensures.does

pub returns-clause-reading : goal.returns-clause-reading
returns-clause-reading c = pulled_reading _ _ _ c.requires _ _ c.as_read.ensures.dated c.as_read.ensures.deadline _ _ _ c.pull-after.ensures.does
