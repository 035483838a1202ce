-- `serials_differ` meets its contract: its loop keeps `Filed`.
use Rattle.wheel_rules.specs.sound.Filing.{Filed}
use Rattle.wheel_refusals.proofs.sound.serials.serials_differ.Given as goal

abbrev pub invariant-loop-x : goal.invariant-loop-x
invariant-loop-x l = Filed l.total l.bucket l.serial l.filing.latest l.filing.before l.x
