-- `is_met` meets its contract: its loop keeps `MetFrom`.
use Rattle.wheel_rules.proofs.sound.Filings.{MetFrom}
use Rattle.wheel_refusals.proofs.sound.serials.is_met.Given as goal

abbrev pub invariant-loop-y : goal.invariant-loop-y
invariant-loop-y l = MetFrom l.before l.serial l.latest l.wanted l.y

abbrev pub decreases-loop-y : goal.decreases-loop-y
decreases-loop-y l = l.y
