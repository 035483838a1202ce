-- `is_met` meets its contract: its loop keeps `MetFrom`.
use Rattle.wheel_rules.proofs.sound.Filings.{met_on, met_yes}
use Rattle.wheel_refusals.proofs.sound.serials.is_met.Goals as goal

pub returns-then-serial-y : goal.returns-then-serial-y
returns-then-serial-y c = search met_yes

pub loop-y-preserved : goal.loop-y-preserved
loop-y-preserved c = search met_on
