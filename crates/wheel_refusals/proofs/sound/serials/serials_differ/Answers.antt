-- `serials_differ` meets its contract: at first nothing is filed.
use Rattle.wheel_rules.proofs.sound.Filings.{file_start}
use Rattle.wheel_refusals.proofs.sound.serials.serials_differ.Goals as goal

pub loop-x-init : goal.loop-x-init
loop-x-init c = file_start _ _ _
