-- `file` meets its contract, where the slot is the first with its serial.
use Rattle.wheel_rules.proofs.sound.Filings.{file_new}
use Rattle.wheel_refusals.proofs.sound.serials.file.Goals as goal

pub returns : goal.returns
returns c = search file_new
