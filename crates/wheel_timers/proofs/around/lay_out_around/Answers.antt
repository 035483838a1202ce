-- `lay_out_around` meets its contract.
use Rattle.wheel_rules.proofs.layout.Ends.{laid_around}
use Rattle.wheel_timers.proofs.around.lay_out_around.Goals as goal

pub returns-clause-does : goal.returns-clause-does
returns-clause-does c = search laid_around
