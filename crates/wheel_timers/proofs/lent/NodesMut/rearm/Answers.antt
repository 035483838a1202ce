-- `rearm` meets its contract.
use Rattle.wheel_rules.proofs.timers.Timing.{rearm_does}
use Rattle.wheel_timers.proofs.lent.NodesMut.rearm.Goals as goal

pub returns-clause-does : goal.returns-clause-does
returns-clause-does c = search rearm_does
