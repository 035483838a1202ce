-- `schedule` meets its promise.
use Rattle.wheel_rules.proofs.calls.Calling.{schedule_no, schedule_yes}
use Rattle.wheel_rules.proofs.calls.Acting.{arm_ready}
use Rattle.std.proofs.Common.{rules, sym}
use Rattle.wheel.proofs.arming.schedule.Goals as goal

pub returns-in_err-schedule_refusal-clause-does : goal.returns-in_err-schedule_refusal-clause-does
returns-in_err-schedule_refusal-clause-does c = rw (sym c.as_read.ensures.nodes) (search (rules, schedule_no))

pub arm-requires : goal.arm-requires
arm-requires c = rw (sym c.as_read.ensures.nodes) (arm_ready _ _ _ _ _ c.in_ok-schedule_refusal.ensures)

pub returns-clause-does : goal.returns-clause-does
returns-clause-does c = rw (sym c.as_read.ensures.nodes) (search (rules, schedule_yes))
