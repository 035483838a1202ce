-- `place::find` meets its contract: the levels below do not fit.
use Rattle.std.proofs.Common.{◌≤◌, ◌<◌, ◌-◌, ◌^◌}
use Rattle.wheel_rules.specs.place.Levels.{shift01}
use Rattle.wheel_timers.proofs.place.find.Given as goal

abbrev pub invariant-loop-level : goal.invariant-loop-level
invariant-loop-level l = 0 < l.level → 2 ^ shift01 l.level ≤ l.deadline - l.reading
