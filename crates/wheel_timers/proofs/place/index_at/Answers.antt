-- `place::index_at` meets its contract: the mask takes the tick modulo the bucket count, a power of two.
use Rattle.wheel_rules.proofs.place.Tables.{masked}
use Rattle.wheel_timers.proofs.place.index_at.Goals as goal

pub returns : goal.returns
returns c =
    rw (c.level_shift-shift.ensures, c.level_count-count.ensures) (masked c.args.level c.args.time)
