-- `place::visits::bucket_at` meets its contract.
use Rattle.wheel_rules.proofs.place.Visiting.{next_bucket}
use Rattle.wheel_timers.proofs.place.visits.bucket_at.Goals as goal

pub returns : goal.returns
returns c =
    let a = c.args in
    next_bucket a.level a.p 0 c.level_shift-shift.result c.level_count-mask.result c.level_shift-shift.ensures
    c.level_count-mask.ensures a.step c.level_first.result c.level_first.ensures
