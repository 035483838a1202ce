-- `enable_work` meets its promise.
use Rattle.std.proofs.Common.{ap}
use Rattle.face_rules.proofs.Enabling.{enable_refused, enable_done}
use Rattle.numbers.specs.Rows.{refusal_in}
use Rattle.face_works.proofs.making.enable_work.Goals as goal

pub returns-in-Ok-clause-does : goal.returns-in-Ok-clause-does
returns-in-Ok-clause-does c =
    enable_done _ _ _ _ _ _ c.around_refusal.ensures (ap refusal_in c.in-Ok.is) c.lay_out_around.ensures.does

pub returns-in-Err-clause-does : goal.returns-in-Err-clause-does
returns-in-Err-clause-does c = enable_refused _ _ _ _ _ _ c.around_refusal.ensures c.in-Err.why (ap refusal_in c.in-Err.is)
