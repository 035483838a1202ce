-- `stored` meets its promise.
use Rattle.std.proofs.Common.{refl}
use Rattle.face_rules.proofs.Facing.{stored_crowded, stored_done}
use Rattle.face_works.proofs.writing.stored.Goals as goal

pub returns-then-n-gt4096 : goal.returns-then-n-gt4096
returns-then-n-gt4096 g c = stored_crowded _ (g.met.W.Writing.of_one c.args.call) c.if-n-gt4096.true c.crowded.ensures

pub returns : goal.returns
returns g c =
    stored_done c.if-n-gt4096.false refl c.on_fronts-told.ensures (c.after.ensures.says g.W.Writing.told)
    c.after.ensures.clock_is
