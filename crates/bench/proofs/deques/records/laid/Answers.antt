-- `laid` gives records that are ready.
use Rattle.std.proofs.Common.{refl}
use Rattle.bench.proofs.DequeStanding.{tested}
use Rattle.bench.proofs.deques.records.laid.Goals as goal

pub returns-then-sound : goal.returns-then-sound
returns-then-sound c = tested _ _ (rw (c.as_read.ensures, c.if-sound.true) at c.sound.ensures) refl
