-- The slots so far: `good` says whether each of those below x is a sentinel, armed or free.
use Rattle.wheel_rules.specs.Lent.{Decides}
use Rattle.wheel_refusals.proofs.SlotKinds.{KindsTo}
use Rattle.wheel_refusals.proofs.sound.slots.kinds.Given as goal

abbrev pub invariant-loop-x : goal.invariant-loop-x
invariant-loop-x l = Decides (KindsTo l.total l.bucket l.x) l.good
