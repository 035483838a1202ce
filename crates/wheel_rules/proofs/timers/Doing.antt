-- Disarming and rearming: their contracts, of what they write alone.
use Prim.Native.Nat.{ℕ}
use mathlib.Core.Path.{refl}
use Rattle.deque_rules.specs.Links.{Links, removed, move_back}
use Rattle.deque_rules.proofs.Laws.{removes, moves}
use Rattle.rules.specs.Places.{wheel01, bucket_of}
use Rattle.wheel_rules.specs.place.Promises.{InBucket}
use Rattle.wheel_rules.specs.declared.calls.Clock.{Clock}
use Rattle.wheel_rules.specs.Lent.{Nodes}
use Rattle.wheel_rules.specs.records.Clocks.{set_free}
use Rattle.wheel_rules.specs.timers.Change.{written, freed_from}
use Rattle.wheel_rules.specs.timers.Timers.{SlotReady, MoveReady, Disarms, Rearms}
use Rattle.wheel_rules.proofs.timers.Timing.{disarm_asks, disarm_does, rearm_asks, rearm_does}

-- a slot unlinked and freed
pub disarms : (N : Nodes) (c : Clock) (x : ℕ) → SlotReady wheel01 N c x → Disarms wheel01 N c (freed_from x c.free N) (set_free x c) x
disarms N c x y =
    let a : Links = N.links in
    let b : Links = removed a c.free x in
    let M : Nodes = written x 0 0 0 N in
    disarm_does a.heads a.tails a.next a.prev a.home N.entry N.generation N.serial c x y
    b.heads b.tails b.next b.prev b.home M.entry M.generation M.serial
    (removes a c.free x (disarm_asks a.heads a.tails a.next a.prev a.home N.entry N.generation N.serial c x y))
    (record { entry_is = refl; generation_is = refl; serial_is = refl })

-- a slot placed by a deadline
pub rearms : (a : Links) (r x d : ℕ) → MoveReady wheel01 a r x → Rearms wheel01 a (move_back a (bucket_of wheel01 r d) x) r x d
rearms a r x d y =
    let b : ℕ = bucket_of wheel01 r d in
    let i : InBucket r d b = record { is = refl } in
    rearm_does a r x y d b i (move_back a b x) (moves a b x (rearm_asks a r x y d b i))
