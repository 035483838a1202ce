-- `pop` meets its contract.
use Rattle.wheel_rules.proofs.popping.Popping.{pop_slot, pop_move, pop_dated, pop_skips, pop_fires, pop_moves}
use Rattle.wheel_advance.proofs.pop.pop.Goals as goal

pub bounds-entries-e : goal.bounds-entries-e
bounds-entries-e c = pop_dated _ _ _ _ _ c.requires

pub disarm-freed-requires : goal.disarm-freed-requires
disarm-freed-requires c = pop_slot _ _ _ _ _ c.requires

pub returns-then-not-entries-e-clause-does : goal.returns-then-not-entries-e-clause-does
returns-then-not-entries-e-clause-does c = pop_skips _ _ _ _ _ c.requires _ _ c.if-not-entries-e.true c.disarm-freed.ensures.does

pub disarm-freed-requires-then-d-clock : goal.disarm-freed-requires-then-d-clock
disarm-freed-requires-then-d-clock c = pop_slot _ _ _ _ _ c.requires

pub returns-then-d-clock-clause-does : goal.returns-then-d-clock-clause-does
returns-then-d-clock-clause-does c = pop_fires _ _ _ _ _ c.requires _ _ c.if-not-entries-e.false c.if-d-clock.true c.disarm-freed-then-d-clock.ensures.does

pub rearm-requires : goal.rearm-requires
rearm-requires c = pop_move _ _ _ _ _ c.requires

pub returns-clause-does : goal.returns-clause-does
returns-clause-does c =
    rw c.rearm.ensures.payload
    (pop_moves _ _ _ _ _ c.requires _ _ c.if-not-entries-e.false c.if-d-clock.false c.find-to.ensures c.rearm.ensures.does)
