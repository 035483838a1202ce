-- `take_turn` meets its contract.
use Rattle.rules.specs.Places.{wheel01}
use Rattle.wheel_rules.specs.turns.Turns.{Waits}
use Rattle.wheel_rules.proofs.turns.Taking.{pop_turned, on_turned}
use Rattle.wheel_advance.proofs.turns.take_turn.Goals as goal

pub returns-then-x-nodes-clause-does : goal.returns-then-x-nodes-clause-does
returns-then-x-nodes-clause-does c =
    let waits : Waits wheel01 c.args.nodes.now.linked.heads.now c.args.clock c.waiting-x.result = rw (← c.as_read.ensures.heads) c.waiting-x.ensures in
    pop_turned _ _ _ _ _ _ _ _ _ _ _ c.requires _ waits _ _ c.if-x-nodes.true c.pop.ensures.does

pub returns-clause-does : goal.returns-clause-does
returns-clause-does c =
    let waits : Waits wheel01 c.args.nodes.now.linked.heads.now c.args.clock c.waiting-x.result = rw (← c.as_read.ensures.heads) c.waiting-x.ensures in
    on_turned _ _ _ _ _ _ _ _ _ _ _ c.requires _ waits _ _ _ _ _ _ c.if-x-nodes.false c.go_on.ensures.does
