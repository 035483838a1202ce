-- `move_to_back` meets its contract.
use Rattle.std.proofs.Common.{rules, ◌≡◌, Err}
use Rattle.deque_rules.proofs.alone.Calling.{move_no}
use Rattle.deque_alone.proofs.lending.DequesMut.move_to_back.Goals as goal

pub returns-in_err-node_refusal-clause-does : goal.returns-in_err-node_refusal-clause-does
returns-in_err-node_refusal-clause-does c =
    let e : c.from_residual.result ≡ Err c.in_err-node_refusal.field-0.0 = search rules in
    rw e (move_no _ _ _ _ _ (rw (c.as_read.ensures.state c.args.cursors.now) at c.in_err-node_refusal.ensures))
