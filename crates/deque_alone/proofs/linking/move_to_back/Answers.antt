-- `move_to_back` meets its contract.
use Rattle.std.proofs.Common.{rules, ◌≡◌, Err}
use Rattle.deque_rules.proofs.alone.Calling.{move_no}
use Rattle.deque_alone.proofs.linking.move_to_back.Goals as goal

pub returns-in_err-refuse_move-clause-does : goal.returns-in_err-refuse_move-clause-does
returns-in_err-refuse_move-clause-does c =
    let e : c.from_residual.result ≡ Err c.in_err-refuse_move.field-0.0 = search rules in
    rw e (move_no _ _ _ _ _ (rw c.as_read.ensures.links at c.in_err-refuse_move.ensures))
