-- `pull` meets its promise.
use Rattle.wheel_rules.proofs.calls.Calling.{pull_no, pull_yes, refused_after}
use Rattle.wheel_rules.proofs.calls.Acting.{turn_ready}
use Rattle.std.proofs.Common.{sym}
use Rattle.wheel_rules.specs.Promise.{told}
use Rattle.wheel.proofs.pulling.pull.Goals as goal

pub returns-in_err-open_refusal-clause-does : goal.returns-in_err-open_refusal-clause-does
returns-in_err-open_refusal-clause-does c = rw (sym c.as_read.ensures.nodes) (refused_after _ _ _ _ _ (pull_no _ _ c.in_err-open_refusal.ensures) told _ c.from_residual.ensures)

pub pull-requires : goal.pull-requires
pull-requires c = rw (sym c.as_read.ensures.nodes) (turn_ready _ _ _ c.in_ok-open_refusal.ensures)

pub returns-clause-does : goal.returns-clause-does
returns-clause-does c = rw (sym c.as_read.ensures.nodes) (pull_yes _ _ _ _ _ c.in_ok-open_refusal.ensures (rw c.as_read.ensures.nodes c.pull.ensures.does))
