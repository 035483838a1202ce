-- `deschedule` meets its promise.
use Rattle.wheel_rules.proofs.calls.Calling.{deschedule_no, deschedule_yes, refused_timed}
use Rattle.wheel_rules.proofs.calls.Acting.{slot_ready}
use Rattle.std.proofs.Common.{sym}
use Rattle.wheel.proofs.handles.deschedule.Goals as goal

pub returns-in_err-handle_refusal-clause-does : goal.returns-in_err-handle_refusal-clause-does
returns-in_err-handle_refusal-clause-does c = rw (sym c.as_read.ensures.nodes) (refused_timed _ _ _ _ _ (deschedule_no _ _ _ _ _ c.in_err-handle_refusal.ensures) _ c.from_residual.ensures)

pub disarm-requires : goal.disarm-requires
disarm-requires c = rw (sym c.as_read.ensures.nodes) (slot_ready _ _ _ _ _ _ c.in_ok-handle_refusal.ensures)

pub returns-clause-does : goal.returns-clause-does
returns-clause-does c = rw (sym c.as_read.ensures.nodes) (deschedule_yes _ _ _ _ _ _ c.in_ok-handle_refusal.ensures _ _ (rw c.as_read.ensures.nodes c.disarm.ensures.does))
