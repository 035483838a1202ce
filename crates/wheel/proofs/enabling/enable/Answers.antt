-- `enable` meets its promise.
use Rattle.wheel_rules.proofs.calls.Calling.{enable_no, enable_yes, refused_timed}
use Rattle.std.proofs.Common.{sym}
use Rattle.wheel.proofs.enabling.enable.Goals as goal

pub returns-in_err-enable_refusal-clause-does : goal.returns-in_err-enable_refusal-clause-does
returns-in_err-enable_refusal-clause-does c =
    refused_timed _ _ _ _ c.in_err-enable_refusal.field-0.0 (enable_no _ _ (rw (sym c.as_read.ensures.nodes, sym c.as_read-2.ensures.entries) c.in_err-enable_refusal.ensures)) _ c.from_residual.ensures

pub returns-clause-does : goal.returns-clause-does
returns-clause-does c = enable_yes _ _ _ _ _ _ (rw (sym c.as_read.ensures.nodes, sym c.as_read-2.ensures.entries) c.in_ok-enable_refusal.ensures) c.lay_out.ensures.does
