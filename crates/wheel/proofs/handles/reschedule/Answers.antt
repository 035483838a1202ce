-- `reschedule` meets its promise.
use Rattle.wheel_rules.proofs.calls.Calling.{refused_after, reschedule_moves, reschedule_no, reschedule_removes}
use Rattle.wheel_rules.proofs.calls.Acting.{move_ready, slot_ready}
use Rattle.std.proofs.Common.{rules, sym, subst}
use Rattle.wheel_rules.specs.Promise.{rescheduled_told}
use Rattle.wheel_rules.specs.refusals.Refuse.{RefusesHandle}
use Rattle.wheel_rules.specs.Lent.{records}
use Rattle.deque.specs.Slices.{links_now}
use Rattle.wheel_timers.specs.Slices.{entries_of}
use Rattle.wheel.proofs.handles.reschedule.Goals as goal

pub returns-in_err-handle_refusal-clause-does : goal.returns-in_err-handle_refusal-clause-does
returns-in_err-handle_refusal-clause-does c = rw (sym c.as_read.ensures.nodes) (refused_after _ _ _ _ _ (reschedule_no _ _ _ _ _ c.in_err-handle_refusal.ensures) rescheduled_told _ c.from_residual.ensures)

pub disarm-requires : goal.disarm-requires
disarm-requires c = rw (sym c.as_read.ensures.nodes) (slot_ready _ _ _ _ _ _ c.in_ok-handle_refusal.ensures)

pub returns-then-not-entries-e-clause-does : goal.returns-then-not-entries-e-clause-does
returns-then-not-entries-e-clause-does c = rw (sym c.as_read.ensures.nodes) (reschedule_removes _ _ _ _ _ _ c.in_ok-handle_refusal.ensures _ _ (search rules) (rw c.as_read.ensures.nodes c.disarm.ensures.does))

pub rearm-requires : goal.rearm-requires
rearm-requires c = move_ready _ _ _ _ _ _ (subst (λ N. RefusesHandle (records N (entries_of c.args.entries) c.args.clock) c.args.handle.slot c.args.handle.serial c.args.h 0) c.as_read.ensures.nodes c.in_ok-handle_refusal.ensures)

pub returns-clause-does : goal.returns-clause-does
returns-clause-does c = reschedule_moves _ _ _ _ _ _ (rw (sym c.as_read.ensures.nodes) c.in_ok-handle_refusal.ensures) _ (links_now c.rearm.new.self.linked) (search rules) c.rearm.ensures.does c.rearm.ensures.payload
