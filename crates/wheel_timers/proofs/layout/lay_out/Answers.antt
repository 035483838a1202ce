-- `lay_out` meets its contract.
use mathlib.Core.Path.{sym, ap, ◌∙◌}
use lib.ListN.{replicate}
use Prim.Native.Nat.{ℕ}
use Rattle.wheel_rules.proofs.layout.Seating.{laid}
use Rattle.wheel_timers.proofs.layout.lay_out.Goals as goal

pub returns-clause-does : goal.returns-clause-does
returns-clause-does c =
    let r = c.requires in
    laid _ _ _ _ _ _ _ _ _ _ _ _ _ _ _ _ _ _ _ _ _ _ _ _ r c.enabled-after.ensures c.seat.ensures.does
    (record {
      entry_is = c.fill.ensures.after (λ y e. e);
      generation_is = c.fill-2.ensures.after (λ y e. e) ∙ ap (λ (n : ℕ). replicate n 0) (r.generation_len ∙ sym r.entry_len);
      serial_is = c.fill-3.ensures.after (λ y e. e) ∙ ap (λ (n : ℕ). replicate n 0) (r.serial_len ∙ sym r.entry_len);
    })
    c.clear.ensures.does
