-- `go_on` meets its contract.
use mathlib.Core.Path.{refl}
use Rattle.wheel_rules.proofs.turns.Going.{on_ends, on_goes, enter_asks}
use Rattle.wheel_advance.proofs.turns.go_on.Goals as goal

pub returns-in_default-clause-does : goal.returns-in_default-clause-does
returns-in_default-clause-does c = on_ends _ _ c.requires _ c.in_default.ensures _ refl c.end-closed.ensures

pub turn-requires : goal.turn-requires
turn-requires c = enter_asks _ _ c.requires _ c.in-Some.ensures refl _ c.bucket_at-b.ensures

pub returns-clause-does : goal.returns-clause-does
returns-clause-does c = on_goes _ _ c.requires _ c.in-Some.ensures refl _ c.bucket_at-b.ensures _ c.turn.ensures.does
