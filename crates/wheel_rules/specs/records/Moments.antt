-- inner: start, end and abandon: they change the clock alone.
use Rattle.std.specs.Prelude.{ℕ, true, ◌≡◌}
use Rattle.rules.specs.Calls.{with_clock, act}
use Rattle.rules.specs.Places.{Geometry}
use Rattle.rules.specs.Wheel.{closed, Wheel, start, abandon}
use Rattle.wheel_rules.specs.Lent.{Nodes, Entries, records, Shows}
use Rattle.wheel_rules.specs.declared.calls.Clock.{Clock}
use Rattle.wheel_rules.specs.records.Clocks.{started, ended, abandoned}

-- "Start(q): the reading becomes q, the old one p is kept"; "start moves no node"
pub record Starts (g : Geometry) (c r : Clock) (q : ℕ) : Type 0 where
  pub is : r ≡ started q c
  pub does : (N : Nodes) (E : Entries) (w : Wheel) → Shows g (records N E c) w → Shows g (records N E r) (act g w (start q)).1

-- "End, which closes the advance and keeps q"
pub record EndsAdvance (g : Geometry) (c r : Clock) : Type 0 where
  pub is : r ≡ ended c
  pub does : (N : Nodes) (E : Entries) (w : Wheel) → Shows g (records N E c) w → Shows g (records N E r) (with_clock w.reading closed w)

-- "Abandon: closes and restores p"
pub record Abandons (g : Geometry) (c r : Clock) : Type 0 where
  pub is : r ≡ abandoned c
  pub does : (N : Nodes) (E : Entries) (w : Wheel) → Shows g (records N E c) w → c.open ≡ true → Shows g (records N E r) (act g w abandon).1
