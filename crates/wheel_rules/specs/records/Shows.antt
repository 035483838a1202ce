-- inner: the wheel on lists that lent records stand for: the tie between records and the rules.
use Rattle.std.specs.Prelude.{true, ◌≡◌}
use Rattle.rules.specs.Places.{Geometry}
use Rattle.rules.specs.Wheel.{Wheel}
use Rattle.wheel_rules.specs.Lent.{Records, Shows}

-- the records of any wheel: of one that is not enabled only the reading, the next serial and that it is not enabled are
-- asked
pub record Stands (g : Geometry) (R : Records) (w : Wheel) : Type 0 where
  pub enabled : R.clock.enabled ≡ w.enabled
  pub reading : R.clock.reading ≡ w.reading
  pub next : R.clock.serial ≡ w.next
  pub shows : w.enabled ≡ true → Shows g R w
