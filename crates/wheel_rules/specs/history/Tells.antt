-- inner: records that calls have led to, and the wheel on lists that they stand for.
use Rattle.std.specs.Prelude.{true, ◌≡◌}
use Rattle.rules.specs.Places.{wheel01}
use Rattle.rules.specs.Sound.{SoundIfEnabled}
use Rattle.rules.specs.Wheel.{Wheel}
use Rattle.wheel_rules.specs.Lent.{Records, SoundRecords}
use Rattle.wheel_rules.specs.records.Shows.{Stands}

-- they stand for the wheel w, and if it is enabled they are sound, and so is it
pub record Tells (R : Records) (w : Wheel) : Type 0 where
  pub stands : Stands wheel01 R w
  pub sound : SoundIfEnabled wheel01 w
  pub kept : R.clock.enabled ≡ true → SoundRecords wheel01 R
