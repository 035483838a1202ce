-- inner: 01's "Sound means", of the lent records of a wheel: a field for each clause of that sentence.
use Rattle.std.specs.Prelude.{ℕ, ◌≤◌, ◌<◌, Bool, true, ◌≡◌, length}
use Rattle.rules.specs.Places.{Geometry, wheel01}
use Rattle.wheel_rules.specs.Lent.{Records, Decides, SoundWith}
use Rattle.wheel_rules.specs.declared.calls.Clock.{Clock}

-- What a clock has to be for records that show a sound wheel to be sound: the recorded number of entries is in its
-- range, and an open advance is on a level that there is. (A wheel on lists knows neither.)
pub record InRange (g : Geometry) (c : Clock) : Type 0 where
  pub some : 0 < c.entries
  pub most : c.entries ≤ 4096
  pub known : c.open ≡ true → c.level ≤ length g.sizes

-- the test is exact, for a wheel with 01's levels
abbrev pub Verdict : ℕ → Records → Bool → Type 0
Verdict total R r = Decides (SoundWith wheel01 total R) r
