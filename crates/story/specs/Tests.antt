-- inner to the programs: what a test of an answer says.
use Rattle.std.specs.Prelude.{◌≡◌, Bool, true}
use Rattle.rules.specs.Wheel.{Answer}

-- r is whether the answer a is b
pub record Whether (a b : Answer) (r : Bool) : Type 0 where
  pub yes : a ≡ b → r ≡ true
  pub only : r ≡ true → a ≡ b
