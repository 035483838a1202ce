-- Exact answers: how a test's answer decides what it tests.
use mathlib.Core.Path.{◌≡◌, refl, sym, ◌∙◌}
use mathlib.Core.Bool.{Bool, true, false, not, false≢true}
use borrow.Author.Tests.{not-true, not-false}
use Rattle.wheel_rules.specs.Lent.{Decides}

pub yes : {P : Type 0} → P → Decides P true
yes p = record { sound = λ e. p; complete = λ q. refl }

pub no : {P : Type 0} → (P → ⊥) → Decides P false
no n = record { sound = λ e. absurd (false≢true e); complete = λ p. absurd (n p) }

-- a test that has failed, or has not
pub failed : {P : Type 0} {r : Bool} → Decides P r → not r ≡ true → P → ⊥
failed {r = r} d e p = false≢true (sym (not-true r e) ∙ d.complete p)

pub passed : {P : Type 0} {r : Bool} → Decides P r → not r ≡ false → P
passed {r = r} d e = d.sound (not-false r e)
