-- An answer whose case is known is written as the case is.
use Prim.Native.Nat.{ℕ}
use mathlib.Core.Path.{◌≡◌, sym, subst}
use mathlib.Core.List.{List}
use Rattle.face_rules.specs.Face.{words_of, Writes}
use Rattle.numbers.specs.declared.refusals.Refusal.{Refusal}
use Rattle.rules.specs.Wheel.{Answer}
use Rattle.std.specs.Prelude.{Result}
use Rattle.wheel_rules.specs.Promise.{says}

pub said_as : {A : Type 0} (f : A → Answer) {a : List ℕ} {k : ℕ} {x v : Result A Refusal} → x ≡ v → Writes (words_of (says f v)) a k
    → Writes (words_of (says f x)) a k
said_as f {a} {k} e w = subst (λ z. Writes (words_of (says f z)) a k) (sym e) w
