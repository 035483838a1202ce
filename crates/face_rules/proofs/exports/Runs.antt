-- What a program over the exported functions sees is a history of the wheel's promise (wheel_rules,
-- specs/Demand3.antt), its answers written as numbers: all that is proved of such histories holds of it.
use Prim.Native.Nat.{ℕ}
use mathlib.Core.Path.{◌≡◌, refl}
use mathlib.Core.List.{List, [], ◌∷◌, map}
use Rattle.rules.specs.Wheel.{Call, Answer, ok}
use Rattle.wheel_rules.specs.Lent.{Records}
use Rattle.wheel_rules.specs.Demand3.{Leads, done, then}
use Rattle.face_rules.specs.Face.{words_of, Exported}
use Rattle.face_rules.specs.Face as exported

pub exported_leads : (R S : Records) (cs : List Call) (ws : List (List ℕ)) → Exported R cs ws S → (rs : List Answer) × Leads R cs rs S × (ws ≡ map words_of rs)
exported_leads R S cs ws exported.done = ([], done, refl)
exported_leads R S cs ws (exported.begun {M = M} {cs = ds} {ws = vs} p l) =
    let u = exported_leads M S ds vs l in
    (ok ∷ u.0, then p u.1, λ i. words_of ok ∷ u.2 i)
exported_leads R S cs ws (exported.then {M = M} {cs = ds} {ws = vs} p l) =
    let u = exported_leads M S ds vs l in
    (p.answer ∷ u.0, then p.promised u.1, λ i. p.written.words_are i ∷ u.2 i)
