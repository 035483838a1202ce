-- A call on slots promises the same of equal slots.
use Rattle.std.proofs.Common.{◌≡◌, ℕ, List, subst, sym}
use Rattle.face_rules.specs.Works.{slots}
use Rattle.face_rules.specs.nodes.Columns.{Columns}
use Rattle.rules.specs.Wheel.{Answer, Call}
use Rattle.wheel_rules.specs.Lent.{Entries, Records, records}
use Rattle.wheel_rules.specs.Promise.{Promised}
use Rattle.wheel_rules.specs.declared.calls.Clock.{Clock}

pub promised_at : {q : Call} {R : Records} {h t : List ℕ} {E : Entries} {k : Clock} {a : Answer} {x y : Columns} → x ≡ y
    → Promised q R (records (slots h t y) E k) a → Promised q R (records (slots h t x) E k) a
promised_at {q} {R} {h} {t} {E} {k} {a} e p = subst (λ (z : Columns). Promised q R (records (slots h t z) E k) a) (sym e) p
