-- What a call does on the wheel that enabled records show, it does on every wheel that they stand for.
use Prim.Native.Nat.{ℕ}
use mathlib.Core.Path.{◌≡◌, refl, sym, ap, ◌∙◌}
use mathlib.Core.Bool.{Bool, true, false, cond}
use mathlib.Core.Option.{none, some}
use Rattle.rules.specs.Places.{wheel01}
use Rattle.rules.specs.Wheel.{Wheel, Call, Answer}
use Rattle.rules.specs.Calls.{act}
use Rattle.rules.specs.Sound.{Sound}
use Rattle.wheel_rules.specs.Lent.{Records, Shows}
use Rattle.wheel_rules.specs.records.Shows.{Stands}
use Rattle.wheel_rules.specs.calls.Calls.{Acts}

-- records that show an enabled wheel stand for it
pub stands_of : (R : Records) (w : Wheel) → Shows wheel01 R w → Stands wheel01 R w
stands_of R w s =
    record { enabled = s.is_enabled ∙ sym s.enabled; reading = s.reading; next = s.next; shows = λ _. s }

pub lift : (c : Call) (R R' : Records) (a : Answer) → R.clock.enabled ≡ true
    → ((w : Wheel) → Shows wheel01 R w → Sound wheel01 w → ((act wheel01 w c).0 ≡ a) × Shows wheel01 R' (act wheel01 w c).1) → Acts c R R' a
lift c R R' a e f w t o =
    let on : w.enabled ≡ true = sym t.enabled ∙ e in
    let r = f w (t.shows on) (o on) in
    (r.0, stands_of R' (act wheel01 w c).1 r.1)

-- a deadline or none, where j is written for none
pub same_option : (t : Bool) (j d : ℕ) → j ≡ cond t d 0 → cond t (some j) none ≡ cond t (some d) none
same_option true j d e = ap some e
same_option false j d e = refl
