-- Two results that meet the promise of an exported function coincide: the result, the five lent numbers, every node,
-- head, tail and entry, and the clock. Create's: wheel_rules, proofs/history/Coincide.antt (`create_coincides`).
use Prim.Native.Nat.{ℕ}
use mathlib.Core.Path.{◌≡◌, sym, ap, ◌∙◌}
use mathlib.Core.Bool.{Bool}
use mathlib.Core.List.{List}
use lib.ListN.{get_or}
use Rattle.rules.specs.Wheel.{Call, Answer}
use Rattle.wheel_rules.specs.declared.calls.Clock.{Clock}
use Rattle.wheel_rules.specs.Lent.{Records}
use Rattle.face_rules.specs.declared.Node.{Node}
use Rattle.face_rules.specs.Face.{records_of as shown, words_of, Told}
use Rattle.face_rules.proofs.Determined.{Same, face_coincides}

pub export_coincides : (R : Records) (hs ts hs' ts' : List ℕ) (ns ns' : List Node) (d d' : List Bool) (l m l' m' : List ℕ) (k k' : Clock) (a b : List ℕ)
    (r s : ℕ) (c : Call) → Told c R (shown hs ts ns d l m k) a r → Told c R (shown hs' ts' ns' d' l' m' k') b s
    → (r ≡ s) × (a ≡ b) × Same hs ts hs' ts' ns ns' d d' l m l' m' k k'
export_coincides R hs ts hs' ts' ns ns' d d' l m l' m' k k' a b r s c p q =
    let u = face_coincides R hs ts hs' ts' ns ns' d d' l m l' m' k k' c p.answer q.answer p.promised q.promised in (
      p.written.number_is ∙ ap (λ (x : Answer). get_or (words_of x) 0 0) u.0 ∙ sym q.written.number_is,
      p.written.words_are ∙ ap (λ (x : Answer). words_of x) u.0 ∙ sym q.written.words_are,
      u.1,
    )
