-- Enable on held records keeps the wheel's promise.
use mathlib.Core.Path.{◌≡◌, refl, subst, ◌∙◌}
use mathlib.Core.Bool.{true}
use lib.ListN.{length, length-map}
use Rattle.face_rules.specs.declared.Node.{Node}
use Rattle.rules.specs.Wheel.{Call, enable, Answer}
use Rattle.wheel_rules.specs.Lent.{Records}
use Rattle.wheel_rules.specs.Promise.{enabling, Promised}
use Rattle.story.specs.declared.held.Held.{Held}
use Rattle.story.specs.Held.{held}

-- records of these lengths fit
module _ (s : Held) (eh : length s.heads ≡ 165) (et : length s.tails ≡ 165) (en : length s.nodes ≡ 168) (ed : length s.dated ≡ 2)
    (el : length s.deadline ≡ 2) (em : length s.stamp ≡ 2) where
  lengths_fit : enabling (held s) ≡ enable 168 2 true
  lengths_fit =
      rw (
        eh,
        et,
        length-map s.nodes (λ (v : Node). v.next) ∙ en,
        length-map s.nodes (λ (v : Node). v.prev) ∙ en,
        length-map s.nodes (λ (v : Node). v.bucket) ∙ en,
        length-map s.nodes (λ (v : Node). v.entry) ∙ en,
        length-map s.nodes (λ (v : Node). v.generation) ∙ en,
        length-map s.nodes (λ (v : Node). v.serial) ∙ en,
        ed,
        el,
        em,
      ) refl

  pub enabling_so : {S : Records} {a : Answer} → Promised (enabling (held s)) (held s) S a → Promised (enable 168 2 true) (held s) S a
  enabling_so {S = S} {a = a} M = subst (λ (x : Call). Promised x (held s) S a) lengths_fit M
