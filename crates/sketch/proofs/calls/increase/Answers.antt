use Rattle.std.proofs.Common.{sym, ◌∙◌}
use Rattle.sketch_rules.proofs.Promises.{ready, stands}
use Rattle.sketch.proofs.calls.increase.Goals as goal

pub raise_hash-requires : goal.raise_hash-requires
raise_hash-requires c = ready _ _ (sym (stands _ _ (sym c.is_sound.ensures ∙ c.if-not-is_sound.false))) c.if-sketch-eq0.false
