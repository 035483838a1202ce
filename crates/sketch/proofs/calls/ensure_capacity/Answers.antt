use Rattle.std.proofs.Common.{arith}
use Rattle.std.proofs.lemmas.Grind.{common_steps}
use Rattle.sketch_rules.specs.Sketch.{ensure_refusal, ensured_table, ensured_sketch}
use Rattle.sketch_rules.proofs.Promises.{is_sound_if}
use Rattle.sketch.proofs.calls.ensure_capacity.Goals as goal

pub returns : goal.returns
unfolding ensure_refusal ensured_table ensured_sketch
returns c = grind (arith, common_steps, is_sound_if _ _ c.in_ok-standing.ensures)
