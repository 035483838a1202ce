-- The word changes just where the counter rises.
use Rattle.sketch_rules.proofs.Counting.{word_changed}
use Rattle.sketch.proofs.unchecked.raise_at.Goals as goal

pub returns-clause-value : goal.returns-clause-value
returns-clause-value c = word_changed _ _ _ c.raise-v.ensures.is c.if-v-w.false
