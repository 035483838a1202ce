use Rattle.std.proofs.Common.{refl}
use Rattle.numbers.proofs.Powers.{power_least}
use Rattle.sketch_rules.proofs.Places.{placed}
use Rattle.sketch.proofs.index.word_at.Goals as goal

pub overflow_sub-result : goal.overflow_sub-result
overflow_sub-result c = power_least 16 _ c.requires.words_value

pub returns : goal.returns
returns c = placed _ _ _ _ _ _ _ refl refl c.wrapping_mul-x.ensures refl c.requires.words_value
