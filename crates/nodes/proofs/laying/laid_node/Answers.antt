-- `laid_node` meets its contract.
use Rattle.face_rules.proofs.nodes.InPlace.{sentinel_laid, free_laid, last_laid}
use Rattle.nodes.proofs.laying.laid_node.Goals as goal

pub returns-then-i-lt-BUCKETS : goal.returns-then-i-lt-BUCKETS
returns-then-i-lt-BUCKETS c = sentinel_laid _ _ c.if-i-lt-BUCKETS.true

pub returns-then-i-n : goal.returns-then-i-n
returns-then-i-n c = free_laid _ _ c.if-i-lt-BUCKETS.false c.if-i-n.true

pub returns-else-i-n : goal.returns-else-i-n
returns-else-i-n c = last_laid _ _ c.if-i-lt-BUCKETS.false c.if-i-n.false
