-- `walk_free` meets its contract: the invariant of its loop is `GoingFree`, and each way out has a law of
-- `WalkingFree`.
use native.Mathlib.Omega.{arith}
use borrow.Author.Rules.{rules}
use Rattle.deque_rules.proofs.WalkingFree.{goes, exits}
use Rattle.deque.proofs.linked.Linked.walk_free.Goals.{then-n-x-via-then-n-x, then-n-x-via-else-n-x+then-self-x-ne-NONE}
use Rattle.deque.proofs.linked.Linked.walk_free.Goals as goal

pub returns-then-x-eq-NONE : goal.returns-then-x-eq-NONE
returns-then-x-eq-NONE c = (search exits, omega arith)

pub returns-then-n-x : goal.returns-then-n-x
returns-then-n-x c =
    elim c.then-n-x.branch [
      | then-n-x-via-then-n-x w ↦ search exits
      | then-n-x-via-else-n-x+then-self-x-ne-NONE w ↦ search exits
    ]

pub loop-k-preserved : goal.loop-k-preserved
loop-k-preserved c = search (goes, rules)

pub returns-else-self-x-ne-NONE : goal.returns-else-self-x-ne-NONE
returns-else-self-x-ne-NONE c = search (exits, rules)
