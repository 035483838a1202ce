-- `walk` meets its contract: the invariant of its loop is `Going`, and each way out has a law of `Walking`.
use native.Mathlib.Omega.{arith}
use borrow.Author.Rules.{rules}
use Rattle.deque_rules.proofs.Walking.{goes, exits}
use Rattle.deque.proofs.linked.Linked.walk.Goals.{then-n-x-via-then-n-x, then-n-x-via-else-n-x+then-self-x, then-n-x-via-else-n-x+else-self-x+then-self-x-2}
use Rattle.deque.proofs.linked.Linked.walk.Goals as goal

pub returns-then-self-d : goal.returns-then-self-d
returns-then-self-d c = (search exits, omega arith)

pub returns-else-self-d : goal.returns-else-self-d
returns-else-self-d c = search exits

pub returns-then-n-x : goal.returns-then-n-x
returns-then-n-x c =
    elim c.then-n-x.branch [
      | then-n-x-via-then-n-x w ↦ search exits
      | then-n-x-via-else-n-x+then-self-x w ↦ search exits
      | then-n-x-via-else-n-x+else-self-x+then-self-x-2 w ↦ search exits
    ]

pub loop-k-preserved : goal.loop-k-preserved
loop-k-preserved c = search (goes, rules)

pub returns-else-self-x-2 : goal.returns-else-self-x-2
returns-else-self-x-2 c = search (exits, rules)
