-- `sound` meets its contract.
use borrow.Author.Rules.{rules}
use Rattle.deque_rules.proofs.alone.Testing.{goes, exits}
use Rattle.deque_alone.proofs.lending.Deques.sound.Goals as goal

pub returns-then-self-d : goal.returns-then-self-d
returns-then-self-d c = search (exits, rules, c.in-Some.ensures)

pub loop-d-preserved : goal.loop-d-preserved
loop-d-preserved c = search (goes, rules, c.in-Some.ensures)

pub returns : goal.returns
returns c = search (exits, rules, c.in-Some-walk_free.ensures)
