-- `sound` meets its contract: its loop keeps `Upto`, and each way out has a law of `Verdicts`.
use borrow.Author.Rules.{rules}
use Rattle.deque_rules.proofs.Judging.{more}
use Rattle.deque_rules.proofs.Verdicts.{exits}
use Rattle.deque.proofs.linked.Linked.sound.Goals as goal

pub returns-in_default : goal.returns-in_default
returns-in_default c = search (exits, rules, c.in_default.ensures)

pub loop-d-preserved : goal.loop-d-preserved
loop-d-preserved c = search (more, c.in-Some.ensures)

pub returns-in_default-walk_free : goal.returns-in_default-walk_free
returns-in_default-walk_free c = search (exits, rules)

pub returns : goal.returns
returns c = search (exits, c.in-Some-walk_free.ensures)
