-- `sound` meets its contract: its loop keeps `Upto`, and each way out has a law of `Verdicts`.
use Rattle.deque_rules.proofs.Judging.{Upto}
use Rattle.deque.specs.Slices.{links_of}
use Rattle.deque.proofs.linked.Linked.sound.Given as goal

abbrev pub invariant-loop-d : goal.invariant-loop-d
invariant-loop-d l = Upto (links_of l.self) l.d l.total
