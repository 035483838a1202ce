-- `sound` meets its contract: its loop keeps `Seen`.
use Rattle.deque_rules.proofs.alone.Testing.{Seen}
use Rattle.deque_alone.specs.Slices.{state_of}
use Rattle.deque_alone.proofs.lending.Deques.sound.Given as goal

abbrev pub invariant-loop-d : goal.invariant-loop-d
invariant-loop-d l = Seen (state_of l.self l.cursors) l.d l.total
