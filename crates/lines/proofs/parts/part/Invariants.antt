-- `lines::parts::part` meets its contract. The invariant: what is left to skip of the rest is all that is skipped.
use Rattle.std.proofs.Common.{◌≡◌, ◌-◌}
use Rattle.lines.specs.Parts.{skipped}
use Rattle.lines.proofs.parts.part.Given as goal

abbrev pub invariant-loop : goal.invariant-loop
invariant-loop l = skipped (l.k - l.counter) l.rest ≡ skipped l.k l.line
