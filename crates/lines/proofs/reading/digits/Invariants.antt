-- `lines::reading::digits` meets its contract. The invariant: the number so far, read on, is the number of the text.
use Rattle.std.proofs.Common.{◌≡◌, drop}
use Rattle.lines.specs.Reading.{read_on}
use Rattle.lines.proofs.reading.digits.Given as goal

abbrev pub invariant-loop-b : goal.invariant-loop-b
invariant-loop-b l = read_on l.n (drop l.b-index l.text) ≡ read_on 0 l.text
