-- `lines::reading::digits` meets its contract. The invariant: the number so far, read on, is the number of the text.
use Rattle.std.proofs.Common.{◌≡◌, ◌∙◌, ap, None, rules}
use Rattle.lines.specs.Reading.{said}
use Rattle.lines.proofs.Decimals.{read_stop, read_more, read_end}
use Rattle.lines.proofs.reading.digits.Goals as goal

pub returns-in_err-n : goal.returns-in_err-n
returns-in_err-n c =
    let l = c.loop-b in
    let r : c.from_residual.result ≡ None = search rules in
    ap said r ∙ read_stop l.n _ l.b-index c.loop-b-test.true c.in_err-n.ensures ∙ l.invariant

pub loop-b-preserved : goal.loop-b-preserved
loop-b-preserved c =
    let l = c.loop-b in
    read_more l.n _ l.b-index c.loop-b-test.true _ c.in_ok-n.ensures ∙ l.invariant

pub returns : goal.returns
returns c = let l = c.loop-b in read_end l.n _ l.b-index c.loop-b-test.false ∙ l.invariant
