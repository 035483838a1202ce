-- `lines::reading::read_number` meets its contract.
use Rattle.std.proofs.Common.{◌≡◌, ◌∙◌, ◌<◌, length, sym, rules}
use Rattle.std.specs.Cmp.Lexicographic.{other_text}
use Rattle.lines.specs.Reading.{said}
use Rattle.lines.proofs.Decimals.{all_digits}
use Rattle.lines.proofs.reading.read_number.Goals as goal

pub returns : goal.returns
returns c =
    let e : c.map_or.result ≡ said c.digits.result = search rules in
    let some : 0 < length c.args.text.now = search rules in
    e ∙ c.digits.ensures ∙ all_digits _ some (other_text _ _ (sym c.if-eq.false ∙ c.eq.ensures))
