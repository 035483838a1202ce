-- `lines::parts::is_part` meets its contract.
use Rattle.std.proofs.Common.{◌∙◌, List, ℕ, ap}
use Rattle.lines.specs.Parts.{alike}
use Rattle.lines.proofs.Scans.{alike_is}
use Rattle.lines.proofs.parts.is_part.Goals as goal

pub returns : goal.returns
returns c =
    c.eq.ensures ∙ alike_is _ _ ∙ ap (λ (t : List ℕ). alike t c.args.word.now) c.part.ensures
