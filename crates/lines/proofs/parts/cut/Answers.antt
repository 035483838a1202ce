-- `lines::parts::cut` meets its contract.
use Rattle.std.proofs.Common.{◌∙◌, sym, length, ◌+◌, rules}
use Rattle.std.proofs.lemmas.Slice.{between_to_end}
use Rattle.lines.proofs.Scans.{cut_at, no_cut}
use Rattle.lines.proofs.parts.cut.Goals as goal

pub returns-in-Some-clause-front : goal.returns-in-Some-clause-front
returns-in-Some-clause-front c = (cut_at _ _ (sym c.in-Some.ensures)).0

pub returns-in-Some-clause-back : goal.returns-in-Some-clause-back
returns-in-Some-clause-back c =
    between_to_end c.args.text.now (c.in-Some.i + 1) (length c.args.text.now) (search rules) ∙ (cut_at _ _ (sym c.in-Some.ensures)).1

pub returns-in-None-clause-front : goal.returns-in-None-clause-front
returns-in-None-clause-front c = (no_cut _ (sym c.in-None.ensures)).0

pub returns-in-None-clause-back : goal.returns-in-None-clause-back
returns-in-None-clause-back c = (no_cut _ (sym c.in-None.ensures)).1
