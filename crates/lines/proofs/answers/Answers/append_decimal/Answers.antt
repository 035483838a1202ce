-- `Answers::append_decimal` meets its contract.
use Rattle.std.proofs.Common.{ℕ, List, subst}
use Rattle.lines.specs.Answers.{Appended}
use Rattle.lines.proofs.answers.Answers.append_decimal.Goals as goal

pub returns : goal.returns
returns g c =
    let a = c.args.self.now in
    let d = c.decimal-k in
    let p = c.append in
    record {
      places = d.result;
      fewest = d.ensures.len;
      appended = subst (λ (t : List ℕ). Appended a.out a.waiting t p.new.self.out p.new.self.waiting) d.ensures.digits p.ensures;
      within = p.ensures.within;
    }
