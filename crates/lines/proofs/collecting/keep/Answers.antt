-- `lines::collecting::keep` meets its contract.
use native.Mathlib.Omega.{arith}
use mathlib.Core.Path.{refl, sym, ap, ◌∙◌}
use mathlib.Core.List.{◌∷◌}
use lib.ListN.{length, take, length-set}
use Rattle.lines.proofs.Waiting.{kept, full}
use Rattle.lines.proofs.collecting.keep.Goals as goal

pub returns-then-n-line : goal.returns-then-n-line
returns-then-n-line c =
    let a = c.args in
    record {
      holds = λ rest. ap (take (length a.line.now)) (kept a.line.now a.n a.b c.if-n-line.true rest);
      long = simp length-set;
      within = λ w. omega arith;
    }

pub returns-else-n-line : goal.returns-else-n-line
returns-else-n-line c =
    let a = c.args in
    record {
      holds = λ rest. full a.line.now a.n c.if-n-line.false rest ∙ sym (full a.line.now a.n c.if-n-line.false (a.b ∷ rest));
      long = refl;
      within = λ w. w;
    }
