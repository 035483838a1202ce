-- `lay` meets its contract.
use Rattle.std.proofs.Common.{◌≡◌, ◌∙◌, ap, sym, arith, length}
use Rattle.face_rules.proofs.nodes.InPlace.{laid, laid_to}
use mathlib.Core.Bool.{false≢true}
use Rattle.nodes.proofs.laying.lay.Goals as goal

pub returns : goal.returns
returns c =
    let ns = c.args.nodes.now in
    let all : c.loop-i.i ≡ length ns = omega (arith, c.loop-i-test.false, c.loop-i.auto.i-end) in
    record {
      lays = λ on. c.loop-i.invariant ∙ ap (laid_to ns) all ∙ laid ns;
      stays = λ off. absurd (false≢true (sym off ∙ c.if-not-on.false));
    }
