-- `lines::answers::room` meets its contract: the ways to its answer are the two cases of the test.
use native.Mathlib.Omega.{arith}
use mathlib.Core.Path.{sym, ◌∙◌}
use lib.ListN.{length}
use Rattle.lines.proofs.Waiting.{place_after, place_start}
use Rattle.lines.proofs.answers.room.Goals as goal

pub returns-then-out-at : goal.returns-then-out-at
returns-then-out-at g c =
    let a = c.args in
    c.write_out.ensures ∙ sym (place_start a.at a.n (length a.out.now) (omega arith))

pub returns-then-out-at-2 : goal.returns-then-out-at-2
returns-then-out-at-2 g c =
    let a = c.args in
    c.write_out-then-out-at-2.ensures ∙ sym (place_start a.at a.n (length a.out.now) (omega arith))

pub returns : goal.returns
returns g c = sym (place_after _ _ _ (omega arith))
