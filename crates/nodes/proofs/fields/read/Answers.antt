-- `read` meets its contract.
use Rattle.std.proofs.Common.{◌∙◌, ap, get_or, rules}
use lib.ListN.{set}
use Rattle.face_rules.proofs.nodes.Using.{blank}
use Rattle.nodes.proofs.Reading.{reads_more}
use Rattle.nodes.proofs.fields.read.Goals as goal

pub loop-i-preserved : goal.loop-i-preserved
loop-i-preserved g c =
    let block = c.args.block.now in
    let gives = c.requires.1.1.1.0 in
    ap (set c.loop-i.part c.loop-i.i) (gives (get_or block c.loop-i.i blank) c.field.result (search rules))
    ∙ reads_more g.value blank block c.args.part.now c.loop-i.part c.loop-i.i c.loop-i-test.true c.requires.1.1.1.1
    c.loop-i.invariant
