use Rattle.std.proofs.Common.{◌≡◌, refl, arith}
use Rattle.sketch_rules.proofs.Counting.{least_to, turn_least, least_of_four}
use Rattle.sketch.proofs.unchecked.least_count.Goals as goal

pub loop-depth-init : goal.loop-depth-init
unfolding least_to
loop-depth-init c = refl

pub loop-depth-preserved : goal.loop-depth-preserved
loop-depth-preserved c = search turn_least

pub returns : goal.returns
returns c =
    let e : c.loop-depth.depth ≡ 4 = omega arith in
    cc (least_of_four c.args.hash c.args.used c.args.table.now)
