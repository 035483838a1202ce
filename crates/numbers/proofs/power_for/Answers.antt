-- `numbers::power_for` meets its contract.
use Rattle.std.proofs.Common.{◌∙◌, arith}
use Rattle.numbers.proofs.Powers.{next_is}
use Rattle.numbers.proofs.power_for.Goals as goal

pub returns : goal.returns
returns c =
    let e = c.next_power_of_two.ensures in
    let p = e.power in
    p.1 ∙ next_is 15 c.args.n p.0 (omega (arith, e.lower_bound, p.1)) (omega (arith, e.upper_bound, p.1))
