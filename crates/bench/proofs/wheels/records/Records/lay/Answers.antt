-- `lay` lays out a sound wheel over the nodes that it was given.
use Rattle.std.proofs.Common.{arith}
use Rattle.bench.proofs.WheelKeeping.{laid_works, laid_lengths}
use Rattle.bench.proofs.wheels.records.Records.lay.Goals as goal

pub returns-clause-works : goal.returns-clause-works
returns-clause-works c = laid_works _ _ _ _ _ _ (omega arith) c.lay_out-clock.ensures.does

pub returns-clause-lies : goal.returns-clause-lies
returns-clause-lies c =
    let l = laid_lengths _ _ _ _ _ _ (omega arith) c.lay_out-clock.ensures.does in
    (returns-clause-works c, omega (arith, l.0), omega (arith, l.1))
