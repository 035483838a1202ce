-- `step_past` meets its contract.
use native.Mathlib.Omega.{arith}
use Rattle.wheel_rules.proofs.pull.Skipping.{passing_begins, passing_on}
use Rattle.wheel_advance.proofs.skips.step_past.Goals as goal

pub loop-step-init : goal.loop-step-init
loop-step-init c = record { passing = passing_begins _ _ _ c.requires; upto = omega arith }

pub loop-step-preserved : goal.loop-step-preserved
loop-step-preserved c =
    record {
      passing = passing_on _ _ _ c.requires _ _ c.bucket_at-b.ensures c.loop-step.invariant.passing _ c.visited-count.ensures
          c.loop-step-test.true _ c.alone.ensures c.if-not-alone.false;
      upto = omega arith;
    }
