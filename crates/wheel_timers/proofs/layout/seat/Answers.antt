-- `seat` meets its contract.
use borrow.Author.Rules.{rules}
use native.Mathlib.Omega.{arith}
use Rattle.wheel_rules.proofs.layout.Seating.{seating_asks, seating_again, seating_ends}
use Rattle.wheel_timers.proofs.layout.seat.Goals as goal

pub push-free-requires : goal.push-free-requires
push-free-requires c = seating_asks _ _ _ _ _ _ c.loop-b.invariant.seated (omega (arith, c.loop-b.invariant.seated.heads_len))

pub loop-b-preserved : goal.loop-b-preserved
loop-b-preserved c =
    record {
      seated = seating_again _ _ _ _ _ _ c.loop-b.invariant.seated (omega (arith, c.loop-b.invariant.seated.heads_len)) _ _ c.push-free.ensures.does;
      same = search rules;
    }

pub returns-clause-does : goal.returns-clause-does
returns-clause-does c =
    seating_ends _ _ _ _ _ _ c.lay_out-free.ensures.does c.loop-b.invariant.seated (omega (arith, c.loop-b.invariant.seated.heads_len))
