-- A turn halves one word and counts its odd counters; the words beyond the part stay.
use Rattle.std.proofs.Common.{◌≡◌, ℕ, ◌<◌, length, length-take, take, refl, arith}
use Rattle.sketch_rules.specs.Sketch.{halved_to, odds_to}
use Rattle.sketch_rules.proofs.Passes.{odds_le, odds_to_le, halved_part, odds_part, turn_table, turn_odd}
use Rattle.sketch.proofs.counters.age.Goals as goal

pub loop-w-init : goal.loop-w-init
unfolding halved_to odds_to
loop-w-init c = record { halved = refl; counted = refl }

pub overflow_add-odd : goal.overflow_add-odd
overflow_add-odd c = grind (arith, odds_le, odds_to_le, length-take {A = ℕ})

pub loop-w-preserved : goal.loop-w-preserved
loop-w-preserved c =
    let t = take c.args.used c.args.table.now in
    let l = c.loop-w in
    let h : l.w-index < length t = omega arith in
    record {
      halved = turn_table t l.w-items l.w-index h l.invariant.halved _ c.halve.ensures.is;
      counted = turn_odd t l.w-items l.w-index h l.invariant.halved _ _ l.invariant.counted c.count_odd-odd.ensures;
    }

pub returns : goal.returns
returns c =
    let t = c.args.table.now in
    let e : c.loop-w.w-index ≡ c.args.used = omega (arith, length-take {A = ℕ}) in
    record { value = cc (odds_part c.args.used t); table_after = cc (halved_part c.args.used t) }
