-- `lines::parts::part` meets its contract.
use Rattle.std.proofs.Common.{◌≡◌, ℕ, ◌-◌, length, ap, sym, ◌∙◌, arith, rules}
use Rattle.lines.specs.Parts.{skipped, before, space}
use Rattle.lines.proofs.Scans.{none_left, skipped_on}
use Rattle.lines.proofs.parts.part.Goals as goal

pub returns-then-is_empty : goal.returns-then-is_empty
returns-then-is_empty c =
    let s = c.loop in
    let none : length s.rest.now ≡ 0 = search rules in
    none_left (c.args.k - s.counter) s.rest.now none ∙ ap (before space) s.invariant

pub loop-preserved : goal.loop-preserved
loop-preserved c =
    let s = c.loop in
    ap (skipped _) c.cut.ensures.back ∙ sym (skipped_on c.args.k s.counter s.rest.now (omega arith)) ∙ s.invariant

pub returns : goal.returns
unfolding skipped
returns c =
    let s = c.loop in
    let e : c.args.k - s.counter ≡ 0 = omega arith in
    c.cut-2.ensures.front ∙ ap (before space) (sym (ap (λ (n : ℕ). skipped n s.rest.now) e) ∙ s.invariant)
