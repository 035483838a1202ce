-- `load` meets its contract.
use Rattle.std.proofs.Common.{◌≡◌, ◌∙◌, ◌++◌, ap, sym, rules, drop}
use Rattle.std.specs.Slice.Iter.{chunks_rest}
use Rattle.face_rules.specs.nodes.Columns.{Columns, columns}
use Rattle.nodes.proofs.Reading.{left_is, reads_on, to_within}
use Rattle.nodes.proofs.load.Goals as goal

pub loop-block-preserved : goal.loop-block-preserved
loop-block-preserved c =
    let ns = c.args.nodes.now in
    let from = c.loop-block.from in
    let block = c.in-Some.block.now in
    let rest = chunks_rest c.next.new.self in
    let kept = c.loop-block.invariant in
    let steps = c.in-Some.ensures.steps in
    let next : drop from ns ≡ block ++ rest = sym kept.left ∙ steps.1.0 in
    let within = to_within ns block rest from kept.within next in
    let on = reads_on ns block rest from kept.within next in
    record {
      within = within;
      size = steps.0 ∙ kept.size;
      left = left_is ns block rest from kept.within next;
      read =
          λ i.
          columns (on (λ v. v.next) c.loop-block.next c.read.new.part (search rules) (ap (λ (k : Columns). k.next) kept.read) c.read.ensures i)
          (on (λ v. v.prev) c.loop-block.prev c.read-in-loop-block.new.part (search rules) (ap (λ (k : Columns). k.prev) kept.read) c.read-in-loop-block.ensures i)
          (on (λ v. v.bucket) c.loop-block.bucket c.read-in-loop-block-2.new.part (search rules) (ap (λ (k : Columns). k.bucket) kept.read) c.read-in-loop-block-2.ensures i)
          (on (λ v. v.entry) c.loop-block.entry c.read-in-loop-block-3.new.part (search rules) (ap (λ (k : Columns). k.entry) kept.read) c.read-in-loop-block-3.ensures i)
          (on (λ v. v.generation) c.loop-block.generation c.read-in-loop-block-4.new.part (search rules) (ap (λ (k : Columns). k.generation) kept.read) c.read-in-loop-block-4.ensures i)
          (on (λ v. v.serial) c.loop-block.serial c.read-in-loop-block-5.new.part (search rules) (ap (λ (k : Columns). k.serial) kept.read) c.read-in-loop-block-5.ensures i);
    }
