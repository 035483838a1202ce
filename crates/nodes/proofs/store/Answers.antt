-- `store` meets its contract.
use Rattle.std.proofs.Common.{◌≡◌, ◌∙◌, ap, arith, length}
use Rattle.face_rules.specs.nodes.Columns.{columns, columns_of}
use Rattle.face_rules.proofs.nodes.Using.{stored, stored_nodes}
use Rattle.nodes.proofs.store.Goals as goal

pub returns : goal.returns
returns c =
    let ns = c.args.nodes.now in
    let cs = columns c.args.next.now c.args.prev.now c.args.bucket.now c.args.entry.now c.args.generation.now c.args.serial.now in
    let all : c.loop-i.i ≡ length ns = omega (arith, c.loop-i-test.false, c.loop-i.auto.i-end) in
    record {
      fits = λ few. ap columns_of (c.loop-i.invariant ∙ ap (stored_nodes ns cs) all) ∙ stored ns cs few c.requires;
      stays = λ many. absurd (omega (arith, many, c.if-nodes-gt-MOST.false));
    }
