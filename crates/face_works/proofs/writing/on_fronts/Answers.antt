-- `on_fronts` meets its promise.
use Rattle.std.proofs.Common.{rules}
use Rattle.face_rules.specs.nodes.Columns.{columns}
use Rattle.face_rules.proofs.Loading.{over_front}
use Rattle.face_works.proofs.Moving.{promised_at}
use Rattle.face_works.proofs.writing.on_fronts.Goals as goal

pub returns : goal.returns
returns g c =
    let a = c.args in
    let n = c.on_slices.new in
    let whole = columns a.next.now a.prev.now a.bucket.now a.entry.now a.generation.now a.serial.now in
    let part = columns n.next n.prev n.bucket n.entry n.generation n.serial in
    promised_at
    (over_front a.n c.requires part whole (search rules)
    (record {
      next_same = c.on_slices.auto.next;
      prev_same = c.on_slices.auto.prev;
      bucket_same = c.on_slices.auto.bucket;
      entry_same = c.on_slices.auto.entry;
      generation_same = c.on_slices.auto.generation;
      serial_same = c.on_slices.auto.serial;
    }))
    c.on_slices.ensures
