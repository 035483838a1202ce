-- The columns so far: they begin with the fields of the nodes before `from`; the nodes from there on are left.
use Rattle.std.proofs.Common.{◌≡◌, ◌≤◌, drop, length, take}
use Rattle.std.specs.Slice.Iter.{chunks_rest, chunks_size}
use Rattle.face_rules.specs.nodes.Columns.{columns, columns_of, front}
use Rattle.nodes.proofs.load.Given as goal

abbrev pub ghost-read : goal.ghost-read
ghost-read a = λ v. v.next

abbrev pub ghost-read-2 : goal.ghost-read-2
ghost-read-2 a = λ v. v.prev

abbrev pub ghost-read-3 : goal.ghost-read-3
ghost-read-3 a = λ v. v.bucket

abbrev pub ghost-read-4 : goal.ghost-read-4
ghost-read-4 a = λ v. v.entry

abbrev pub ghost-read-5 : goal.ghost-read-5
ghost-read-5 a = λ v. v.generation

abbrev pub ghost-read-6 : goal.ghost-read-6
ghost-read-6 a = λ v. v.serial

abbrev pub invariant-loop-block : goal.invariant-loop-block
invariant-loop-block l = record {
  within : l.from ≤ length l.nodes;
  size : chunks_size l.block-iterator ≡ 256;
  left : chunks_rest l.block-iterator ≡ drop l.from l.nodes;
  read : front l.from (columns l.next l.prev l.bucket l.entry l.generation l.serial) ≡ columns_of (take l.from l.nodes);
}
