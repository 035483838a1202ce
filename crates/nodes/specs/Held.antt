-- inner: the columns that a value of the type holds.
use Rattle.face_rules.specs.nodes.Columns.{Columns as Lists, columns}
use Rattle.nodes.specs.declared.Columns.{Columns}

abbrev pub held : Columns → Lists
held c = columns c.next c.prev c.bucket c.entry c.generation c.serial
