-- inner to the programs: the records that a story holds, as the wheel's promises speak of them.
use Rattle.face_rules.specs.Face.{records_of}
use Rattle.wheel_rules.specs.Lent.{Records}
use Rattle.story.specs.declared.held.Held.{Held}

abbrev pub held : Held → Records
held s = records_of s.heads s.tails s.nodes s.dated s.deadline s.stamp s.clock
