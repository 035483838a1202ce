-- inner: slots whose links and payload are lent as two values.
use Rattle.std.specs.Prelude.{◌≡◌}
use Rattle.deque.specs.Slices.{links_now}
use Rattle.deque.specs.declared.linked.LinkedMut.{LinkedMut}
use Rattle.face_works.specs.declared.writing.PayloadMut.{PayloadMut}
use Rattle.wheel_rules.specs.Lent.{Nodes}

abbrev pub slots_now : LinkedMut → PayloadMut → Nodes
slots_now l p = record { links = links_now l; entry = p.entry.now; generation = p.generation.now; serial = p.serial.now }

-- b lends the slices that a lends
pub record SamePayload (a b : PayloadMut) : Type 0 where
  pub entry : b.entry.ghost_name ≡ a.entry.ghost_name
  pub generation : b.generation.ghost_name ≡ a.generation.ghost_name
  pub serial : b.serial.ghost_name ≡ a.serial.ghost_name
