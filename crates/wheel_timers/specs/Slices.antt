-- The records that lent slices hold, and that a call lends back the slices that it was lent.
use Rattle.std.specs.Prelude.{◌≡◌}
use Rattle.deque.specs.Slices.{links_of, links_now, SameSlices, Reads}
use Rattle.wheel_rules.specs.Lent.{Nodes as Slots, Entries as Noted}
use Rattle.wheel_timers.specs.declared.lent.Entries.{Entries}
use Rattle.wheel_timers.specs.declared.lent.EntriesMut.{EntriesMut}
use Rattle.wheel_timers.specs.declared.lent.Nodes.{Nodes}
use Rattle.wheel_timers.specs.declared.lent.NodesMut.{NodesMut}

abbrev pub nodes_of : Nodes → Slots
nodes_of n = record { links = links_of n.linked; entry = n.entry.now; generation = n.generation.now; serial = n.serial.now }

abbrev pub nodes_now : NodesMut → Slots
nodes_now n = record { links = links_now n.linked; entry = n.entry.now; generation = n.generation.now; serial = n.serial.now }

abbrev pub entries_of : Entries → Noted
entries_of e = record { dated = e.dated.now; deadline = e.deadline.now; generation = e.generation.now }

abbrev pub entries_now : EntriesMut → Noted
entries_now e = record { dated = e.dated.now; deadline = e.deadline.now; generation = e.generation.now }

-- each field is the slice that it was, whatever the slice holds
pub record SameNodes (a b : NodesMut) : Type 0 where
  pub linked : SameSlices a.linked b.linked
  pub entry : b.entry.ghost_name ≡ a.entry.ghost_name
  pub generation : b.generation.ghost_name ≡ a.generation.ghost_name
  pub serial : b.serial.ghost_name ≡ a.serial.ghost_name

pub record SameEntries (a b : EntriesMut) : Type 0 where
  pub dated : b.dated.ghost_name ≡ a.dated.ghost_name
  pub deadline : b.deadline.ghost_name ≡ a.deadline.ghost_name
  pub generation : b.generation.ghost_name ≡ a.generation.ghost_name

-- r reads what n lends for changing
pub record ReadsNodes (n : NodesMut) (r : Nodes) : Type 0 where
  pub linked : Reads n.linked r.linked
  pub entry : r.entry.now ≡ n.entry.now
  pub generation : r.generation.now ≡ n.generation.now
  pub serial : r.serial.now ≡ n.serial.now
  pub nodes : nodes_of r ≡ nodes_now n

pub record ReadsEntries (e : EntriesMut) (r : Entries) : Type 0 where
  pub dated : r.dated.now ≡ e.dated.now
  pub deadline : r.deadline.now ≡ e.deadline.now
  pub generation : r.generation.now ≡ e.generation.now
  pub entries : entries_of r ≡ entries_now e
