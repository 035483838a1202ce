-- inner: what the works promise, by the call. But for that of enable, of the columns that n lent nodes were read into:
-- whatever nodes were read, the call on them is as promised (wheel_rules, specs/Promise.antt), with the nodes that
-- are stored back from the columns it leaves. Where more nodes are lent than fit, the columns say nothing of them.
use Rattle.std.specs.Prelude.{ℕ, Bool, List, ◌≡◌, length}
use Rattle.face_rules.specs.Face.{records_of}
use Rattle.face_rules.specs.declared.Node.{Node}
use Rattle.face_rules.specs.nodes.Columns.{Columns, Loads, Stores}
use Rattle.face_rules.specs.nodes.Laid.{Laid}
use Rattle.rules.specs.Wheel.{Call, Answer}
use Rattle.wheel_rules.specs.Lent.{Entries, Nodes, Records, nodes}
use Rattle.wheel_rules.specs.Promise.{enabling, Promised}
use Rattle.wheel_rules.specs.declared.calls.Clock.{Clock}

-- the lent records: heads, tails; nodes; entries; clock
abbrev pub lent_with : List ℕ → List ℕ → List Node → Entries → Clock → Records
lent_with h t ns E c = records_of h t ns E.dated E.deadline E.generation c

-- the slots of a wheel that columns are, with heads and tails
abbrev pub slots : List ℕ → List ℕ → Columns → Nodes
slots h t c = nodes h t c.next c.prev c.bucket c.entry c.generation c.serial

-- of every n nodes that were read into the columns c
abbrev pub OfLoaded : Columns → ℕ → (List Node → Type 0) → Type 0
OfLoaded c n P = (ns : List Node) → length ns ≡ n → Loads ns c → P ns

-- and of what they are once the columns c' are stored back over them
abbrev pub OfStored : Columns → Columns → ℕ → (List Node → List Node → Type 0) → Type 0
OfStored c c' n P = (ns ns' : List Node) → length ns ≡ n → Loads ns c → Stores ns c' ns' → P ns ns'

-- a call that writes nodes, heads, tails and the clock: schedule, reschedule, deschedule, pull
pub record Stored (call : Call) (c c' : Columns) (n : ℕ) (clock clock' : Clock) (heads tails heads' tails' : List ℕ) (E : Entries)
    (a : Answer) : Type 0 where
  pub meets :
      OfStored c c' n
      (λ ns ns'. Promised call (lent_with heads tails ns E clock) (lent_with heads' tails' ns' E clock') a)

-- one that writes no node, head or tail: set entry, start, abandon, the two counts
pub record Loaded (call : Call) (c : Columns) (n : ℕ) (clock clock' : Clock) (heads tails : List ℕ) (E E' : Entries)
    (a : Answer) : Type 0 where
  pub meets :
      OfLoaded c n
      (λ ns. Promised call (lent_with heads tails ns E clock) (lent_with heads tails ns E' clock') a)

-- enable, which reads no node: whatever n nodes are lent, and what they are once they are laid out in place, or left
pub record Enabled (n : ℕ) (clock clock' : Clock) (heads tails heads' tails' : List ℕ) (E E' : Entries) (laid : Bool)
    (a : Answer) : Type 0 where
  pub meets :
      (ns ns' : List Node) → length ns ≡ n → Laid ns laid ns' →
      Promised (enabling (lent_with heads tails ns E clock)) (lent_with heads tails ns E clock)
      (lent_with heads' tails' ns' E' clock') a
