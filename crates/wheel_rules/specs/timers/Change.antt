-- inner: what is done to the node records: payload written, a slot armed, freed, moved.
use Rattle.std.specs.Prelude.{ℕ, List, ◌≡◌, set}
use Rattle.deque_rules.specs.Links.{link_back, removed, move_back}
use Rattle.wheel_rules.specs.Lent.{Nodes}
use Rattle.wheel_rules.specs.records.Records.{join, with_links}

-- the payload of the slot x: entry e, generation h, serial n
abbrev pub written : ℕ → ℕ → ℕ → ℕ → Nodes → Nodes
written x e h n N = join N.links (set N.entry x e) (set N.generation x h) (set N.serial x n)

-- the slot x, taken off the free chain, is armed at the back of the bucket b: all its fields are written
abbrev pub armed_in : ℕ → ℕ → ℕ → ℕ → ℕ → Nodes → Nodes
armed_in b x e h n N = with_links (link_back N.links b x) (written x e h n N)

-- the slot x is unlinked and freed: prev and bucket none; entry, generation and serial 0; next the former first free
-- slot f
abbrev pub freed_from : ℕ → ℕ → Nodes → Nodes
freed_from x f N = with_links (removed N.links f x) (written x 0 0 0 N)

-- the slot x is unlinked and linked at the back of the bucket b; its payload stays
abbrev pub moved_to : ℕ → ℕ → Nodes → Nodes
moved_to b x N = with_links (move_back N.links b x) N

-- the three writes of a payload
pub record Writes (e g s e' g' s' : List ℕ) (x i h n : ℕ) : Type 0 where
  pub entry_is : e' ≡ set e x i
  pub generation_is : g' ≡ set g x h
  pub serial_is : s' ≡ set s x n
