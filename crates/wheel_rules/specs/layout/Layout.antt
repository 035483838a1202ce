-- inner: the records as enabling lays them out.
use Rattle.std.specs.Prelude.{ℕ, zero, suc, ◌<◌, Bool, true, false, List, [], ◌≡◌, length, replicate}
use Rattle.deque_rules.specs.Layout.{Sizes}
use Rattle.deque_rules.specs.Links.{Links, Rep, Deques as Held, link_back, fresh}
use Rattle.deque_rules.specs.Lists.{all_free, push_back, taken as takenFree}
use Rattle.rules.specs.Calls.{act}
use Rattle.rules.specs.Places.{Geometry, buckets}
use Rattle.rules.specs.Wheel.{Wheel, enable}
use Rattle.wheel_rules.specs.Promise.{bare_entries}
use Rattle.wheel_rules.specs.Lent.{Nodes, Entries, records, Shows}
use Rattle.wheel_rules.specs.declared.calls.Clock.{Clock}
use Rattle.wheel_rules.specs.records.Clocks.{set_free, set_lengths, ended}
use Rattle.wheel_rules.specs.records.Records.{join}

-- ---- on the records
-- the sentinels below k are linked, each alone in its bucket
abbrev pub seated : ℕ → Links → Links
seated zero a = a
seated (suc k) a = link_back (seated k a) k k

-- D buckets over n slots: each sentinel alone in its bucket, the slots from D on free in ascending order
abbrev pub bare_links : ℕ → ℕ → Links
bare_links D n = seated D (fresh D n)

-- "sentinels placed, other slots free": all payload 0
abbrev pub bare_nodes : ℕ → ℕ → Nodes
bare_nodes D n = join (bare_links D n) (replicate n 0) (replicate n 0) (replicate n 0)

-- enabled, "no open advance", the lengths recorded, and the first free slot; reading and next serial stay
abbrev pub enabled_with : ℕ → ℕ → ℕ → Clock → Clock
enabled_with D m k c = set_lengths m k (set_free D (ended c))

-- ---- on the lists: the first k slots are taken, each for its bucket
abbrev pub seated_lists : ℕ → Held → Held
seated_lists zero v = v
seated_lists (suc k) v = push_back k k (takenFree (seated_lists k v))

-- ---- what is asked and done
pub record SeatReady (a : Links) : Type 0 where
  pub sizes : Sizes a
  pub room : length a.heads < length a.next

pub record Seats (a b : Links) : Type 0 where
  pub is : b ≡ bare_links (length a.heads) (length a.next)
  pub does : Rep b (seated_lists (length a.heads) (all_free (length a.heads) (length a.next))) []

pub record Clears (e g s e' g' s' : List ℕ) : Type 0 where
  pub entry_is : e' ≡ replicate (length e) 0
  pub generation_is : g' ≡ replicate (length e) 0
  pub serial_is : s' ≡ replicate (length e) 0

pub record ClearsEntries (t : List Bool) (d g : List ℕ) (t' : List Bool) (d' g' : List ℕ) : Type 0 where
  pub dated_is : t' ≡ replicate (length t) false
  pub deadline_is : d' ≡ replicate (length t) 0
  pub generation_is : g' ≡ replicate (length t) 0

-- the lent slices have the lengths of a wheel's records
pub record LayReady (g : Geometry) (N : Nodes) (E : Entries) : Type 0 where
  pub seat : SeatReady N.links
  pub heads_len : length N.links.heads ≡ buckets g
  pub entry_len : length N.entry ≡ length N.links.next
  pub generation_len : length N.generation ≡ length N.links.next
  pub serial_len : length N.serial ≡ length N.links.next
  pub deadline_len : length E.deadline ≡ length E.dated
  pub entries_generation_len : length E.generation ≡ length E.dated

-- "Enable"
pub record Lays (g : Geometry) (N : Nodes) (E : Entries) (c : Clock) (N' : Nodes) (E' : Entries) (c' : Clock) : Type 0 where
  pub nodes_are : N' ≡ bare_nodes (length N.links.heads) (length N.links.next)
  pub entries_are : E' ≡ bare_entries (length E.dated)
  pub clock_is : c' ≡ enabled_with (length N.links.heads) (length N.links.next) (length E.dated) c
  pub does :
      (w : Wheel) → c.reading ≡ w.reading → c.serial ≡ w.next →
      Shows g (records N' E' c') (act g w (enable (length N.links.next) (length E.dated) true)).1
