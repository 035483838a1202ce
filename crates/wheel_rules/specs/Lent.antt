-- The lent records of a wheel, when they are sound (01, "Sound means"), and the wheel on lists that they show.
use Rattle.std.specs.Prelude.{ℕ, ◌≤◌, ◌<◌, suc, zero, Bool, true, false, cond, List, [], ◌⊎◌, ◌≡◌, ltb, length, get_or}
use Rattle.std.proofs.Math.Option.{none, some}
use Rattle.deque_rules.specs.Links.{Links, links, Whole, home_of, first, Deques, deq, Rep, listed}
use Rattle.numbers.specs.Shared.{no_slot, before_in, after_in}
use Rattle.rules.specs.Places.{Geometry, SoundPosition, buckets, visits, visited_at, bucket_at, ahead}
use Rattle.rules.specs.Wheel.{Slot, Entry, Advance, closed, poised, within, whole, Wheel, Bucket}
use Rattle.wheel_rules.specs.declared.calls.Clock.{Clock}

-- ======== the records

-- the node records, with the heads and tails of the buckets: `home` of the links is the slot's bucket
pub record Nodes : Type 0 where
  pub links : Links
  pub entry : List ℕ
  pub generation : List ℕ
  pub serial : List ℕ

abbrev pub nodes : List ℕ → List ℕ → List ℕ → List ℕ → List ℕ → List ℕ → List ℕ → List ℕ → Nodes
nodes h t n p b e g s = record { links = links h t n p b; entry = e; generation = g; serial = s }

-- "entries beside it (deadline or none, 32-bit generation)": whether there is a deadline, which, and the generation
pub record Entries : Type 0 where
  pub dated : List Bool
  pub deadline : List ℕ
  pub generation : List ℕ

abbrev pub entries : List Bool → List ℕ → List ℕ → Entries
entries t d g = record { dated = t; deadline = d; generation = g }

-- all of it
pub record Records : Type 0 where
  pub nodes : Nodes
  pub entries : Entries
  pub clock : Clock

abbrev pub records : Nodes → Entries → Clock → Records
records n e c = record { nodes = n; entries = e; clock = c }

-- the answer r is true exactly where P holds
pub record Decides (P : Type 0) (r : Bool) : Type 0 where
  pub sound : r ≡ true → P
  pub complete : P → r ≡ true

-- ======== sound

-- ---- slots
-- The kind of the slot x is read off its number and its bucket field b: below the total it is a sentinel, whose field
-- is its own number; from there on it is armed where the field names a bucket, and free where it is none. Any other
-- field is of no kind.
pub record KindAt (total x b : ℕ) : Type 0 where
  pub sentinel : x < total → b ≡ x
  pub other : total ≤ x → (b < total) ⊎ (b ≡ no_slot)

-- "each slot is a sentinel, armed or free, and just one of these"
pub record Kinds (total : ℕ) (bucket : List ℕ) : Type 0 where
  pub each : (x : ℕ) → x < length bucket → KindAt total x (get_or bucket x 0)

-- the slot x is armed
pub record Armed (total : ℕ) (bucket : List ℕ) (x : ℕ) : Type 0 where
  pub after : total ≤ x
  pub lent : x < length bucket
  pub names : get_or bucket x 0 < total

-- "armed entry numbers exist"
pub record EntriesExist (total entries : ℕ) (bucket entry : List ℕ) : Type 0 where
  pub each : (x : ℕ) → Armed total bucket x → get_or entry x 0 < entries

-- "armed serials .. lie below the next"
pub record SerialsBelow (total next : ℕ) (bucket serial : List ℕ) : Type 0 where
  pub each : (x : ℕ) → Armed total bucket x → get_or serial x 0 < next

-- "armed serials differ"
pub record SerialsDiffer (total : ℕ) (bucket serial : List ℕ) : Type 0 where
  pub each : (x y : ℕ) → Armed total bucket x → Armed total bucket y → get_or serial x 0 ≡ get_or serial y 0 → x ≡ y

-- ---- lengths
-- A length at enabling is in its range, "one array of 166 to 4,096 records, and 1 to 4,096 entries": a slot or more
-- beyond the sentinels, and an entry or more.
pub record Ranges (total nodes entries : ℕ) : Type 0 where
  pub room : total < nodes
  pub nodes_most : nodes ≤ 4096
  pub some : 0 < entries
  pub entries_most : entries ≤ 4096

-- "lengths are those at enabling": of the heads and tails
pub record EndsLengths (total heads tails : ℕ) : Type 0 where
  pub heads_len : heads ≡ total
  pub tails_len : tails ≡ total

-- of the node records
pub record NodesLengths (nodes next prev bucket entry generation serial : ℕ) : Type 0 where
  pub next_len : next ≡ nodes
  pub prev_len : prev ≡ nodes
  pub bucket_len : bucket ≡ nodes
  pub entry_len : entry ≡ nodes
  pub generation_len : generation ≡ nodes
  pub serial_len : serial ≡ nodes

-- of the entries
pub record EntriesLengths (entries dated deadline generation : ℕ) : Type 0 where
  pub dated_len : dated ≡ entries
  pub deadline_len : deadline ≡ entries
  pub generation_len : generation ≡ entries

pub record Lengths (total : ℕ) (R : Records) : Type 0 where
  pub ranges : Ranges total R.clock.nodes R.clock.entries
  pub ends : EndsLengths total (length R.nodes.links.heads) (length R.nodes.links.tails)
  pub nodes :
      NodesLengths R.clock.nodes (length R.nodes.links.next) (length R.nodes.links.prev) (length R.nodes.links.home)
      (length R.nodes.entry) (length R.nodes.generation) (length R.nodes.serial)
  pub entries :
      EntriesLengths R.clock.entries (length R.entries.dated) (length R.entries.deadline) (length R.entries.generation)

-- ---- the advance
-- "an open advance stands before its first bucket or in one that it visits": on a level that there is, at a position
-- that is sound there. Of a closed one nothing is asked.
pub record StandsAt (g : Geometry) (previous reading level step : ℕ) : Type 0 where
  pub known : level ≤ length g.sizes
  pub position : SoundPosition g previous reading level step

pub record AdvanceStands (g : Geometry) (c : Clock) : Type 0 where
  pub stands : c.open ≡ true → StandsAt g c.previous c.reading c.level c.step

-- the records of a wheel with `total` buckets
pub record SoundWith (g : Geometry) (total : ℕ) (R : Records) : Type 0 where
  -- "each slot is a sentinel, armed or free, and just one of these"
  pub kinds : Kinds total R.nodes.links.home
  -- "each bucket's links run from head to tail and back over its own sentinel and the armed slots naming that bucket;
  -- the free chain holds each free slot once": there are lists that the records stand for with no slot left over, where
  -- a slot names a bucket by its bucket field (so, by its kind, it is that bucket's sentinel or armed there) and is
  -- free where the field is none
  pub linked : Whole R.nodes.links R.clock.free
  -- "armed entry numbers exist"
  pub exist : EntriesExist total R.clock.entries R.nodes.links.home R.nodes.entry
  -- "armed serials differ and lie below the next"
  pub differ : SerialsDiffer total R.nodes.links.home R.nodes.serial
  pub below : SerialsBelow total R.clock.serial R.nodes.links.home R.nodes.serial
  -- "lengths are those at enabling"
  pub lengths : Lengths total R
  -- "an open advance stands before its first bucket or in one that it visits"
  pub advance : AdvanceStands g R.clock

-- the records of a wheel of this geometry
abbrev pub SoundRecords : Geometry → Records → Type 0
SoundRecords g R = SoundWith g (buckets g) R

-- ======== the wheel that records show

-- what the record of a slot after the sentinels says: it is armed where its bucket is one of the D buckets
abbrev pub node_at : ℕ → Nodes → ℕ → Slot
node_at D N x = record {
  armed = ltb (home_of N.links x) D;
  bucket = home_of N.links x;
  entry = get_or N.entry x 0;
  generation = get_or N.generation x 0;
  serial = get_or N.serial x 0;
}

-- what an entry says
abbrev pub entry_at : Entries → ℕ → Entry
entry_at E e = record {
  deadline = cond (get_or E.dated e false) (some (get_or E.deadline e 0)) none;
  generation = get_or E.generation e 0;
}

-- "any open advance": level and step of the clock stand for the buckets that the advance has yet to enter
abbrev pub ShowsAdvance : Geometry → Clock → Advance → Type 0
ShowsAdvance g c closed = c.open ≡ false
ShowsAdvance g c (poised p bs) =
    (c.open ≡ true) × (c.previous ≡ p) × (c.level ≡ 0) × (c.step ≡ 0) × (bs ≡ visits g p c.reading)
ShowsAdvance g c (within p b bs) =
    (i : ℕ) × (c.open ≡ true) × (c.previous ≡ p) × (c.step ≡ suc i) × (i < visited_at g p c.reading c.level) ×
    (b ≡ bucket_at g p c.level i) × (bs ≡ ahead g p c.reading c.level (suc i))

-- the records of an enabled wheel stand for the wheel w
pub record Shows (g : Geometry) (R : Records) (w : Wheel) : Type 0 where
  -- buckets and free chain: the bucket's slots with its sentinel among them, front to back
  pub lists : Deques
  pub rep : Rep R.nodes.links lists []
  pub count : lists.count ≡ buckets g
  pub slots : lists.slots ≡ w.nodes
  pub bucket : (b : ℕ) → b < buckets g → deq lists b ≡ whole b (w.lists.bucket b)
  pub free : w.lists.free ≡ lists.free
  pub free_is : first lists.free ≡ R.clock.free
  -- the slots after the sentinels: armed or free as the record says, and the other fields where it is armed
  pub room : buckets g < w.nodes
  pub armed : (x : ℕ) → buckets g ≤ x → x < w.nodes → (w.lists.node x).armed ≡ (node_at (buckets g) R.nodes x).armed
  pub node : (x : ℕ) → buckets g ≤ x → x < w.nodes → (w.lists.node x).armed ≡ true → w.lists.node x ≡ node_at (buckets g) R.nodes x
  pub entry_len : length R.nodes.entry ≡ w.nodes
  pub generation_len : length R.nodes.generation ≡ w.nodes
  pub serial_len : length R.nodes.serial ≡ w.nodes
  -- the entries
  pub entry : (e : ℕ) → e < w.entries → w.entry e ≡ entry_at R.entries e
  pub dated_len : length R.entries.dated ≡ w.entries
  pub deadline_len : length R.entries.deadline ≡ w.entries
  pub entries_generation_len : length R.entries.generation ≡ w.entries
  -- the clock
  pub enabled : w.enabled ≡ true
  pub is_enabled : R.clock.enabled ≡ true
  pub reading : R.clock.reading ≡ w.reading
  pub next : R.clock.serial ≡ w.next
  pub nodes_len : R.clock.nodes ≡ w.nodes
  pub entries_len : R.clock.entries ≡ w.entries
  pub advance : ShowsAdvance g R.clock w.advance

-- a bucket's list, parted at its sentinel b
abbrev pub parted : Deques → ℕ → Bucket
parted v b = record { early = before_in b (deq v b); late = after_in b (deq v b) }

-- what the record of a slot says; of a sentinel, or of a slot that is absent, nothing
abbrev pub unarmed : Slot
unarmed = record { armed = false; bucket = 0; entry = 0; generation = 0; serial = 0 }

abbrev pub node_of : ℕ → ℕ → Nodes → ℕ → Slot
node_of total nodes N x = cond (ltb x total) unarmed (cond (ltb x nodes) (node_at total N x) unarmed)

-- the position of an advance, as the buckets that it has yet to enter
abbrev pub within_at : Geometry → Clock → ℕ → Advance
within_at g c zero = poised c.previous (visits g c.previous c.reading)
within_at g c (suc i) = within c.previous (bucket_at g c.previous c.level i) (ahead g c.previous c.reading c.level (suc i))

abbrev pub advance_of : Geometry → Clock → Advance
advance_of g c = cond c.open (within_at g c c.step) closed

-- the wheel that sound records show, computed from them
abbrev pub wheel_of : Geometry → Records → Wheel
wheel_of g R =
    let v = listed R.nodes.links R.clock.free in
    record {
      enabled = R.clock.enabled;
      nodes = R.clock.nodes;
      entries = R.clock.entries;
      reading = R.clock.reading;
      next = R.clock.serial;
      advance = advance_of g R.clock;
      lists = record { bucket = parted v; free = v.free; node = node_of (buckets g) R.clock.nodes R.nodes };
      entry = entry_at R.entries;
    }

-- the lent lists as records, in the order in which every call takes them: heads, tails; next, prev, bucket, entry,
-- generation, serial; dated, deadline, stamp; clock
abbrev pub lent : List ℕ → List ℕ → List ℕ → List ℕ → List ℕ → List ℕ → List ℕ → List ℕ → List Bool → List ℕ → List ℕ → Clock → Records
lent h t n p b e g s d l m c = records (nodes h t n p b e g s) (entries d l m) c
