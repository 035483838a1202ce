-- inner: six columns of numbers, which lent nodes are read into and stored back from, a field in each: "The node
-- records are lent as one array of 166 to 4,096 records". Lent nodes that are more than fit go neither way.
use Rattle.std.specs.Prelude.{ℕ, ◌≤◌, ◌<◌, List, ◌≡◌, length, take}
use Rattle.face_rules.specs.Face.{next_slots, prev_slots, bucket_numbers, entry_numbers, generations, serials}
use Rattle.face_rules.specs.declared.Node.{Node}

pub record Columns : Type 0 where
  pub next : List ℕ
  pub prev : List ℕ
  pub bucket : List ℕ
  pub entry : List ℕ
  pub generation : List ℕ
  pub serial : List ℕ

abbrev pub columns : List ℕ → List ℕ → List ℕ → List ℕ → List ℕ → List ℕ → Columns
columns n p b e g s = record { next = n; prev = p; bucket = b; entry = e; generation = g; serial = s }

-- each column is one field of the nodes, in order
abbrev pub columns_of : List Node → Columns
columns_of ns = columns (next_slots ns) (prev_slots ns) (bucket_numbers ns) (entry_numbers ns) (generations ns) (serials ns)

-- the first n of each
abbrev pub front : ℕ → Columns → Columns
front n c = columns (take n c.next) (take n c.prev) (take n c.bucket) (take n c.entry) (take n c.generation) (take n c.serial)

-- there are m or more in each
pub record Holds (m : ℕ) (c : Columns) : Type 0 where
  pub next_has : m ≤ length c.next
  pub prev_has : m ≤ length c.prev
  pub bucket_has : m ≤ length c.bucket
  pub entry_has : m ≤ length c.entry
  pub generation_has : m ≤ length c.generation
  pub serial_has : m ≤ length c.serial

-- the columns begin with the fields of the lent nodes, where they fit; what lies after them is not asked
pub record Loads (ns : List Node) (c : Columns) : Type 0 where
  pub is : length ns ≤ 4096 → front (length ns) c ≡ columns_of ns

-- the lent nodes ns, after columns are stored back over them: their fields are those at the columns' front; or they
-- stay, where they do not fit
pub record Stores (ns : List Node) (c : Columns) (ns' : List Node) : Type 0 where
  pub fits : length ns ≤ 4096 → columns_of ns' ≡ front (length ns) c
  pub stays : 4096 < length ns → ns' ≡ ns
