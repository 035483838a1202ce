-- inner: the clock record with some of its fields changed. All fields are listed here, and in the clock that create
-- makes
-- (specs/calls/Work.antt).
use Rattle.std.specs.Prelude.{ℕ, ◌+◌, Bool, true, false}
use Rattle.wheel_rules.specs.declared.calls.Clock.{Clock}

-- the first free slot is f
abbrev pub set_free : ℕ → Clock → Clock
set_free f c = record {
  enabled = c.enabled;
  reading = c.reading;
  serial = c.serial;
  «open» = c.open;
  previous = c.previous;
  level = c.level;
  step = c.step;
  free = f;
  nodes = c.nodes;
  entries = c.entries;
}

-- the next serial is n
abbrev pub set_serial : ℕ → Clock → Clock
set_serial n c = record {
  enabled = c.enabled;
  reading = c.reading;
  serial = n;
  «open» = c.open;
  previous = c.previous;
  level = c.level;
  step = c.step;
  free = c.free;
  nodes = c.nodes;
  entries = c.entries;
}

-- the reading is q
abbrev pub set_reading : ℕ → Clock → Clock
set_reading q c = record {
  enabled = c.enabled;
  reading = q;
  serial = c.serial;
  «open» = c.open;
  previous = c.previous;
  level = c.level;
  step = c.step;
  free = c.free;
  nodes = c.nodes;
  entries = c.entries;
}

-- whether an advance is open, the reading that it started from, and its position
abbrev pub set_advance : Bool → ℕ → ℕ → ℕ → Clock → Clock
set_advance o p l j c = record {
  enabled = c.enabled;
  reading = c.reading;
  serial = c.serial;
  «open» = o;
  previous = p;
  level = l;
  step = j;
  free = c.free;
  nodes = c.nodes;
  entries = c.entries;
}

-- enabled, with the lent lengths
abbrev pub set_lengths : ℕ → ℕ → Clock → Clock
set_lengths m k c = record {
  enabled = true;
  reading = c.reading;
  serial = c.serial;
  «open» = c.open;
  previous = c.previous;
  level = c.level;
  step = c.step;
  free = c.free;
  nodes = m;
  entries = k;
}

-- ---- what the calls do to the clock
-- "Start(q): the reading becomes q, the old one p is kept." It stands before the first bucket
abbrev pub started : ℕ → Clock → Clock
started q c = set_reading q (set_advance true c.reading 0 0 c)

-- "End, which closes the advance and keeps q"
abbrev pub ended : Clock → Clock
ended c = set_advance false 0 0 0 c

-- "Abandon: closes and restores p"
abbrev pub abandoned : Clock → Clock
abandoned c = set_reading c.previous (ended c)

-- the advance stands in the j-th bucket of the level l
abbrev pub standing : ℕ → ℕ → Clock → Clock
standing l j c = set_advance c.open c.previous l j c

-- "Serials count up by one per arming": one more, and the first free slot is f
abbrev pub counted : ℕ → Clock → Clock
counted f c = set_free f (set_serial (c.serial + 1) c)
