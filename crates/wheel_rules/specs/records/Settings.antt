-- inner: an entry set.
use Rattle.std.specs.Prelude.{ℕ, ◌<◌, Bool, cond, ◌≡◌, length, set}
use Rattle.std.proofs.Math.Option.{none, some}
use Rattle.rules.specs.Calls.{act}
use Rattle.rules.specs.Places.{Geometry}
use Rattle.rules.specs.Wheel.{Wheel, set_entry}
use Rattle.wheel_rules.specs.Lent.{Nodes, Entries, entries, records, Shows}
use Rattle.wheel_rules.specs.declared.calls.Clock.{Clock}

-- the entry e: whether it has a deadline, which, and its generation
abbrev pub settled : ℕ → Bool → ℕ → ℕ → Entries → Entries
settled e t d h E = entries (set E.dated e t) (set E.deadline e d) (set E.generation e h)

pub record EntryReady (E : Entries) (e : ℕ) : Type 0 where
  pub dated : e < length E.dated
  pub deadline : e < length E.deadline
  pub generation : e < length E.generation

-- "Set entry: deadline or none, and generation, as given"
pub record Sets (g : Geometry) (E E' : Entries) (e : ℕ) (t : Bool) (d h : ℕ) : Type 0 where
  pub is : E' ≡ settled e t d h E
  pub does :
      (N : Nodes) (c : Clock) (w : Wheel) → Shows g (records N E c) w → Shows g (records N E' c) (act g w (set_entry e (cond t (some d) none) h)).1
