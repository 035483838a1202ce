-- For the calls above: what the unchecked functions ask follows from sound records.
use Prim.Native.Nat.{ℕ, ◌≤◌, ◌<◌}
use native.Mathlib.Omega.{arith}
use mathlib.Core.Path.{◌≡◌, ◌∙◌}
use mathlib.Core.Bool.{true}
use lib.ListN.{length}
use borrow.Author.Tests.{lt-ltb}
use Rattle.deque_rules.specs.Links.{home_of}
use Rattle.rules.specs.Places.{Geometry, buckets}
use Rattle.rules.specs.Wheel.{Wheel}
use Rattle.rules.specs.Sound.{Sound}
use Rattle.wheel_rules.specs.declared.calls.Clock.{Clock}
use Rattle.wheel_rules.specs.Lent.{Nodes, Entries, records, Shows}
use Rattle.wheel_rules.specs.records.Settings.{EntryReady}

module _ (g : Geometry) (N : Nodes) (E : Entries) (c : Clock) (w : Wheel) (s : Shows g (records N E c) w) where
  -- lengths
  pub heads_are : length N.links.heads ≡ buckets g
  heads_are = s.rep.heads_len ∙ s.count

  pub slots_are : length N.links.next ≡ w.nodes
  slots_are = s.rep.next_len ∙ s.slots

  pub buckets_are : length N.links.home ≡ w.nodes
  buckets_are = s.rep.home_len ∙ s.slots

  -- set_entry
  pub entry_ready : (e : ℕ) → e < length E.dated → EntryReady E e
  entry_ready e h =
      record { dated = h; deadline = omega (arith, h, s.dated_len, s.deadline_len); generation = omega (arith, h, s.dated_len, s.entries_generation_len) }

  -- the entry of an armed slot, and what it holds
  module _ (o : Sound g w) (x : ℕ) (past : length N.links.heads ≤ x) (slot : x < length N.links.next)
      (armed : home_of N.links x < length N.links.heads) where
    pub is_armed : (w.lists.node x).armed ≡ true
    is_armed = s.armed x (omega (arith, heads_are)) (omega (arith, slots_are)) ∙ lt-ltb (home_of N.links x) (buckets g) (omega (arith, heads_are))
