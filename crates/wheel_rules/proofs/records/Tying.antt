-- The records that show a wheel, taken apart into node records and the rest, and put together again.
use Prim.Native.Nat.{ℕ, ◌≤◌, ◌<◌}
use native.Mathlib.Omega.{arith}
use mathlib.Core.Path.{◌≡◌, ◌∙◌}
use mathlib.Core.Bool.{true}
use lib.ListN.{length}
use borrow.Author.Tests.{lt-ltb}
use Rattle.deque_rules.specs.Links.{first, home_of, Deques as Held}
use Rattle.rules.specs.Places.{Geometry, buckets}
use Rattle.rules.specs.Wheel.{Lists, Advance, closed, poised, within, Wheel}
use Rattle.rules.specs.Calls.{with_lists, with_next}
use Rattle.wheel_rules.specs.declared.calls.Clock.{Clock}
use Rattle.wheel_rules.specs.Lent.{Nodes, Entries, Records, records, ShowsAdvance, Shows}
use Rattle.wheel_rules.specs.records.Clocks.{set_free, set_serial}
use Rattle.wheel_rules.proofs.records.Showing.{Tied}

pub tied : (g : Geometry) (R : Records) (w : Wheel) (s : Shows g R w) → Tied (buckets g) w.nodes R.nodes s.lists w.lists
tied g R w s =
    record {
      rep = s.rep;
      count = s.count;
      slots = s.slots;
      bucket = s.bucket;
      free = s.free;
      room = s.room;
      armed = s.armed;
      node = s.node;
      entry_len = s.entry_len;
      generation_len = s.generation_len;
      serial_len = s.serial_len;
    }

-- first free slot and next serial are no part of an advance
kept_advance : (g : Geometry) (c : Clock) (f n : ℕ) (A : Advance) → ShowsAdvance g c A → ShowsAdvance g (set_free f (set_serial n c)) A
kept_advance g c f n closed a = a
kept_advance g c f n (poised p bs) a = a
kept_advance g c f n (within p b bs) a = a

-- other node records, with another first free slot and next serial
pub untied : (g : Geometry) (N N' : Nodes) (E : Entries) (c : Clock) (w : Wheel) (v : Held) (L : Lists) (f k n : ℕ) → Shows g (records N E c) w
    → Tied (buckets g) w.nodes N' v L → first v.free ≡ f → k ≡ n → Shows g (records N' E (set_free f (set_serial k c))) (with_next n (with_lists L w))
untied g N N' E c w v L f k n s t i e =
    record {
      lists = v;
      rep = t.rep;
      count = t.count;
      slots = t.slots;
      bucket = t.bucket;
      free = t.free;
      free_is = i;
      room = t.room;
      armed = t.armed;
      node = t.node;
      entry_len = t.entry_len;
      generation_len = t.generation_len;
      serial_len = t.serial_len;
      entry = s.entry;
      dated_len = s.dated_len;
      deadline_len = s.deadline_len;
      entries_generation_len = s.entries_generation_len;
      enabled = s.enabled;
      is_enabled = s.is_enabled;
      reading = s.reading;
      next = e;
      nodes_len = s.nodes_len;
      entries_len = s.entries_len;
      advance = kept_advance g c f k w.advance s.advance;
    }

-- other node records with the same clock
pub untied_nodes : (g : Geometry) (N N' : Nodes) (E : Entries) (c : Clock) (w : Wheel) (v : Held) (L : Lists) → Shows g (records N E c) w
    → Tied (buckets g) w.nodes N' v L → first v.free ≡ c.free → Shows g (records N' E c) (with_lists L w)
untied_nodes g N N' E c w v L s t i =
    record {
      lists = v;
      rep = t.rep;
      count = t.count;
      slots = t.slots;
      bucket = t.bucket;
      free = t.free;
      free_is = i;
      room = t.room;
      armed = t.armed;
      node = t.node;
      entry_len = t.entry_len;
      generation_len = t.generation_len;
      serial_len = t.serial_len;
      entry = s.entry;
      dated_len = s.dated_len;
      deadline_len = s.deadline_len;
      entries_generation_len = s.entries_generation_len;
      enabled = s.enabled;
      is_enabled = s.is_enabled;
      reading = s.reading;
      next = s.next;
      nodes_len = s.nodes_len;
      entries_len = s.entries_len;
      advance = s.advance;
    }

-- an armed slot of the records is armed in the wheel
module _ (g : Geometry) (N : Nodes) (E : Entries) (c : Clock) (w : Wheel) (s : Shows g (records N E c) w) (x : ℕ) where
  heads_are : length N.links.heads ≡ buckets g
  heads_are = s.rep.heads_len ∙ s.count

  pub slots_are : length N.links.next ≡ w.nodes
  slots_are = s.rep.next_len ∙ s.slots

  pub past : length N.links.heads ≤ x → buckets g ≤ x
  past h = omega (arith, heads_are)

  pub there : x < length N.links.next → x < w.nodes
  there h = omega (arith, slots_are)

  pub alive : length N.links.heads ≤ x → x < length N.links.next → home_of N.links x < length N.links.heads → (w.lists.node x).armed ≡ true
  alive h k a = s.armed x (past h) (there k) ∙ lt-ltb (home_of N.links x) (buckets g) (omega (arith, heads_are))
