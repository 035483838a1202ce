-- Start, end and abandon on the clock are the rules' on the wheel that it shows.
use Prim.Native.Nat.{ℕ}
use mathlib.Core.Path.{◌≡◌, refl, sym, ap, ◌∙◌}
use mathlib.Core.Bool.{Bool, true, false}
use Rattle.rules.specs.Places.{Geometry, visits}
use Rattle.rules.specs.Wheel.{Advance, closed, poised, within, Wheel}
use Rattle.rules.specs.Calls.{with_clock, origin}
use Rattle.numbers.proofs.Cases.{not_both}
use Rattle.wheel_rules.specs.declared.calls.Clock.{Clock}
use Rattle.wheel_rules.specs.Lent.{Nodes, Entries, records, ShowsAdvance, Shows}
use Rattle.wheel_rules.specs.records.Clocks.{set_reading, set_advance, started, ended}
use Rattle.wheel_rules.specs.records.Moments.{Starts, EndsAdvance, Abandons}

-- another reading and another advance, shown by the clock
pub retimed : (g : Geometry) (N : Nodes) (E : Entries) (c : Clock) (w : Wheel) (o : Bool) (p l j q r : ℕ) (A : Advance) → Shows g (records N E c) w → q ≡ r
    → ShowsAdvance g (set_reading q (set_advance o p l j c)) A → Shows g (records N E (set_reading q (set_advance o p l j c))) (with_clock r A w)
retimed g N E c w o p l j q r A s e a =
    record {
      lists = s.lists;
      rep = s.rep;
      count = s.count;
      slots = s.slots;
      bucket = s.bucket;
      free = s.free;
      free_is = s.free_is;
      room = s.room;
      armed = s.armed;
      node = s.node;
      entry_len = s.entry_len;
      generation_len = s.generation_len;
      serial_len = s.serial_len;
      entry = s.entry;
      dated_len = s.dated_len;
      deadline_len = s.deadline_len;
      entries_generation_len = s.entries_generation_len;
      enabled = s.enabled;
      is_enabled = s.is_enabled;
      reading = e;
      next = s.next;
      nodes_len = s.nodes_len;
      entries_len = s.entries_len;
      advance = a;
    }

pub start_does : (g : Geometry) (c : Clock) (q : ℕ) → Starts g c (started q c) q
start_does g c q =
    record {
      is = refl;
      does = λ N E w s.
          retimed g N E c w true c.reading 0 0 q q (poised w.reading (visits g w.reading q)) s refl
          (refl, s.reading, refl, refl, refl);
    }

pub end_does : (g : Geometry) (c : Clock) → EndsAdvance g c (ended c)
end_does g c = record { is = refl; does = λ N E w s. retimed g N E c w false 0 0 0 c.reading w.reading closed s s.reading refl }

-- the reading that an open advance started from stands in the clock
origin_is : (g : Geometry) (c : Clock) (r : ℕ) (A : Advance) → ShowsAdvance g c A → c.open ≡ true → c.previous ≡ origin A r
origin_is g c r closed a o = absurd (not_both (sym a ∙ o))
origin_is g c r (poised p bs) a o = a.1
origin_is g c r (within p b bs) a o = a.2

pub abandon_does : (g : Geometry) (c e : Clock) → EndsAdvance g c e → Abandons g c (set_reading c.previous e)
abandon_does g c e k =
    record {
      is = ap (set_reading c.previous) k.is;
      does = λ N E w s o.
          rw k.is (retimed g N E c w false 0 0 0 c.previous (origin w.advance w.reading) closed s
          (origin_is g c w.reading w.advance s.advance o) refl);
    }
