-- An entry set in the records is set in the wheel that they show.
use Prim.Native.Nat.{ℕ}
use mathlib.Core.Path.{◌≡◌, refl, sym, subst, ◌∙◌}
use mathlib.Core.Logic.{⊎_elim}
use mathlib.Core.Bool.{Bool, false, cond}
use mathlib.Core.Option.{none, some}
use mathlib.Core.List.{List}
use lib.ListN.{set, length-set}
use lib.Seq.{get_or-set_same, get_or-set_other}
use borrow.Author.Tests.{eq-eqb, ne_eqb}
use Rattle.rules.specs.Places.{Geometry}
use Rattle.rules.specs.Wheel.{update, Entry}
use Rattle.numbers.proofs.Cases.{same?}
use Rattle.wheel_rules.specs.Lent.{Entries, entries, entry_at}
use Rattle.wheel_rules.specs.records.Settings.{EntryReady, Sets}

says : {t t' : Bool} {d d' h h' : ℕ} → t ≡ t' → d ≡ d' → h ≡ h'
    → ◌≡◌ {A = Entry} (record { deadline = cond t (some d) none; generation = h }) (record { deadline = cond t' (some d') none; generation = h' })
says p q r = rw (p, q, r) refl

module _ (g : Geometry) (T : List Bool) (D G : List ℕ) (e : ℕ) (t : Bool) (d h : ℕ) (y : EntryReady (entries T D G) e) where
  abbrev E : Entries
  E = entries T D G

  abbrev E' : Entries
  E' = entries (set T e t) (set D e d) (set G e h)

  abbrev v : Entry
  v = record { deadline = cond t (some d) none; generation = h }

  at : (f : ℕ → Entry) (i : ℕ) → f i ≡ entry_at E i → update f e v i ≡ entry_at E' i
  at f i k =
      ⊎_elim
      (λ (j : e ≡ i).
      simp (eq-eqb e i j)
      (subst (λ (m : ℕ). v ≡ entry_at E' m) j
      (sym (says (get_or-set_same T e t false y.dated) (get_or-set_same D e d 0 y.deadline) (get_or-set_same G e h 0 y.generation)))))
      (λ (j : e ≡ i → ⊥).
      simp (ne_eqb e i j)
      (k ∙ sym (says (get_or-set_other T e i t false (λ m. j (sym m))) (get_or-set_other D e i d 0 (λ m. j (sym m))) (get_or-set_other G e i h 0 (λ m. j (sym m))))))
      (same? e i)

  pub sets_does : Sets g E E' e t d h
  sets_does =
      record {
        is = refl;
        does = λ N c w s.
            record {
              lists = s.lists;
              rep = s.rep;
              count = s.count;
              slots = s.slots;
              bucket = s.bucket;
              free = s.free;
              free_is = s.free_is;
              room = s.room;
              armed = s.armed;
              node = s.node;
              entry_len = s.entry_len;
              generation_len = s.generation_len;
              serial_len = s.serial_len;
              entry = λ i l. at w.entry i (s.entry i l);
              dated_len = length-set T e t ∙ s.dated_len;
              deadline_len = length-set D e d ∙ s.deadline_len;
              entries_generation_len = length-set G e h ∙ s.entries_generation_len;
              enabled = s.enabled;
              is_enabled = s.is_enabled;
              reading = s.reading;
              next = s.next;
              nodes_len = s.nodes_len;
              entries_len = s.entries_len;
              advance = s.advance;
            };
      }
