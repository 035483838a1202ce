-- The node that waits is popped: freed, handed out, or placed anew.
use Prim.Native.Nat.{ℕ, suc, ◌≤◌, ◌<◌}
use native.Mathlib.Omega.{arith}
use mathlib.Core.Path.{◌≡◌, refl, sym, ap, subst, ◌∙◌}
use mathlib.Core.Bool.{Bool, true, false, cond}
use mathlib.Core.Option.{Option, none, some}
use mathlib.Core.List.{List}
use lib.ListN.{length, get_or, set, length-set}
use borrow.Author.Tests.{ltb-true, le-leb, lt-leb}
use Rattle.deque_rules.specs.Links.{Links, home_of}
use Rattle.deque_rules.proofs.Laws.{home_removed}
use Rattle.rules.specs.Places.{Geometry, wheel01, buckets, bucket_of, place_of}
use Rattle.rules.specs.Wheel.{Slot as Node, Lists, placed_in, unlink, link, release, pop, Entry, Advance, within, Wheel, Answer, expired, rescheduled}
use Rattle.rules.specs.Calls.{AfterPull as Pulled, pulled, with_lists, rearmed}
use Rattle.rules.specs.Sound.{Sound}
use Rattle.numbers.proofs.Cases.{not_both}
use Rattle.wheel_rules.specs.declared.place.Place.{Place}
use Rattle.wheel_rules.specs.place.Promises.{Found}
use Rattle.wheel_rules.specs.declared.calls.Clock.{Clock}
use Rattle.wheel_rules.specs.Lent.{Nodes, Entries, entries, records, node_at, Shows}
use Rattle.wheel_rules.specs.records.Records.{with_links}
use Rattle.wheel_rules.specs.records.Counts.{armed_among}
use Rattle.numbers.specs.Shared.{no_slot as nowhere}
use Rattle.wheel_rules.proofs.popping.Fewer.{fewer}
use Rattle.wheel_rules.specs.timers.Timers.{SlotReady, MoveReady, Disarms, Rearms}
use Rattle.wheel_rules.specs.declared.calls.Event.TheVariants.{Expired, Rescheduled}
use Rattle.wheel_rules.specs.popping.Pop.{left, goes, stops, PopReady, Pops}
use Rattle.wheel_rules.proofs.popping.Turning.{after, turn_skip, turn_expire, turn_move, popped_armed, unlink_pop, freed_sound}
use Rattle.wheel_rules.proofs.popping.Waiting.{Fronted, to_front}

module _ (N : Nodes) (t : List Bool) (d : List ℕ) (c : Clock) (x : ℕ) (y : PopReady wheel01 N t d c x) where
  abbrev g : Geometry
  g = wheel01

  abbrev D : ℕ
  D = buckets wheel01

  abbrev e : ℕ
  e = get_or N.entry x 0

  abbrev n : ℕ
  n = get_or N.serial x 0

  -- what is known of x in any wheel that the records show
  module _ (ages : List ℕ) (w : Wheel) (s : Shows wheel01 (records N (entries t d ages) c) w) (o : Sound wheel01 w) where
    abbrev E : Entries
    E = entries t d ages

    found : Fronted wheel01 N E c w s o y.turn.opened x
    found = to_front wheel01 N E c w s o y.turn.opened x y.front y.slot

    alive : (w.lists.node x).armed ≡ true
    alive = popped_armed D w.nodes w.entries w.next found.b x found.xs w.lists o.lists found.early

    past : D ≤ x
    past = (o.lists.slot x alive).0

    there : x < w.nodes
    there = (o.lists.slot x alive).1

    node_is : w.lists.node x ≡ node_at D N x
    node_is = s.node x past there alive

    homed : home_of N.links x < D
    homed = ltb-true (home_of N.links x) D (sym (s.armed x past there) ∙ alive)

    entry_is : (w.lists.node x).entry ≡ e
    entry_is = ap (λ (v : Node). v.entry) node_is

    serial_is : (w.lists.node x).serial ≡ n
    serial_is = ap (λ (v : Node). v.serial) node_is

    exists : e < w.entries
    exists = omega (arith, entry_is, o.lists.entry x alive)

    due_is : (w.entry (w.lists.node x).entry).deadline ≡ cond (get_or t e false) (some (get_or d e 0)) none
    due_is = ap (λ (k : ℕ). (w.entry k).deadline) entry_is ∙ ap (λ (v : Entry). v.deadline) (s.entry e exists)

    -- the rest of the pull, from the popped lists
    abbrev M : Lists
    M = unlink x w.lists

    pops_is : M ≡ pop found.b found.xs w.lists
    pops_is = unlink_pop D w.nodes w.entries w.next found.b x found.xs w.lists o.lists found.early

    abbrev pulled_from : Advance → Lists → Pulled
    pulled_from A L = pulled wheel01 w.entry w.reading A L

    at_skip : get_or t e false ≡ false → pulled_from w.advance (release x M) ≡ pulled_from w.advance w.lists
    at_skip h =
        subst (λ (A : Advance). pulled_from A (release x M) ≡ pulled_from A w.lists) (sym found.is)
        (ap (λ (L : Lists). pulled_from (within c.previous found.b found.bs) (release x L)) pops_is
        ∙ turn_skip wheel01 w.entry c.previous w.reading found.b found.bs w.lists x found.xs found.early
        (due_is ∙ ap (λ (b : Bool). cond b (some (get_or d e 0)) none) h))

    at_some : get_or t e false ≡ true → (w.entry (w.lists.node x).entry).deadline ≡ some (get_or d e 0)
    at_some h = due_is ∙ ap (λ (b : Bool). cond b (some (get_or d e 0)) none) h

    at_expire : get_or t e false ≡ true → get_or d e 0 ≤ c.reading
        → pulled_from w.advance w.lists ≡ record { answer = expired e n (get_or d e 0); advance = w.advance; lists = release x M }
    at_expire h k =
        let A : Advance = within c.previous found.b found.bs in
        ap (λ (B : Advance). pulled_from B w.lists) found.is
        ∙ turn_expire wheel01 w.entry c.previous w.reading found.b found.bs w.lists x found.xs found.early (get_or d e 0) (at_some h)
        (omega (arith, k, s.reading))
        ∙ same (ap (λ (i : ℕ). expired i (w.lists.node x).serial (get_or d e 0)) entry_is ∙ ap (λ (i : ℕ). expired e i (get_or d e 0)) serial_is)
        (sym found.is) (ap (release x) (sym pops_is))
      where
        same : {a a' : Answer} {A A' : Advance} {L L' : Lists} → a ≡ a' → A ≡ A' → L ≡ L'
            → ◌≡◌ {A = Pulled} (record { answer = a; advance = A; lists = L }) (record { answer = a'; advance = A'; lists = L' })
        same p q r = rw (p, q, r) refl

    at_move : get_or t e false ≡ true → c.reading < get_or d e 0
        → pulled_from w.advance w.lists
        ≡ record {
          answer = rescheduled e n (place_of wheel01 c.reading (get_or d e 0));
          advance = w.advance;
          lists = link (bucket_of wheel01 w.reading (get_or d e 0)) x (placed_in (bucket_of wheel01 w.reading (get_or d e 0)) (w.lists.node x)) M;
        }
    at_move h k =
        let b : ℕ = bucket_of wheel01 w.reading (get_or d e 0) in
        ap (λ (B : Advance). pulled_from B w.lists) found.is
        ∙ turn_move wheel01 w.entry c.previous w.reading found.b found.bs w.lists x found.xs found.early (get_or d e 0) (at_some h)
        (omega (arith, k, s.reading))
        ∙ same
        (ap (λ (i : ℕ). rescheduled i (w.lists.node x).serial (place_of wheel01 w.reading (get_or d e 0))) entry_is
        ∙ ap (λ (i : ℕ). rescheduled e i (place_of wheel01 w.reading (get_or d e 0))) serial_is
        ∙ ap (λ (i : ℕ). rescheduled e n (place_of wheel01 i (get_or d e 0))) (sym s.reading))
        (sym found.is) (ap (λ (L : Lists). link b x (placed_in b (w.lists.node x)) L) (sym pops_is))
      where
        same : {a a' : Answer} {A A' : Advance} {L L' : Lists} → a ≡ a' → A ≡ A' → L ≡ L'
            → ◌≡◌ {A = Pulled} (record { answer = a; advance = A; lists = L }) (record { answer = a'; advance = A'; lists = L' })
        same p q r = rw (p, q, r) refl

  abbrev w₀ : Wheel
  w₀ = y.turn.ready.w

  -- ---- what is asked
  pub pop_slot : SlotReady wheel01 N c x
  pop_slot =
      let s = y.turn.ready.shows in
      let o = y.turn.ready.sound in
      record {
        E = entries t d y.turn.ages;
        ready = y.turn.ready;
        after = omega (arith, past y.turn.ages w₀ s o, s.rep.heads_len, s.count);
        slot = y.slot;
        armed = omega (arith, homed y.turn.ages w₀ s o, s.rep.heads_len, s.count);
      }

  pub pop_move : MoveReady wheel01 N.links c.reading x
  pop_move = record { e = N.entry; h = N.generation; n = N.serial; c = c; at = refl; ready = pop_slot }

  pub pop_dated : get_or N.entry x 0 < length t
  pop_dated =
      let s = y.turn.ready.shows in
      omega (arith, exists y.turn.ages w₀ s y.turn.ready.sound, s.dated_len)

  pub pop_deadline : get_or N.entry x 0 < length d
  pop_deadline =
      let s = y.turn.ready.shows in
      omega (arith, exists y.turn.ages w₀ s y.turn.ready.sound, s.deadline_len)

  -- ---- what is done
  pub pop_skips : (N' : Nodes) (k : Clock) → get_or t (get_or N.entry x 0) false ≡ false → Disarms wheel01 N c N' k x → Pops wheel01 N t d c x N' (goes k)
  pop_skips N' k h z =
      record {
        is = rw h z.is;
        turn_is = rw h (ap goes z.clock_is);
        nears = record {
          less = λ i.
              let s = y.turn.ready.shows in
              let o = y.turn.ready.sound in
              let eh : N'.links.home ≡ set N.links.home x nowhere = ap (λ (M : Nodes). M.links.home) z.is ∙ home_removed N.links c.free x in
              let hl : length N.links.home ≡ w₀.nodes = s.rep.home_len ∙ s.slots in
              let q : armed_among D N.links.home (length N.links.home) ≡ suc (armed_among D (set N.links.home x nowhere) (length N.links.home)) =
              fewer D N.links.home x nowhere (past y.turn.ages w₀ s o) (homed y.turn.ages w₀ s o) (omega (arith, s.rep.few, s.count))
              (omega (arith, hl, there y.turn.ages w₀ s o)) in
              let u : armed_among D N'.links.home (length N'.links.home) ≡ armed_among D (set N.links.home x nowhere) (length N.links.home) =
              ap (λ (l : List ℕ). armed_among D l (length l)) eh ∙ ap (armed_among D (set N.links.home x nowhere)) (length-set N.links.home x nowhere) in
              let v : left wheel01 N'.links.home k ≡ left wheel01 N'.links.home c = ap (λ (j : Clock). left wheel01 N'.links.home j) z.clock_is
              in
              omega (arith, q, u, v);
          opened = λ i. ap (λ (j : Clock). j.open) z.clock_is ∙ y.turn.opened;
        };
        does = λ ages w s o.
            record {
              on = λ i. (
                with_lists (release x (unlink x w.lists)) w,
                z.does (entries t d ages) w s o 0 0,
                record {
                  lists = freed_sound D w.nodes w.entries w.next (found ages w s o).b x (found ages w s o).xs w.lists o.lists
                      (found ages w s o).early;
                  advance = o.advance;
                },
                ap (after w) (at_skip ages w s o h),
              );
              stop = λ i. absurd (not_both (sym i));
            };
      }

  pub pop_fires : (N' : Nodes) (k : Clock) → get_or t (get_or N.entry x 0) false ≡ true → get_or d (get_or N.entry x 0) 0 ≤ c.reading → Disarms wheel01 N c N' k
      x
      → Pops wheel01 N t d c x N' (stops k (Expired (get_or N.entry x 0) (get_or N.serial x 0) (get_or d (get_or N.entry x 0) 0)))
  pop_fires N' k h l z =
      record {
        is = rw (h, le-leb (get_or d e 0) c.reading l) z.is;
        turn_is = rw (h, le-leb (get_or d e 0) c.reading l) (ap (λ (i : Clock). stops i (Expired e n (get_or d e 0))) z.clock_is);
        nears = record { less = λ i. absurd (not_both i); opened = λ i. absurd (not_both i) };
        does = λ ages w s o.
            record {
              on = λ i. absurd (not_both i);
              stop = λ i.
                  subst (λ (m : Answer × Wheel). (m.0 ≡ expired e n (get_or d e 0)) × Shows wheel01 (records N' (entries t d ages) k) m.1)
                  (sym (ap (after w) (at_expire ages w s o h l)))
                  (refl, z.does (entries t d ages) w s o 0 0);
            };
      }

  pub pop_moves : (a' : Links) (to : Place) → get_or t (get_or N.entry x 0) false ≡ true → c.reading < get_or d (get_or N.entry x 0) 0
      → Found c.reading (get_or d (get_or N.entry x 0) 0) to → Rearms wheel01 N.links a' c.reading x (get_or d (get_or N.entry x 0) 0)
      → Pops wheel01 N t d c x (with_links a' N) (stops c (Rescheduled (get_or N.entry x 0) (get_or N.serial x 0) to.number))
  pop_moves a' to h l f z =
      record {
        is = rw (h, lt-leb (get_or d e 0) c.reading l) (ap (λ (i : Links). with_links i N) z.is);
        turn_is = rw (h, lt-leb (get_or d e 0) c.reading l) (ap (λ (i : ℕ). stops c (Rescheduled e n i)) f.number);
        nears = record { less = λ i. absurd (not_both i); opened = λ i. absurd (not_both i) };
        does = λ ages w s o.
            let u = z.does N.entry N.generation N.serial (entries t d ages) c w s o refl (at_some ages w s o h) 0 0 in
            let v : Shows wheel01 (records (with_links a' N) (entries t d ages) c) (rearmed wheel01 w x (some (get_or d e 0))).1 =
            subst (λ (m : Option ℕ). Shows wheel01 (records (with_links a' N) (entries t d ages) c) (rearmed wheel01 w x m).1) (at_some ages w s o h) u.1 in
            record {
              on = λ i. absurd (not_both i);
              stop = λ i.
                  subst (λ (m : Answer × Wheel). (m.0 ≡ rescheduled e n to.number) × Shows wheel01 (records (with_links a' N) (entries t d ages) c) m.1)
                  (sym (ap (after w) (at_move ages w s o h l)))
                  (ap (rescheduled e n) (sym f.number), v);
            };
      }
