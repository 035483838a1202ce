-- The sentinels linked one after another, and the wheel that freshly laid out records show.
use Prim.Native.Nat.{ℕ, zero, suc, ◌+◌, ◌-◌, ◌≤◌, ◌<◌}
use native.Mathlib.Omega.{arith}
use native.Mathlib.Numerals.{add-one}
use mathlib.Core.Path.{◌≡◌, refl, sym, ap, subst, ◌∙◌}
use mathlib.Core.Logic.{inl, inr, ⊎_elim}
use mathlib.Core.Bool.{Bool, true, false}
use mathlib.Core.List.{List, [], ◌∷◌, ◌++◌}
use lib.ListN.{length, length-set, replicate, length-replicate, get_or-replicate}
use lib.Seq.{get_or-set_same, get_or-set_other}
use lib.Dec.{ltb}
use borrow.Author.Tests.{le-ltb}
use Rattle.deque_rules.specs.Links.{first, Links, links, Rep, home_of, deq, Deques as Held, link_back}
use Rattle.numbers.specs.Lists.{rest}
use Rattle.numbers.specs.Shared.{In, up_from, no_slot as nowhere}
use Rattle.deque_rules.specs.Lists.{all_free, push_back, taken}
use Rattle.deque_rules.specs.Change.{Pushable, PushesBack}
use Rattle.deque_rules.specs.Layout.{LaysOut}
use Rattle.rules.specs.Places.{Geometry, wheel01, buckets}
use Rattle.rules.specs.Wheel.{upwards, Wheel, enable}
use Rattle.rules.specs.Calls.{act}
use Rattle.numbers.proofs.Cases.{same?, not_both}
use Rattle.wheel_rules.specs.declared.calls.Clock.{Clock}
use Rattle.wheel_rules.specs.Lent.{Nodes, nodes, entries, records, Shows}
use Rattle.wheel_rules.specs.records.Records.{join}
use Rattle.wheel_rules.specs.records.Clocks.{set_free, set_lengths}
use Rattle.wheel_rules.specs.records.Moments.{EndsAdvance}
use Rattle.wheel_rules.specs.Promise.{bare_entries}
use Rattle.wheel_rules.specs.layout.Layout.{seated, enabled_with, seated_lists, SeatReady, Seats, Clears, ClearsEntries, LayReady, Lays}

-- ---- the lists
module _ (D n : ℕ) where
  abbrev Seen : ℕ → Held
  Seen k = seated_lists k (all_free D n)

  pub counts : (k : ℕ) → (Seen k).count ≡ D
  counts zero = refl
  counts (suc k) = counts k

  pub slots : (k : ℕ) → (Seen k).slots ≡ n
  slots zero = refl
  slots (suc k) = slots k

  held : (k : ℕ) → length (Seen k).held ≡ D
  held zero = length-replicate D []
  held (suc k) = length-set (Seen k).held k _ ∙ held k

  rest_up : (j i : ℕ) → 0 < j → rest (up_from j i) ≡ up_from (j - 1) (suc i)
  rest_up zero i h = absurd (omega arith)
  rest_up (suc j) i h = let e : suc j - 1 ≡ j = omega arith in rw e

  free_is : (k : ℕ) → k ≤ n → (Seen k).free ≡ up_from (n - k) k
  free_is zero h = let e : n - 0 ≡ n = omega arith in rw e
  free_is (suc k) h =
      let e : (n - k) - 1 ≡ n - suc k = omega arith in
      ap rest (free_is k (omega arith)) ∙ rest_up (n - k) k (omega arith) ∙ ap (λ (j : ℕ). up_from j (suc k)) e

  pub first_is : (k : ℕ) → k < n → (Seen k).free ≡ k ∷ rest (Seen k).free
  first_is k h = let f : (Seen k).free ≡ up_from (n - k) k = free_is k (omega arith) in rw f (go (n - k) (omega arith))
    where
      go : (j : ℕ) → 0 < j → up_from j k ≡ k ∷ rest (up_from j k)
      go zero i = absurd (omega arith)
      go (suc j) i = refl

  -- a bucket that has its sentinel, and one that is still empty
  seat_none : (k b : ℕ) → k ≤ b → b < D → deq (Seen k) b ≡ []
  seat_none zero b h i = get_or-replicate D b [] [] i
  seat_none (suc k) b h i = get_or-set_other (Seen k).held k b _ [] (λ e. omega arith) ∙ seat_none k b (omega arith) i

  seat_is : (k b : ℕ) → k ≤ D → b < k → deq (Seen k) b ≡ b ∷ []
  seat_is zero b h i = absurd (omega arith)
  seat_is (suc k) b h i =
      ⊎_elim
      (λ (e : b ≡ k).
      rw e (get_or-set_same (Seen k).held k _ [] (omega (arith, held k)) ∙ ap (λ (l : List ℕ). l ++ (k ∷ [])) (seat_none k k (omega arith) (omega arith))))
      (λ (ne : b ≡ k → ⊥). get_or-set_other (Seen k).held k b _ [] ne ∙ seat_is k b (omega arith) (omega (arith, ne)))
      (same? b k)

first_from : (k i : ℕ) → 0 < k → first (up_from k i) ≡ i
first_from zero i h = absurd (omega arith)
first_from (suc k) i h = refl

-- ---- the loop of `seat`
-- b sentinels are linked, and f is the first free slot
pub record Seating (D n : ℕ) (o a : Links) (f b : ℕ) : Type 0 where
  pub is : a ≡ seated b o
  pub free_is : f ≡ b
  pub rep : Rep a (seated_lists b (all_free D n)) []
  pub within : b ≤ D
  pub room : D < n
  pub heads_len : length a.heads ≡ length o.heads
  pub tails_len : length a.tails ≡ length o.tails
  pub next_len : length a.next ≡ length o.next
  pub prev_len : length a.prev ≡ length o.prev
  pub home_len : length a.home ≡ length o.home

pub seating_begins : (z a : Links) (r : ℕ) → SeatReady z → LaysOut z a r → Seating (length a.heads) (length a.next) a a r 0
seating_begins z a r y l =
    let p : length a.heads ≡ length z.heads = l.does.heads_len in
    let q : length a.next ≡ length z.next = l.does.next_len in
    record {
      is = refl;
      free_is = l.free_is ∙ first_from (length z.next) 0 (omega (arith, y.room));
      rep = subst (λ (k : ℕ). Rep a (all_free k (length a.next)) []) (sym p) (subst (λ (k : ℕ). Rep a (all_free (length z.heads) k) []) (sym q) l.does);
      within = omega arith;
      room = omega (arith, y.room);
      heads_len = refl;
      tails_len = refl;
      next_len = refl;
      prev_len = refl;
      home_len = refl;
    }

module _ (D n : ℕ) (o a : Links) (f b : ℕ) (s : Seating D n o a f b) (h : b < length a.heads) where
  below : b < D
  below = omega (arith, h, s.rep.heads_len, counts D n b)

  free_first : first (seated_lists b (all_free D n)).free ≡ f
  free_first = ap first (first_is D n b (omega (arith, below, s.room))) ∙ sym s.free_is

  pub seating_asks : Pushable a f b
  seating_asks =
      record {
        v = seated_lists b (all_free D n);
        rep = s.rep;
        free_is = free_first;
        slot = omega (arith, below, s.room, slots D n b, s.free_is);
        deque = omega (arith, below, counts D n b);
      }

  pub seating_again : (a' : Links) (r : ℕ) → PushesBack a a' f b r → Seating D n o a' r (b + 1)
  seating_again a' r l =
      let u = l.does (seated_lists b (all_free D n)) s.rep free_first in
      let q : Rep a' (seated_lists (suc b) (all_free D n)) [] = subst (λ (x : ℕ). Rep a' (push_back b x (taken (seated_lists b (all_free D n)))) []) s.free_is
      u.0 in
      record {
        is = rw add-one (l.is ∙ ap (λ (x : ℕ). link_back a b x) s.free_is ∙ ap (λ (x : Links). link_back x b b) s.is);
        free_is = sym u.1 ∙ ap first (first_is D n (suc b) (omega (arith, below, s.room))) ∙ sym (add-one b);
        rep = rw add-one q;
        within = omega (arith, below);
        room = s.room;
        heads_len = q.heads_len ∙ sym s.rep.heads_len ∙ s.heads_len;
        tails_len = q.tails_len ∙ sym s.rep.tails_len ∙ s.tails_len;
        next_len = q.next_len ∙ sym s.rep.next_len ∙ s.next_len;
        prev_len = q.prev_len ∙ sym s.rep.prev_len ∙ s.prev_len;
        home_len = q.home_len ∙ sym s.rep.home_len ∙ s.home_len;
      }

pub seating_ends : (z o a : Links) (r f b : ℕ) → LaysOut z o r → Seating (length o.heads) (length o.next) o a f b → length a.heads ≤ b → Seats z a
seating_ends z o a r f b l s h =
    let p : length o.heads ≡ length z.heads = l.does.heads_len in
    let q : length o.next ≡ length z.next = l.does.next_len in
    let e : b ≡ length z.heads = omega (arith, s.within, s.rep.heads_len, counts (length o.heads) (length o.next) b) in
    record {
      is = s.is ∙ ap (λ (k : ℕ). seated k o) e ∙ ap (seated (length z.heads)) l.is;
      does = subst (λ (k : ℕ). Rep a (seated_lists (length z.heads) (all_free k (length z.next))) []) p
          (subst (λ (k : ℕ). Rep a (seated_lists (length z.heads) (all_free (length o.heads) k)) []) q
          (subst (λ (k : ℕ). Rep a (seated_lists k (all_free (length o.heads) (length o.next))) []) e s.rep));
    }

-- ---- what the records show then
upwards_is : (a k : ℕ) → upwards a k ≡ up_from k a
upwards_is a zero = refl
upwards_is a (suc k) = ap (λ (l : List ℕ). a ∷ l) (upwards_is (suc a) k)

module _ (g : Geometry) (a : Links) (m k : ℕ) (c : Clock) (w : Wheel) (r : Rep a (seated_lists (buckets g) (all_free (buckets g) m)) []) (room : buckets g < m)
  where
    abbrev D : ℕ
    D = buckets g

    abbrev N : Nodes
    N = join a (replicate m 0) (replicate m 0) (replicate m 0)

    not_armed : (x : ℕ) → D ≤ x → x < m → ltb (home_of a x) D ≡ false
    not_armed x h i =
        ⊎_elim
        (λ (e : home_of a x ≡ nowhere). rw e (le-ltb nowhere D (omega (arith, r.few, counts D m D))))
        (λ (ne : home_of a x ≡ nowhere → ⊥).
        let u = r.homed x (omega (arith, slots D m D)) ne in
        let b : home_of a x < D = omega (arith, u.0, counts D m D) in
        absurd (alone (subst (λ (l : List ℕ). In x l) (seat_is D m D (home_of a x) (omega arith) b) u.1) b))
        (same? (home_of a x) nowhere)
      where
        alone : In x (home_of a x ∷ []) → home_of a x < D → ⊥
        alone (inl e) b = omega arith
        alone (inr e) b = e

    pub bare_shows : c.reading ≡ w.reading → c.serial ≡ w.next → Shows g (records N (bare_entries k) (enabled_with D m k c)) (act g w (enable m k true)).1
    bare_shows er es =
        record {
          lists = seated_lists D (all_free D m);
          rep = r;
          count = counts D m D;
          slots = slots D m D;
          bucket = λ b h. seat_is D m D b (omega arith) h;
          free = upwards_is D (m - D) ∙ sym (free_is D m D (omega arith));
          free_is = ap first (free_is D m D (omega arith)) ∙ first_from (m - D) D (omega arith);
          room = room;
          armed = λ x h i. sym (not_armed x h i);
          node = λ x h i e. absurd (not_both e);
          entry_len = length-replicate {A = ℕ} m 0;
          generation_len = length-replicate {A = ℕ} m 0;
          serial_len = length-replicate {A = ℕ} m 0;
          entry = λ e h. sym (rw (get_or-replicate k e false false h, get_or-replicate {A = ℕ} k e 0 0 h));
          dated_len = length-replicate k false;
          deadline_len = length-replicate {A = ℕ} k 0;
          entries_generation_len = length-replicate {A = ℕ} k 0;
          enabled = refl;
          is_enabled = refl;
          reading = er;
          next = es;
          nodes_len = refl;
          entries_len = refl;
          advance = refl;
        }

-- ---- lay_out
joined : {a a' : Links} {e e' h h' n n' : List ℕ} → a ≡ a' → e ≡ e' → h ≡ h' → n ≡ n' → join a e h n ≡ join a' e' h' n'
joined p q r s = rw (p, q, r, s) refl

pub laid : (h t n p o e γ s h' t' n' p' o' e' γ' s' : List ℕ) (td : List Bool) (dd gd : List ℕ) (td' : List Bool) (dd' gd' : List ℕ) (c c' : Clock)
    → LayReady wheel01 (nodes h t n p o e γ s) (entries td dd gd) → c' ≡ enabled_with (length h) (length n) (length td) c
    → Seats (links h t n p o) (links h' t' n' p' o') → Clears e γ s e' γ' s' → ClearsEntries td dd gd td' dd' gd'
    → Lays wheel01 (nodes h t n p o e γ s) (entries td dd gd) c (nodes h' t' n' p' o' e' γ' s') (entries td' dd' gd') c'
laid h t n p o e γ s h' t' n' p' o' e' γ' s' td dd gd td' dd' gd' c c' y ec b cl ce =
    let D : ℕ = buckets wheel01 in
    let m : ℕ = length n in
    let k : ℕ = length td in
    let z : nodes h' t' n' p' o' e' γ' s' ≡ join (links h' t' n' p' o') (replicate m 0) (replicate m 0) (replicate m 0) =
    joined refl (cl.entry_is ∙ ap (λ (i : ℕ). replicate i 0) y.entry_len) (cl.generation_is ∙ ap (λ (i : ℕ). replicate i 0) y.entry_len)
    (cl.serial_is ∙ ap (λ (i : ℕ). replicate i 0) y.entry_len) in
    let u : entries td' dd' gd' ≡ bare_entries k = rw (ce.dated_is, ce.deadline_is, ce.generation_is) refl in
    record {
      nodes_are = z ∙ joined b.is refl refl refl;
      entries_are = u;
      clock_is = ec;
      does = λ w er es.
          rw (z, u, ec)
          (rw y.heads_len
          (bare_shows wheel01 (links h' t' n' p' o') m k c w (rw y.heads_len at b.does) (omega (arith, y.seat.room, y.heads_len)) er es));
    }

pub enabled_is : (c e : Clock) (D m k : ℕ) → EndsAdvance wheel01 c e → set_lengths m k (set_free D e) ≡ enabled_with D m k c
enabled_is c e D m k z = ap (λ (x : Clock). set_lengths m k (set_free D x)) z.is

pub entries_sized : (N : Nodes) (t : List Bool) (d s : List ℕ) → LayReady wheel01 N (entries t d s) → (length d ≡ length t) × (length s ≡ length t)
entries_sized N t d s y = (y.deadline_len, y.entries_generation_len)
