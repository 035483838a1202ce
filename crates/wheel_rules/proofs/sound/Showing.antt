-- Sound records show a sound wheel on lists.
use Prim.Native.Nat.{ℕ, zero, suc, ◌+◌, ◌≤◌, ◌<◌}
use native.Mathlib.Omega.{arith}
use mathlib.Core.Path.{◌≡◌, refl, sym, ap, ◌∙◌}
use mathlib.Core.Logic.{⊎_elim}
use mathlib.Core.Bool.{Bool, true, false, cond, false≢true}
use mathlib.Core.List.{List, [], ◌∷◌, ◌++◌}
use lib.ListN.{length, get_or-eq_default}
use borrow.Author.Tests.{lt-ltb, le-ltb, ltb-true}
use Rattle.numbers.specs.Shared.{no_slot as none, In, Once, before_in as before, after_in as after}
use Rattle.deque_rules.specs.Links.{Links, Deques as Lists, Rep, deq, home_of, listed}
use Rattle.numbers.proofs.Members.{split}
use Rattle.deque_rules.proofs.Laws.{deq_once, whole_listed, in-home, home_in, free_once, free_home, home_free}
use Rattle.rules.specs.Places.{Geometry, buckets, SoundPosition}
use Rattle.rules.specs.Lists.{times}
use Rattle.rules.specs.Wheel.{Slot as Node, hit, count, Advance, closed, poised, within}
use Rattle.rules.specs.Sound.{spare, SoundLists, SoundAdvance, Sound}
use Rattle.numbers.proofs.Cases.{same?, below?}
use Rattle.rules.proofs.Counting.{hit_is, hit_not}
use Rattle.wheel_rules.specs.declared.calls.Clock.{Clock}
use Rattle.wheel_rules.specs.Lent.{Nodes, Records, node_at, ShowsAdvance, Shows, Armed, AdvanceStands, SoundRecords, parted, node_of, within_at}
use Rattle.wheel_rules.specs.Lent.{advance_of, wheel_of as shown}
use Rattle.wheel_rules.proofs.sound.Counted.{count_none, count_once, count_in, count_parted}

-- ---- the advance
shows_within : (g : Geometry) (c : Clock) → c.open ≡ true → SoundPosition g c.previous c.reading c.level c.step → (k : ℕ) → c.step ≡ k →
    ShowsAdvance g c (within_at g c k)
shows_within g c o p zero e =
    (o, refl, ⊎_elim (λ w. w.0) (λ w. absurd (omega (arith, w.0, e))) p, e, refl)
shows_within g c o p (suc i) e =
    (i, o, refl, e, ⊎_elim (λ w. absurd (omega (arith, w.1, e))) (λ w. omega (arith, w.1, e)) p, refl, refl)

pub shows_advance : (g : Geometry) (c : Clock) → AdvanceStands g c → ShowsAdvance g c (advance_of g c)
shows_advance g c s = go c.open refl
  where
    go : (o : Bool) → c.open ≡ o → ShowsAdvance g c (cond o (within_at g c c.step) closed)
    go true e = shows_within g c e (s.stands e).position c.step refl
    go false e = e

-- what a clock shows is sound
pub advance_sound : (g : Geometry) (c : Clock) (A : Advance) → ShowsAdvance g c A → SoundAdvance g c.reading A
advance_sound g c closed s = tt
advance_sound g c (poised p bs) s = s.4
advance_sound g c (within p b bs) s = (c.level, s.0, s.4, s.5, s.6)

-- ---- the nodes
module _ (D n : ℕ) (N : Nodes) where
  pub node_of_lem : (y : ℕ) → D ≤ y → y < n → node_of D n N y ≡ node_at D N y
  node_of_lem y h k = simp (le-ltb y D h, lt-ltb y n k)

  pub not_armed : (y : ℕ) → y < D → (node_of D n N y).armed ≡ false
  not_armed y h = simp (lt-ltb y D h)

  pub not_armed_either : (y : ℕ) → D ≤ y → n ≤ y → (node_of D n N y).armed ≡ false
  not_armed_either y h k = simp (le-ltb y D h, le-ltb y n k)

  pub armed_range : (y : ℕ) → (node_of D n N y).armed ≡ true → (D ≤ y) × (y < n)
  armed_range y e =
      ⊎_elim
      (λ (h : y < D). absurd (false≢true (sym (not_armed y h) ∙ e)))
      (λ (h : D ≤ y).
      ⊎_elim
      (λ (k : y < n). (h, k))
      (λ (k : n ≤ y). absurd (false≢true (sym (not_armed_either y h k) ∙ e)))
      (below? y n))
      (below? y D)

module _ (g : Geometry) (R : Records) (s : SoundRecords g R) where
  abbrev D : ℕ
  D = buckets g

  abbrev a : Links
  a = R.nodes.links

  abbrev c : Clock
  c = R.clock

  abbrev v : Lists
  v = listed R.nodes.links R.clock.free

  abbrev node : ℕ → Node
  node = node_of (buckets g) R.clock.nodes R.nodes

  rep : Rep a v []
  rep = (whole_listed a c.free s.linked).0

  count_is : v.count ≡ D
  count_is = s.lengths.ends.heads_len

  slots_is : v.slots ≡ c.nodes
  slots_is = s.lengths.nodes.next_len

  home_lent : (y : ℕ) → y < c.nodes → y < length a.home
  home_lent y h = omega (arith, h, s.lengths.nodes.bucket_len)

  -- a sentinel is in its own bucket
  own : (b : ℕ) → b < D → home_of a b ≡ b
  own b h = (s.kinds.each b (home_lent b (omega (arith, h, s.lengths.ranges.room)))).sentinel h

  in-own : (b : ℕ) → b < D → In b (deq v b)
  in-own b h =
      in-home a v [] rep b b (omega (arith, h, slots_is, s.lengths.ranges.room)) (omega (arith, h, count_is)) (own b h)

  once_at : (b : ℕ) → b < D → Once (deq v b)
  once_at b h = deq_once a v [] rep b (omega (arith, h, count_is))

  -- an armed node is an armed slot
  at_node : (y : ℕ) → (node y).armed ≡ true → node y ≡ node_at D R.nodes y
  at_node y e = node_of_lem D c.nodes R.nodes y (armed_range D c.nodes R.nodes y e).0 (armed_range D c.nodes R.nodes y e).1

  is_armed : (y : ℕ) → (node y).armed ≡ true → Armed D a.home y
  is_armed y e =
      let r = armed_range D c.nodes R.nodes y e in
      record {
        after = r.0;
        lent = home_lent y r.1;
        names = ltb-true (home_of a y) D (sym (ap (λ (w : Node). w.armed) (at_node y e)) ∙ e);
      }

  node_armed : (y : ℕ) → Armed D a.home y → (node y).armed ≡ true
  node_armed y h =
      ap (λ (w : Node). w.armed) (node_of_lem D c.nodes R.nodes y h.after (omega (arith, h.lent, s.lengths.nodes.bucket_len)))
      ∙ lt-ltb (home_of a y) D h.names

  -- ---- buckets
  whole_at : (b : ℕ) → b < D → deq v b ≡ before b (deq v b) ++ (b ∷ after b (deq v b))
  whole_at b h = split (deq v b) b (in-own b h)

  times_is : (y b : ℕ) → b < D → times y (parted v b) + hit y b ≡ count y (deq v b)
  times_is y b h = sym (ap (count y) (whole_at b h) ∙ count_parted y b (before b (deq v b)) (after b (deq v b)))

  no_bucket : (y b : ℕ) → D ≤ b → times y (parted v b) ≡ 0
  no_bucket y b h =
      let e : deq v b ≡ [] = get_or-eq_default v.held [] {n = b} (omega (arith, h, count_is, rep.held_len)) in
      ap (λ (xs : List ℕ). count y (before b xs) + count y (after b xs)) e

  stands : (y : ℕ) → (node y).armed ≡ true → (b : ℕ) → times y (parted v b) ≡ hit (node y).bucket b
  stands y e b =
      let m = is_armed y e in
      let i : (node y).bucket ≡ home_of a y = ap (λ (w : Node). w.bucket) (at_node y e) in
      ⊎_elim
      (λ (h : b < D).
      let q : hit y b ≡ 0 = hit_not y b (λ j. omega (arith, j, h, m.after)) in
      ⊎_elim
      (λ (j : home_of a y ≡ b).
      omega (
        arith,
        q,
        times_is y b h,
        hit_is (node y).bucket b (i ∙ j),
        count_once y (deq v b) (once_at b h) (in-home a v [] rep y b (omega (arith, (armed_range D c.nodes R.nodes y e).1, slots_is))
            (omega (arith, h, count_is)) j),
      ))
      (λ (j : home_of a y ≡ b → ⊥).
      omega (
        arith,
        q,
        times_is y b h,
        hit_not (node y).bucket b (λ k. j (sym i ∙ k)),
        count_none y (deq v b) (λ k. j (home_in a v [] rep y b (omega (arith, h, count_is)) k)),
      ))
      (same? (home_of a y) b))
      (λ (h : D ≤ b). omega (arith, no_bucket y b h, hit_not (node y).bucket b (λ k. omega (arith, k, i, m.names, h))))
      (below? b D)

  member : (b y : ℕ) → 0 < times y (parted v b) → (node y).armed ≡ true
  member b y h =
      ⊎_elim
      (λ (l : b < D).
      let lc : b < v.count = omega (arith, l, count_is) in
      let k : In y (deq v b) = count_in y (deq v b) (omega (arith, h, times_is y b l)) in
      let o : home_of a y ≡ b = home_in a v [] rep y b lc k in
      let n : y ≡ b → ⊥ = λ e. omega (arith, h, times_is y b l, count_once y (deq v b) (once_at b l) k, hit_is y b e) in
      let in-y : y < length a.home = omega (arith, (rep.member b y lc k).0, rep.home_len) in
      node_armed y
      (record {
        after = ⊎_elim (λ (i : y < D). absurd (n (sym (own y i) ∙ o))) (λ i. i) (below? y D);
        lent = in-y;
        names = omega (arith, o, l);
      }))
      (λ (l : D ≤ b). absurd (omega (arith, h, no_bucket y b l)))
      (below? b D)

  -- ---- the free chain
  not_spare : (y : ℕ) → (home_of a y ≡ none → ⊥) → count y v.free ≡ 0
  not_spare y n = count_none y v.free (λ m. n (free_home a v rep y m))

  in-free : (y : ℕ) → D ≤ y → y < c.nodes → (b : Bool) → (node y).armed ≡ b → count y v.free ≡ cond b 0 1
  in-free y h k true e =
      not_spare y (λ i. omega (arith, i, (is_armed y e).names, rep.few, count_is))
  in-free y h k false e =
      let j : home_of a y ≡ none =
      ⊎_elim
      (λ (i : home_of a y < D). absurd (false≢true (sym e ∙ node_armed y (record { after = h; lent = home_lent y k; names = i }))))
      (λ i. i)
      ((s.kinds.each y (home_lent y k)).other h)
      in
      count_once y v.free (free_once a v [] rep) (home_free a v rep y (omega (arith, k, slots_is)) j)

  free : (y : ℕ) → count y v.free ≡ spare D c.nodes node y
  free y =
      ⊎_elim
      (λ (h : y < D).
      rw (lt-ltb y D h)
      (not_spare y (λ i. omega (arith, i, own y h, h, rep.few, count_is))))
      (λ (h : D ≤ y).
      ⊎_elim
      (λ (k : y < c.nodes). rw (le-ltb y D h, lt-ltb y c.nodes k)
      (in-free y h k (node_at D R.nodes y).armed (ap (λ (w : Node). w.armed) (node_of_lem D c.nodes R.nodes y h k))))
      (λ (k : c.nodes ≤ y).
      rw (le-ltb y D h, le-ltb y c.nodes k)
      (count_none y v.free (λ m. omega (arith, (rep.spare y m).0, slots_is, k))))
      (below? y c.nodes))
      (below? y D)

  -- ---- all of it
  pub shown_lists : SoundLists D c.nodes c.entries c.serial (shown g R).lists
  shown_lists =
      record {
        slot = armed_range D c.nodes R.nodes;
        stands = stands;
        bucket = λ y e. omega (arith, ap (λ (w : Node). w.bucket) (at_node y e), (is_armed y e).names);
        member = member;
        free = free;
        entry = λ y e. omega (arith, ap (λ (w : Node). w.entry) (at_node y e), s.exist.each y (is_armed y e));
        below = λ y e. omega (arith, ap (λ (w : Node). w.serial) (at_node y e), s.below.each y (is_armed y e));
        differ = λ y z e f i.
            s.differ.each y z (is_armed y e) (is_armed z f)
            (sym (ap (λ (w : Node). w.serial) (at_node y e)) ∙ i ∙ ap (λ (w : Node). w.serial) (at_node z f));
      }

  pub shown_sound : Sound g (shown g R)
  shown_sound = record { lists = shown_lists; advance = advance_sound g c (advance_of g c) (shows_advance g c s.advance) }

  pub sound_shows : c.enabled ≡ true → Shows g R (shown g R)
  sound_shows e =
      record {
        lists = v;
        rep = rep;
        count = count_is;
        slots = slots_is;
        bucket = whole_at;
        free = refl;
        free_is = (whole_listed a c.free s.linked).1;
        room = s.lengths.ranges.room;
        armed = λ x h k. ap (λ (w : Node). w.armed) (node_of_lem D c.nodes R.nodes x h k);
        node = λ x h k _. node_of_lem D c.nodes R.nodes x h k;
        entry_len = s.lengths.nodes.entry_len;
        generation_len = s.lengths.nodes.generation_len;
        serial_len = s.lengths.nodes.serial_len;
        entry = λ x h. refl;
        dated_len = s.lengths.entries.dated_len;
        deadline_len = s.lengths.entries.deadline_len;
        entries_generation_len = s.lengths.entries.generation_len;
        enabled = e;
        is_enabled = e;
        reading = refl;
        next = refl;
        nodes_len = refl;
        entries_len = refl;
        advance = shows_advance g c s.advance;
      }
