-- Armed count and next due: what the loops keep, and that it is the rules' number.
use Prim.Native.Nat.{ℕ, zero, suc, ◌+◌, ◌≤◌, ◌<◌, min}
use native.Mathlib.Omega.{arith}
use native.Mathlib.Numerals.{add-one}
use mathlib.Core.Path.{◌≡◌, refl, sym, ap, ◌∙◌}
use mathlib.Core.Logic.{⊎_elim}
use mathlib.Core.Bool.{Bool, true, false, cond}
use mathlib.Core.Option.{Option as Maybe, none}
use mathlib.Core.List.{List}
use lib.ListN.{length, get_or}
use lib.Dec.{ltb}
use borrow.Author.Tests.{lt-ltb, le-ltb, le-leb, lt-leb}
use Rattle.rules.specs.Places.{Geometry, wheel01, buckets}
use Rattle.rules.specs.Wheel.{Slot as Node, Wheel, Entry, number, due}
use Rattle.rules.specs.Calls.{armed_below, sooner, key_of, least_key}
use Rattle.rules.specs.Sound.{Sound}
use Rattle.numbers.proofs.Cases.{below?}
use Rattle.wheel_rules.specs.Promise.{due_told}
use Rattle.wheel_rules.specs.declared.calls.Clock.{Clock}
use Rattle.std.specs.Prelude.{Option, Some, None}
use Rattle.wheel_rules.specs.Lent.{Nodes, nodes, Entries, entries, records, node_at, entry_at, Shows}
use Rattle.wheel_rules.specs.records.Counts.{armed_among, IsOne, Counts, key_at, least_among, KeyReady, DueReady, FindsKey, Sooner, FindsDue}

-- ---- armed count: the loop
pub none_below : (D : ℕ) (bucket : List ℕ) (k : ℕ) → k ≤ D → armed_among D bucket k ≡ 0
none_below D bucket zero h = refl
none_below D bucket (suc k) h = rw (lt-leb D k (omega arith)) (omega (arith, none_below D bucket k (omega arith)))

pub one_more : (D : ℕ) (bucket : List ℕ) (k : ℕ) → D ≤ k → armed_among D bucket (k + 1) ≡ armed_among D bucket k + cond (ltb (get_or bucket k 0) D) 1 0
one_more D bucket k h = rw add-one (rw (le-leb D k h) (omega arith))

pub record Counting (D : ℕ) (bucket : List ℕ) (n x : ℕ) : Type 0 where
  pub is : n ≡ armed_among D bucket x
  pub few : n ≤ x
  pub past : D ≤ x
  pub within : x ≤ length bucket

pub counting_begins : (D : ℕ) (bucket : List ℕ) → D ≤ length bucket → Counting D bucket 0 D
counting_begins D bucket h = record { is = sym (none_below D bucket D (omega arith)); few = omega arith; past = omega arith; within = h }

pub counting_again : (D : ℕ) (bucket : List ℕ) (n x r : ℕ) → Counting D bucket n x → x < length bucket → IsOne D (get_or bucket x 0) r → Counting D bucket
    (n + r) (x + 1)
counting_again D bucket n x r c h e =
    record {
      is = omega (arith, one_more D bucket x c.past, c.is, e.is);
      few = omega (arith, c.few, e.few);
      past = omega (arith, c.past);
      within = omega arith;
    }

-- ---- the rules' number
module _ (g : Geometry) (N : Nodes) (E : Entries) (c : Clock) (w : Wheel) (s : Shows g (records N E c) w) (o : Sound g w) where
  -- a sentinel is not armed
  sentinel : (k : ℕ) → k < buckets g → (w.lists.node k).armed ≡ false
  sentinel k h = go (w.lists.node k).armed refl
    where
      go : (b : Bool) → (w.lists.node k).armed ≡ b → (w.lists.node k).armed ≡ false
      go true e = absurd (omega (arith, (o.lists.slot k e).0))
      go false e = e

  armed_same : (k : ℕ) → k ≤ w.nodes → armed_below w.lists.node k ≡ armed_among (buckets g) N.links.home k
  armed_same zero h = refl
  armed_same (suc k) h =
      ⊎_elim
      (λ (i : k < buckets g). rw (lt-leb (buckets g) k i, sentinel k i) (omega (arith, armed_same k (omega arith))))
      (λ (i : buckets g ≤ k). rw (le-leb (buckets g) k i, s.armed k i (omega arith)) (omega (arith, armed_same k (omega arith))))
      (below? k (buckets g))

  key_same : (k : ℕ) → buckets g ≤ k → k < w.nodes → key_of g w k ≡ key_at (buckets g) N.links.home N.entry E.dated E.deadline k
  key_same k h i = go (w.lists.node k).armed refl (s.armed k h i)
    where
      go : (b : Bool) → (w.lists.node k).armed ≡ b → (w.lists.node k).armed ≡ ltb (get_or N.links.home k 0) (buckets g)
          → key_of g w k ≡ key_at (buckets g) N.links.home N.entry E.dated E.deadline k
      go true e j =
          let n : w.lists.node k ≡ node_at (buckets g) N k = s.node k h i e in
          rw (e, sym j ∙ e)
          (ap (λ (v : Entry). v.deadline) (s.entry (w.lists.node k).entry (o.lists.entry k e))
          ∙ ap (λ (v : Node). (entry_at E v.entry).deadline) n)
      go false e j = rw (e, sym j ∙ e)

  least_same : (k : ℕ) → k ≤ w.nodes → least_key g w k ≡ least_among (buckets g) N.links.home N.entry E.dated E.deadline k
  least_same zero h = refl
  least_same (suc k) h =
      ⊎_elim
      (λ (i : k < buckets g). rw (lt-leb (buckets g) k i, sentinel k i) (ap (sooner none) (least_same k (omega arith))))
      (λ (i : buckets g ≤ k).
      rw (le-leb (buckets g) k i)
      (ap (λ (o : Maybe ℕ). sooner o (least_key g w k)) (key_same k i (omega arith))
      ∙ ap (sooner (key_at (buckets g) N.links.home N.entry E.dated E.deadline k)) (least_same k (omega arith))))
      (below? k (buckets g))

  heads_are : length N.links.heads ≡ buckets g
  heads_are = s.rep.heads_len ∙ s.count

  homes_are : length N.links.home ≡ w.nodes
  homes_are = s.rep.home_len ∙ s.slots

  pub count_same : armed_below w.lists.node w.nodes ≡ armed_among (length N.links.heads) N.links.home (length N.links.home)
  count_same = rw (heads_are, homes_are) (armed_same w.nodes (omega arith))

  pub due_same : least_key g w w.nodes ≡ least_among (length N.links.heads) N.links.home N.entry E.dated E.deadline (length N.links.home)
  due_same = rw (heads_are, homes_are) (least_same w.nodes (omega arith))

pub counted_all : (h bucket : List ℕ) (n x : ℕ) → Counting (length h) bucket n x → length bucket ≤ x → Counts wheel01 h bucket n
counted_all h bucket n x c l =
    let e : x ≡ length bucket = omega (arith, c.within) in
    let z : n ≡ armed_among (length h) bucket (length bucket) = c.is ∙ ap (armed_among (length h) bucket) e in
    record { is = z; does = λ t n p e γ s E k w sh o. ap number (count_same wheel01 (nodes h t n p bucket e γ s) E k w sh o ∙ sym z) }

-- ---- next due
pub key_at_lem : (D : ℕ) (bucket entry : List ℕ) (t : List Bool) (d : List ℕ) (x : ℕ) → get_or bucket x 0 < D → get_or t (get_or entry x 0) false ≡ true
    → FindsKey D bucket entry t d x (Some (get_or d (get_or entry x 0) 0))
key_at_lem D bucket entry t d x h e = record { is = rw (lt-ltb (get_or bucket x 0) D h, e) }

pub key_undated : (D : ℕ) (bucket entry : List ℕ) (t : List Bool) (d : List ℕ) (x : ℕ) → get_or bucket x 0 < D → get_or t (get_or entry x 0) false ≡ false
    → FindsKey D bucket entry t d x None
key_undated D bucket entry t d x h e = record { is = rw (lt-ltb (get_or bucket x 0) D h, e) }

pub key_free : (D : ℕ) (bucket entry : List ℕ) (t : List Bool) (d : List ℕ) (x : ℕ) → D ≤ get_or bucket x 0 → FindsKey D bucket entry t d x None
key_free D bucket entry t d x h = record { is = rw (le-ltb (get_or bucket x 0) D h) }

pub sooner_first : (a b : Option ℕ) (d c : ℕ) → a ≡ Some d → b ≡ Some c → d < c → Sooner a b (Some d)
sooner_first a b d c p q h = let e : min d c ≡ d = omega arith in record { is = rw (p, q, e) }

pub sooner_second : (a b : Option ℕ) (d c : ℕ) → a ≡ Some d → b ≡ Some c → c ≤ d → Sooner a b (Some c)
sooner_second a b d c p q h = let e : min d c ≡ c = omega arith in record { is = rw (p, q, e) }

pub sooner_only : (a b : Option ℕ) (d : ℕ) → a ≡ Some d → b ≡ None → Sooner a b (Some d)
sooner_only a b d p q = record { is = rw (p, q) }

pub record Finding (h bucket entry : List ℕ) (t : List Bool) (d : List ℕ) (r : Option ℕ) (x : ℕ) : Type 0 where
  pub is : due_told r ≡ least_among (length h) bucket entry t d x
  pub past : length h ≤ x
  pub within : x ≤ length bucket

least_below : (D : ℕ) (bucket entry : List ℕ) (t : List Bool) (d : List ℕ) (k : ℕ) → k ≤ D → least_among D bucket entry t d k ≡ none
least_below D bucket entry t d zero h = refl
least_below D bucket entry t d (suc k) h = rw (lt-leb D k (omega arith)) (ap (sooner none) (least_below D bucket entry t d k (omega arith)))

pub finding_begins : (h bucket entry : List ℕ) (t : List Bool) (d : List ℕ) → DueReady h bucket entry t d → Finding h bucket entry t d None (length h)
finding_begins h bucket entry t d y =
    record { is = sym (least_below (length h) bucket entry t d (length h) (omega arith)); past = omega arith; within = y.room }

pub key_asks : (h bucket entry : List ℕ) (t : List Bool) (d : List ℕ) (r : Option ℕ) (x : ℕ) → DueReady h bucket entry t d → Finding h bucket entry t d r x → x <
    length bucket
    → KeyReady (length h) bucket entry t d x
key_asks h bucket entry t d r x y f l =
    record { slot = l; known = omega (arith, y.entry_len); dated = λ i. y.dated x f.past l i; deadline = λ i. y.deadline x f.past l i }

pub finding_again : (h bucket entry : List ℕ) (t : List Bool) (d : List ℕ) (r k m : Option ℕ) (x : ℕ) → Finding h bucket entry t d r x → x < length bucket
    → FindsKey (length h) bucket entry t d x k → Sooner k r m → Finding h bucket entry t d m (x + 1)
finding_again h bucket entry t d r k m x f l e z =
    record {
      is = rw add-one (z.is ∙ ap (λ (o : Maybe ℕ). sooner o (due_told r)) e.is ∙ ap (sooner (key_at (length h) bucket entry t d x)) f.is ∙ sym
          (here f.past));
      past = omega (arith, f.past);
      within = omega arith;
    }
  where
    here : length h ≤ x → least_among (length h) bucket entry t d (suc x) ≡ sooner (key_at (length h) bucket entry t d x)
        (least_among (length h) bucket entry t d x)
    here p = rw (le-leb (length h) x p)

pub found_all : (h bucket entry : List ℕ) (t : List Bool) (d : List ℕ) (r : Option ℕ) (x : ℕ) → Finding h bucket entry t d r x → length bucket ≤ x → FindsDue
    wheel01 h bucket entry t d r
found_all h bucket entry t d r x f l =
    let e : x ≡ length bucket = omega (arith, f.within) in
    let z : due_told r ≡ least_among (length h) bucket entry t d (length bucket) = f.is ∙ ap (least_among (length h) bucket entry t d) e in
    record {
      is = z;
      does = λ tl n p γ s ge c w sh o. ap due (due_same wheel01 (nodes h tl n p bucket entry γ s) (entries t d ge) c w sh o ∙ sym z);
    }
