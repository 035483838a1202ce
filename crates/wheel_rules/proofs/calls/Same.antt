-- Records that show one wheel and agree in what it does not show are the same records.
use Prim.Native.Nat.{ℕ, suc, ◌≤◌, ◌<◌}
use native.Mathlib.Omega.{arith}
use mathlib.Core.Path.{◌≡◌, refl, sym, ap, subst, ◌∙◌}
use mathlib.Core.Logic.{⊎_elim}
use mathlib.Core.Bool.{Bool, true, false, false≢true}
use mathlib.Core.List.{List, []}
use lib.ListN.{length, get_or}
use lib.Seq.{ext_get_or}
use borrow.Author.Tests.{lt-ltb}
use Rattle.deque_rules.specs.Links.{first, Links, Deques as Lists, home_of, Rep}
use Rattle.numbers.specs.Shared.{no_slot as none}
use Rattle.deque_rules.proofs.Laws.{Alike, links_alike}
use Rattle.rules.specs.Places.{Geometry, buckets, visited_at, ahead}
use Rattle.rules.specs.Wheel.{Slot as Node, Advance, closed, poised, within, Wheel}
use Rattle.rules.proofs.Places.{ahead_once}
use Rattle.numbers.proofs.Cases.{below?, same?}
use Rattle.wheel_rules.specs.declared.calls.Clock.{Clock}
use Rattle.wheel_rules.specs.Lent.{Nodes, Records, node_at, ShowsAdvance, Shows}
use Rattle.wheel_rules.specs.Promise.{Payload, payload_at, prev_at, DeadFields, DeadClock, Blank}

-- node records with D buckets agree in what a wheel does not show of them
pub record AgreeDead (D : ℕ) (N N' : Nodes) : Type 0 where
  pub sentinel : (x : ℕ) → x < D → payload_at N x ≡ payload_at N' x
  pub free : (x : ℕ) → x < length N.links.next → home_of N.links x ≡ none → (prev_at N x ≡ prev_at N' x) × (payload_at N x ≡ payload_at N' x)

-- ---- records with the same fields
same_lists : (v w : Lists) → v.count ≡ w.count → v.slots ≡ w.slots → v.held ≡ w.held → v.free ≡ w.free → v ≡ w
same_lists v w a b c d i = record { count = a i; slots = b i; held = c i; free = d i }

same_links : (a b : Links) → a.heads ≡ b.heads → a.tails ≡ b.tails → a.next ≡ b.next → a.prev ≡ b.prev → a.home ≡ b.home → a ≡ b
same_links a b h t n p o i = record { heads = h i; tails = t i; next = n i; prev = p i; home = o i }

same_nodes : (N M : Nodes) → N.links ≡ M.links → N.entry ≡ M.entry → N.generation ≡ M.generation → N.serial ≡ M.serial → N ≡ M
same_nodes N M l e g s i = record { links = l i; entry = e i; generation = g i; serial = s i }

-- ---- the clock
open_same : (g : Geometry) (c d : Clock) (A : Advance) → ShowsAdvance g c A → ShowsAdvance g d A → c.open ≡ d.open
open_same g c d closed s t = s ∙ sym t
open_same g c d (poised p bs) s t = s.0 ∙ sym t.0
open_same g c d (within p b bs) s t = s.1 ∙ sym t.1

-- where an advance is open, its position
module _ (g : Geometry) (c d : Clock) (reading : c.reading ≡ d.reading)
    (known : c.open ≡ true → c.level ≤ length g.sizes) (known' : d.open ≡ true → d.level ≤ length g.sizes)
    (dead : c.open ≡ false → (c.previous ≡ d.previous) × (c.level ≡ d.level) × (c.step ≡ d.step)) where
  position_same : (A : Advance) → ShowsAdvance g c A → ShowsAdvance g d A
      → (c.previous ≡ d.previous) × (c.level ≡ d.level) × (c.step ≡ d.step)
  position_same closed s t = dead s
  position_same (poised p bs) s t = (s.1 ∙ sym t.1, s.2 ∙ sym t.2, s.3 ∙ sym t.3)
  position_same (within p b bs) s t =
      let h : t.0 < visited_at g p c.reading d.level = rw reading t.4 in
      let e : ahead g p c.reading c.level (suc s.0) ≡ ahead g p c.reading d.level (suc t.0) = sym s.6 ∙ rw reading t.6 in
      let u = ahead_once g p c.reading c.level d.level s.0 t.0 (known s.1) (known' t.1) s.4 h e in
      (s.2 ∙ sym t.2, u.0, s.3 ∙ ap suc u.1 ∙ sym t.3)

same_clock : (c d : Clock) → c.enabled ≡ d.enabled → c.reading ≡ d.reading → c.serial ≡ d.serial → c.open ≡ d.open → c.previous ≡ d.previous
    → c.level ≡ d.level → c.step ≡ d.step → c.free ≡ d.free → c.nodes ≡ d.nodes → c.entries ≡ d.entries → c ≡ d
same_clock c d e r s o p l t f n m i =
    record {
      enabled = e i;
      reading = r i;
      serial = s i;
      «open» = o i;
      previous = p i;
      level = l i;
      step = t i;
      free = f i;
      nodes = n i;
      entries = m i;
    }

-- ---- the nodes
module _ (g : Geometry) (R S : Records) (w : Wheel) (h : Shows g R w) (k : Shows g S w) where
  -- the wheel says what the lists are
  lists_same : h.lists ≡ k.lists
  lists_same =
      let c : h.lists.count ≡ k.lists.count = h.count ∙ sym k.count in
      same_lists h.lists k.lists c (h.slots ∙ sym k.slots)
      (ext_get_or [] h.lists.held k.lists.held (h.rep.held_len ∙ c ∙ sym k.rep.held_len)
      (λ b l.
      let m : b < buckets g = omega (arith, l, h.rep.held_len, h.count) in
      h.bucket b m ∙ sym (k.bucket b m)))
      (sym h.free ∙ k.free)

  links_shown : Alike R.nodes.links S.nodes.links
  links_shown =
      links_alike R.nodes.links S.nodes.links h.lists h.rep
      (subst (λ (v : Lists). Rep S.nodes.links v []) (sym lists_same) k.rep)

  next_len : length R.nodes.links.next ≡ w.nodes
  next_len = h.rep.next_len ∙ h.slots

  prev_len : length R.nodes.links.prev ≡ w.nodes
  prev_len = h.rep.prev_len ∙ h.slots

  -- a slot after the sentinels that names a bucket: its payload is shown
  node_shown : (x : ℕ) → buckets g ≤ x → x < w.nodes → (home_of R.nodes.links x ≡ none → ⊥)
      → node_at (buckets g) R.nodes x ≡ node_at (buckets g) S.nodes x
  node_shown x b l n =
      let m : home_of R.nodes.links x < buckets g = omega (arith, (h.rep.homed x (omega (arith, l, h.slots)) n).0, h.count) in
      let a : (w.lists.node x).armed ≡ true = h.armed x b l ∙ lt-ltb (home_of R.nodes.links x) (buckets g) m in
      sym (h.node x b l a) ∙ k.node x b l a

  payload_shown : (x : ℕ) → buckets g ≤ x → x < w.nodes → (home_of R.nodes.links x ≡ none → ⊥) → payload_at R.nodes x ≡ payload_at S.nodes x
  payload_shown x b l n =
      ap (λ (v : Node). record { entry = v.entry; generation = v.generation; serial = v.serial }) (node_shown x b l n)

  module _ (dead : AgreeDead (buckets g) R.nodes S.nodes) where
    payload_same : (x : ℕ) → x < w.nodes → payload_at R.nodes x ≡ payload_at S.nodes x
    payload_same x l =
        ⊎_elim
        (λ (s : x < buckets g). dead.sentinel x s)
        (λ (s : buckets g ≤ x).
        ⊎_elim
        (λ (e : home_of R.nodes.links x ≡ none). (dead.free x (rw next_len l) e).1)
        (λ (n : home_of R.nodes.links x ≡ none → ⊥). payload_shown x s l n)
        (same? (home_of R.nodes.links x) none))
        (below? x (buckets g))

    prev_same : (x : ℕ) → x < w.nodes → prev_at R.nodes x ≡ prev_at S.nodes x
    prev_same x l =
        ⊎_elim
        (λ (e : home_of R.nodes.links x ≡ none). (dead.free x (rw next_len l) e).0)
        (λ (n : home_of R.nodes.links x ≡ none → ⊥). links_shown.prev x (rw next_len l) n)
        (same? (home_of R.nodes.links x) none)

    links_same : R.nodes.links ≡ S.nodes.links
    links_same =
        same_links R.nodes.links S.nodes.links links_shown.heads links_shown.tails links_shown.next
        (ext_get_or 0 R.nodes.links.prev S.nodes.links.prev (prev_len ∙ sym (k.rep.prev_len ∙ k.slots)) (λ x l. prev_same x (rw prev_len at l)))
        links_shown.home

    nodes_same : R.nodes ≡ S.nodes
    nodes_same =
        same_nodes R.nodes S.nodes links_same
        (ext_get_or 0 R.nodes.entry S.nodes.entry (h.entry_len ∙ sym k.entry_len)
        (λ x l. ap (λ (p : Payload). p.entry) (payload_same x (rw h.entry_len at l))))
        (ext_get_or 0 R.nodes.generation S.nodes.generation (h.generation_len ∙ sym k.generation_len)
        (λ x l. ap (λ (p : Payload). p.generation) (payload_same x (rw h.generation_len at l))))
        (ext_get_or 0 R.nodes.serial S.nodes.serial (h.serial_len ∙ sym k.serial_len)
        (λ x l. ap (λ (p : Payload). p.serial) (payload_same x (rw h.serial_len at l))))

  module _ (known : R.clock.open ≡ true → R.clock.level ≤ length g.sizes) (known' : S.clock.open ≡ true → S.clock.level ≤ length g.sizes)
      (dead : R.clock.open ≡ false → (R.clock.previous ≡ S.clock.previous) × (R.clock.level ≡ S.clock.level) × (R.clock.step ≡ S.clock.step))
    where
      clock_same : R.clock ≡ S.clock
      clock_same =
          let r : R.clock.reading ≡ S.clock.reading = h.reading ∙ sym k.reading in
          let p = position_same g R.clock S.clock r known known' dead w.advance h.advance k.advance in
          same_clock R.clock S.clock
          (h.is_enabled ∙ sym k.is_enabled)
          r
          (h.next ∙ sym k.next)
          (open_same g R.clock S.clock w.advance h.advance k.advance)
          p.0
          p.1
          p.2
          (sym h.free_is ∙ ap (λ (v : Lists). first v.free) lists_same ∙ k.free_is)
          (h.nodes_len ∙ sym k.nodes_len)
          (h.entries_len ∙ sym k.entries_len)

pub same_records : (g : Geometry) (R S : Records) (w : Wheel) → Shows g R w → Shows g S w
    → (R.clock.open ≡ true → R.clock.level ≤ length g.sizes) → (S.clock.open ≡ true → S.clock.level ≤ length g.sizes)
    → AgreeDead (buckets g) R.nodes S.nodes
    → (R.clock.open ≡ false → (R.clock.previous ≡ S.clock.previous) × (R.clock.level ≡ S.clock.level) × (R.clock.step ≡ S.clock.step))
    → R.entries ≡ S.entries → R ≡ S
same_records g R S w h k known known' a dead e =
    let n = nodes_same g R S w h k a in
    let c = clock_same g R S w h k known known' dead in
    λ i. record { nodes = n i; entries = e i; clock = c i }

-- ---- after a call: the records before it, and the wheel after it, determine the records after it
module _ (g : Geometry) (R R₁ R₂ : Records) (w : Wheel) (len : length R.nodes.links.next ≡ w.nodes) (h : Shows g R₁ w) (k : Shows g R₂ w)
    (f : DeadFields (buckets g) R.nodes R₁.nodes) (f' : DeadFields (buckets g) R.nodes R₂.nodes) where
  frame_agrees : AgreeDead (buckets g) R₁.nodes R₂.nodes
  frame_agrees =
      record {
        sentinel = λ x l. f.sentinel x l ∙ sym (f'.sentinel x l);
        free = λ x l e.
            let l' : x < length R.nodes.links.next = omega (arith, l, next_len g R₁ R₂ w h k, len) in
            let e' : home_of R₂.nodes.links x ≡ none = ap (λ (o : List ℕ). get_or o x 0) (sym (links_shown g R₁ R₂ w h k).home) ∙ e in
            ⊎_elim
            (λ (z : home_of R.nodes.links x ≡ none).
            let u = f.idle x l' z e in
            let v = f'.idle x l' z e' in
            (u.0 ∙ sym v.0, u.1 ∙ sym v.1))
            (λ (z : home_of R.nodes.links x ≡ none → ⊥).
            let u = f.freed x l' z e in
            let v = f'.freed x l' z e' in
            (u.0 ∙ sym v.0, u.1 ∙ sym v.1))
            (same? (home_of R.nodes.links x) none);
      }

frame_clock : (c c₁ c₂ : Clock) → DeadClock c c₁ → DeadClock c c₂ → c₁.open ≡ c₂.open → c₁.open ≡ false
    → (c₁.previous ≡ c₂.previous) × (c₁.level ≡ c₂.level) × (c₁.step ≡ c₂.step)
frame_clock c c₁ c₂ f f' o z = go c.open refl
  where
    go : (b : Bool) → c.open ≡ b → (c₁.previous ≡ c₂.previous) × (c₁.level ≡ c₂.level) × (c₁.step ≡ c₂.step)
    go true e =
        let u = f.closes e z in
        let v = f'.closes e (sym o ∙ z) in
        (u.0 ∙ sym v.0, u.1 ∙ sym v.1, u.2 ∙ sym v.2)
    go false e =
        let u = f.stays e z in
        let v = f'.stays e (sym o ∙ z) in
        (u.0 ∙ sym v.0, u.1 ∙ sym v.1, u.2 ∙ sym v.2)

pub frame_determines : (g : Geometry) (R R₁ R₂ : Records) (w : Wheel) → length R.nodes.links.next ≡ w.nodes → Shows g R₁ w → Shows g R₂ w
    → (R₁.clock.open ≡ true → R₁.clock.level ≤ length g.sizes) → (R₂.clock.open ≡ true → R₂.clock.level ≤ length g.sizes)
    → DeadFields (buckets g) R.nodes R₁.nodes → DeadFields (buckets g) R.nodes R₂.nodes
    → DeadClock R.clock R₁.clock → DeadClock R.clock R₂.clock → R₁.entries ≡ R₂.entries → R₁ ≡ R₂
frame_determines g R R₁ R₂ w len h k known known' f f' c c' e =
    same_records g R₁ R₂ w h k known known'
    (frame_agrees g R R₁ R₂ w len h k f f')
    (frame_clock R.clock R₁.clock R₂.clock c c' (open_same g R₁.clock R₂.clock w.advance h.advance k.advance))
    e

-- ---- laid out: the wheel alone determines the records
closed_shut : (g : Geometry) (R : Records) (w : Wheel) → Shows g R w → w.advance ≡ closed → R.clock.open ≡ false
closed_shut g R w h e = subst (λ (A : Advance). ShowsAdvance g R.clock A) e h.advance

closed_known : (g : Geometry) (R : Records) (w : Wheel) → Shows g R w → w.advance ≡ closed → R.clock.open ≡ true → R.clock.level ≤ length g.sizes
closed_known g R w h e o = absurd (false≢true (sym (closed_shut g R w h e) ∙ o))

blank_agrees : (g : Geometry) (R₁ R₂ : Records) (w : Wheel) → Shows g R₁ w → Shows g R₂ w → Blank (buckets g) R₁.nodes → Blank (buckets g) R₂.nodes
    → AgreeDead (buckets g) R₁.nodes R₂.nodes
blank_agrees g R₁ R₂ w h k b b' =
    let n : length R₁.nodes.links.next ≡ w.nodes = next_len g R₁ R₂ w h k in
    let n' : length R₂.nodes.links.next ≡ w.nodes = next_len g R₂ R₁ w k h in
    record {
      sentinel = λ x l. b.payload x (omega (arith, l, h.room, n)) ∙ sym (b'.payload x (omega (arith, l, h.room, n')));
      free = λ x l e.
          let l' : x < length R₂.nodes.links.next = omega (arith, l, n, n') in
          let e' : home_of R₂.nodes.links x ≡ none = ap (λ (o : List ℕ). get_or o x 0) (sym (links_shown g R₁ R₂ w h k).home) ∙ e in
          (b.prev x l e ∙ sym (b'.prev x l' e'), b.payload x l ∙ sym (b'.payload x l'));
    }

pub blank_determines : (g : Geometry) (R₁ R₂ : Records) (w : Wheel) → Shows g R₁ w → Shows g R₂ w → w.advance ≡ closed
    → Blank (buckets g) R₁.nodes → Blank (buckets g) R₂.nodes
    → (R₁.clock.previous ≡ 0) × (R₁.clock.level ≡ 0) × (R₁.clock.step ≡ 0)
    → (R₂.clock.previous ≡ 0) × (R₂.clock.level ≡ 0) × (R₂.clock.step ≡ 0)
    → R₁.entries ≡ R₂.entries → R₁ ≡ R₂
blank_determines g R₁ R₂ w h k a b b' z z' e =
    same_records g R₁ R₂ w h k (closed_known g R₁ w h a) (closed_known g R₂ w k a)
    (blank_agrees g R₁ R₂ w h k b b')
    (λ _. (z.0 ∙ sym z'.0, z.1 ∙ sym z'.1, z.2 ∙ sym z'.2))
    e
