-- The node that a turn looks at: what it is of the lists that the records show.
use Prim.Native.Nat.{ℕ, suc, ◌-◌, ◌≤◌, ◌<◌}
use native.Mathlib.Omega.{arith}
use mathlib.Core.Path.{◌≡◌, refl, sym, ap, subst, ◌∙◌}
use mathlib.Core.Logic.{◌⊎◌, inl, inr, ⊎_elim}
use mathlib.Core.Bool.{true}
use mathlib.Core.List.{List, [], ◌∷◌, ◌++◌}
use lib.ListN.{length, get_or}
use borrow.Author.Tests.{eq-eqb, ne_eqb}
use Rattle.deque_rules.specs.Links.{first}
use Rattle.numbers.specs.Shared.{no_slot as nowhere}
use Rattle.deque_rules.proofs.Laws.{head_is}
use Rattle.rules.specs.Places.{Geometry, buckets, visits, bucket_at, ahead}
use Rattle.rules.specs.Lists.{times}
use Rattle.rules.specs.Wheel.{whole, count, Advance, closed, poised, within, Wheel}
use Rattle.rules.specs.Calls.{swept, pulled}
use Rattle.rules.specs.Sound.{Sound}
use Rattle.numbers.proofs.Cases.{below?, same?, not_both}
use Rattle.rules.proofs.Counting.{hit_is}
use Rattle.rules.proofs.Positions.{ahead_start}
use Rattle.wheel_rules.specs.declared.calls.Clock.{Clock}
use Rattle.wheel_rules.specs.Lent.{Nodes, Entries, records, ShowsAdvance, Shows}
use Rattle.wheel_rules.specs.popping.Pop.{stands_in, waiting_at}
use Rattle.wheel_rules.proofs.popping.Positions.{bucket_at_in}
use Rattle.wheel_rules.proofs.popping.Turning.{turn_done}

-- ---- the numbers
pub wait_before : (g : Geometry) (h : List ℕ) (c : Clock) → c.step ≡ 0 → waiting_at g h c ≡ nowhere
wait_before g h c e = rw (eq-eqb c.step 0 e)

pub wait_none : (g : Geometry) (h : List ℕ) (c : Clock) → (c.step ≡ 0 → ⊥) → get_or h (stands_in g c) 0 ≡ stands_in g c → waiting_at g h c ≡ nowhere
wait_none g h c n e = rw (ne_eqb c.step 0 n, eq-eqb (get_or h (stands_in g c) 0) (stands_in g c) e)

pub wait_some : (g : Geometry) (h : List ℕ) (c : Clock) → (c.step ≡ 0 → ⊥) → (get_or h (stands_in g c) 0 ≡ stands_in g c → ⊥) → waiting_at g h c ≡ get_or h
    (stands_in g c) 0
wait_some g h c n e = rw (ne_eqb c.step 0 n, ne_eqb (get_or h (stands_in g c) 0) (stands_in g c) e)

-- ---- one bucket as a list
nothing_early : (b : ℕ) (es ls : List ℕ) → count b es ≡ 0 → first (es ++ (b ∷ ls)) ≡ b → es ≡ []
nothing_early b [] ls h e = refl
nothing_early b (y ∷ es) ls h e = absurd (omega (arith, hit_is b y (sym e)))

first_early : (b x : ℕ) (es ls : List ℕ) → first (es ++ (b ∷ ls)) ≡ x → (x ≡ b → ⊥) → (xs : List ℕ) × (es ≡ x ∷ xs)
first_early b x [] ls e n = absurd (n (sym e))
first_early b x (y ∷ es) ls e n = (es, ap (λ (z : ℕ). z ∷ es) e)

module _ (g : Geometry) (N : Nodes) (E : Entries) (c : Clock) (w : Wheel) (s : Shows g (records N E c) w) (o : Sound g w) where
  abbrev D : ℕ
  D = buckets g

  sentinel_none : (z b : ℕ) → z < D → times z (w.lists.bucket b) ≡ 0
  sentinel_none z b h =
      ⊎_elim
      (λ (i : 0 < times z (w.lists.bucket b)). absurd (omega (arith, (o.lists.slot z (o.lists.member b z i)).0)))
      (λ (i : times z (w.lists.bucket b) ≤ 0). omega arith)
      (below? 0 (times z (w.lists.bucket b)))

  head_of : (b : ℕ) → b < D → get_or N.links.heads b 0 ≡ first (whole b (w.lists.bucket b))
  head_of b h = head_is N.links s.lists [] s.rep b (omega (arith, s.count)) ∙ ap first (s.bucket b h)

  -- the head is the sentinel: nothing stands before it
  pub done_at : (b : ℕ) → b < D → get_or N.links.heads b 0 ≡ b → (w.lists.bucket b).early ≡ []
  done_at b h e =
      nothing_early b (w.lists.bucket b).early (w.lists.bucket b).late (omega (arith, sentinel_none b b h)) (sym (head_of b h) ∙ e)

  -- the head is another slot: it stands first before it
  pub front_at : (b x : ℕ) → b < D → get_or N.links.heads b 0 ≡ x → (x ≡ b → ⊥) → (xs : List ℕ) × ((w.lists.bucket b).early ≡ x ∷ xs)
  front_at b x h e n = first_early b x (w.lists.bucket b).early (w.lists.bucket b).late (sym (head_of b h) ∙ e) n

  -- a slot that waits is a slot, so that its number is below the length
  front_slot : (b x : ℕ) (xs : List ℕ) → (w.lists.bucket b).early ≡ x ∷ xs → x < length N.links.next
  front_slot b x xs f =
      let l = o.lists.slot x (o.lists.member b x (omega (arith, ap (count x) f, hit_is x x refl))) in
      omega (arith, l.1, s.rep.next_len, s.slots)

  -- where the advance stands, and what its pull is
  pub record Placed : Type 0 where
    pub b : ℕ
    pub bs : List ℕ
    pub i : ℕ
    pub is : w.advance ≡ within c.previous b bs
    pub step : c.step ≡ suc i
    pub bucket : b ≡ stands_in g c
    pub rest : bs ≡ ahead g c.previous c.reading c.level c.step

  module _ (opened : c.open ≡ true) where
    -- step 0: before the first bucket; else within one
    pub stands : ((c.step ≡ 0) × (w.advance ≡ poised c.previous (ahead g c.previous c.reading c.level c.step))) ⊎ Placed
    stands = go w.advance refl s.advance
      where
        go : (A : Advance) → w.advance ≡ A → ShowsAdvance g c A
            → ((c.step ≡ 0) × (w.advance ≡ poised c.previous (ahead g c.previous c.reading c.level c.step))) ⊎ Placed
        go closed e a = absurd (not_both (sym a ∙ opened))
        go (poised p bs) e a =
            inl (
              a.3,
              e ∙ ap (λ (k : ℕ). poised k bs) (sym a.1)
                  ∙ ap (poised c.previous) (a.4 ∙ ap (λ (k : ℕ). visits g k c.reading) (sym a.1)
                  ∙ sym (ahead_start g.shift g.sizes 0 c.previous c.reading) ∙ sym (at_start a.2 a.3)),
            )
          where
            at_start : c.level ≡ 0 → c.step ≡ 0 → ahead g c.previous c.reading c.level c.step ≡ ahead g c.previous c.reading 0 0
            at_start p q = rw (p, q)
        go (within p b bs) e a =
            let k : c.step - 1 ≡ a.0 = omega (arith, a.3) in
            inr (record {
              b = b;
              bs = bs;
              i = a.0;
              is = e ∙ ap (λ (m : ℕ). within m b bs) (sym a.2);
              step = a.3;
              bucket = a.5 ∙ ap (λ (m : ℕ). bucket_at g m c.level a.0) (sym a.2) ∙ ap (bucket_at g c.previous c.level) (sym k);
              rest = a.6 ∙ ap (λ (m : ℕ). ahead g m c.reading c.level (suc a.0)) (sym a.2) ∙ ap (ahead g c.previous c.reading c.level)
                  (sym a.3);
            })

    -- nothing waits: the buckets ahead are entered
    pub to_sweep : length N.links.next ≤ waiting_at g N.links.heads c
        → pulled g w.entry w.reading w.advance w.lists
        ≡ swept g w.entry c.previous w.reading (ahead g c.previous c.reading c.level c.step) w.lists
    to_sweep h = ⊎_elim (λ z. ap (λ (A : Advance). pulled g w.entry w.reading A w.lists) z.1) inside stands
      where
        inside : Placed
            → pulled g w.entry w.reading w.advance w.lists
            ≡ swept g w.entry c.previous w.reading (ahead g c.previous c.reading c.level c.step) w.lists
        inside z =
            let hb : z.b < D = omega (arith, z.bucket, bucket_at_in g c.previous c.level (c.step - 1)) in
            let n : c.step ≡ 0 → ⊥ = λ e. omega (arith, z.step, e) in
            let f : (w.lists.bucket z.b).early ≡ [] =
            ⊎_elim
            (λ (e : get_or N.links.heads z.b 0 ≡ z.b). done_at z.b hb e)
            (λ (ne : get_or N.links.heads z.b 0 ≡ z.b → ⊥).
            let u = front_at z.b (get_or N.links.heads z.b 0) hb refl ne in
            let l = front_slot z.b (get_or N.links.heads z.b 0) u.0 u.1 in
            let k : waiting_at g N.links.heads c ≡ get_or N.links.heads (stands_in g c) 0 =
            wait_some g N.links.heads c n (λ e. ne (subst (λ (m : ℕ). get_or N.links.heads m 0 ≡ m) (sym z.bucket) e)) in
            absurd (omega (arith, h, k, ap (λ (m : ℕ). get_or N.links.heads m 0) z.bucket, l)))
            (same? (get_or N.links.heads z.b 0) z.b) in
            ap (λ (A : Advance). pulled g w.entry w.reading A w.lists) z.is
            ∙ turn_done g w.entry c.previous w.reading z.b z.bs w.lists f
            ∙ ap (λ (l : List ℕ). swept g w.entry c.previous w.reading l w.lists) z.rest

    -- the node x waits: it stands first before the sentinel of the bucket that the advance stands in
    pub record Fronted (x : ℕ) : Type 0 where
      pub b : ℕ
      pub bs : List ℕ
      pub is : w.advance ≡ within c.previous b bs
      pub xs : List ℕ
      pub early : (w.lists.bucket b).early ≡ x ∷ xs

    pub to_front : (x : ℕ) → x ≡ waiting_at g N.links.heads c → x < length N.links.next → Fronted x
    to_front x e h = ⊎_elim (λ z. absurd (none_waits (wait_before g N.links.heads c z.0))) inside stands
      where
        none_waits : waiting_at g N.links.heads c ≡ nowhere → ⊥
        none_waits k = omega (arith, e, h, k, s.rep.next_len, s.rep.small)

        inside : Placed → Fronted x
        inside z =
            let hb : z.b < D = omega (arith, z.bucket, bucket_at_in g c.previous c.level (c.step - 1)) in
            let n : c.step ≡ 0 → ⊥ = λ e. omega (arith, z.step, e) in
            ⊎_elim
            (λ (j : get_or N.links.heads (stands_in g c) 0 ≡ stands_in g c). absurd (none_waits (wait_none g N.links.heads c n j)))
            (λ (j : get_or N.links.heads (stands_in g c) 0 ≡ stands_in g c → ⊥).
            let k : x ≡ get_or N.links.heads (stands_in g c) 0 = e ∙ wait_some g N.links.heads c n j in
            let u = front_at z.b x hb (ap (λ (m : ℕ). get_or N.links.heads m 0) z.bucket ∙ sym k) (λ i. j (sym k ∙ i ∙ z.bucket)) in
            record { b = z.b; bs = z.bs; is = z.is; xs = u.0; early = u.1 })
            (same? (get_or N.links.heads (stands_in g c) 0) (stands_in g c))
