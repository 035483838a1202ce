-- The steps on the lists keep them sound.
use Prim.Native.Nat.{ℕ, ◌+◌, ◌-◌, ◌≤◌, ◌<◌}
use native.Mathlib.Omega.{arith}
use mathlib.Core.Path.{◌≡◌, refl, sym, ap, subst, ◌∙◌}
use mathlib.Core.Logic.{◌⊎◌, inl, inr, ⊎_elim}
use mathlib.Core.Bool.{Bool, true, false, cond}
use mathlib.Core.List.{List, ◌∷◌}
use lib.Dec.{ltb}
use borrow.Author.Tests.{eq-eqb, lt-ltb, le-ltb}
use Rattle.rules.specs.Lists.{times}
use Rattle.rules.specs.Wheel.{Slot as Node, Lists, hit, count, link, release, claim, enter, upwards, bare}
use Rattle.rules.specs.Sound.{spare, SoundLists}
use Rattle.numbers.proofs.Cases.{below?, same?, not_both}
use Rattle.rules.proofs.Counting.{hit_is, count_upwards, count_upwards_below, count_upwards_above}
use Rattle.rules.proofs.Standing.{Elsewhere, enter_same, At, nowhere, link_own}

-- ---- how often a slot has to be free
module _ (D nodes : ℕ) (f : ℕ → Node) (y : ℕ) where
  pub spare_armed : (f y).armed ≡ true → spare D nodes f y ≡ 0
  spare_armed h =
      ⊎_elim
      (λ (i : y < D). simp (lt-ltb y D i))
      (λ (i : D ≤ y).
      ⊎_elim
      (λ (j : y < nodes). simp (le-ltb y D i, lt-ltb y nodes j, h))
      (λ (j : nodes ≤ y). simp (le-ltb y D i, le-ltb y nodes j))
      (below? y nodes))
      (below? y D)

  pub spare_free : D ≤ y → y < nodes → (f y).armed ≡ false → spare D nodes f y ≡ 1
  spare_free i j h = simp (le-ltb y D i, lt-ltb y nodes j, h)

  -- what has to be free exists, is no sentinel and is not armed
  pub spare_some : 0 < spare D nodes f y → (D ≤ y) × (y < nodes) × (spare D nodes f y ≡ 1) × ((f y).armed ≡ true → ⊥)
  spare_some h =
      ⊎_elim
      (λ (i : y < D). absurd (let z : 0 < 0 = simp (lt-ltb y D i) at h in omega arith))
      (λ (i : D ≤ y).
      ⊎_elim
      (λ (j : y < nodes). go i j (f y).armed refl)
      (λ (j : nodes ≤ y). absurd (let z : 0 < 0 = simp (le-ltb y D i, le-ltb y nodes j) at h in omega arith))
      (below? y nodes))
      (below? y D)
    where
      go : D ≤ y → y < nodes → (b : Bool) → (f y).armed ≡ b → (D ≤ y) × (y < nodes) × (spare D nodes f y ≡ 1) × ((f y).armed ≡ true → ⊥)
      go i j true e = absurd (omega (arith, spare_armed e))
      go i j false e = (i, j, spare_free i j e, λ u. not_both (sym e ∙ u))

pub spare_same : (D nodes : ℕ) (f f' : ℕ → Node) (y : ℕ) → f y ≡ f' y → spare D nodes f y ≡ spare D nodes f' y
spare_same D nodes f f' y e = ap (λ (v : Node). cond (ltb y D) 0 (cond (ltb y nodes) (cond v.armed 0 1) 0)) e

-- what has to be seen of the slot y that a step has to do with
pub record Own (y D nodes entries next : ℕ) (L M : Lists) : Type 0 where
  pub slot : (M.node y).armed ≡ true → (D ≤ y) × (y < nodes)
  pub stands : (M.node y).armed ≡ true → (c : ℕ) → times y (M.bucket c) ≡ hit (M.node y).bucket c
  pub bucket : (M.node y).armed ≡ true → (M.node y).bucket < D
  pub member : (c : ℕ) → 0 < times y (M.bucket c) → (M.node y).armed ≡ true
  pub free : count y M.free ≡ spare D nodes M.node y
  pub entry : (M.node y).armed ≡ true → (M.node y).entry < entries
  pub below : (M.node y).armed ≡ true → (M.node y).serial < next
  pub differ : (M.node y).armed ≡ true → (z : ℕ) → (z ≡ y → ⊥) → (L.node z).armed ≡ true → (L.node z).serial ≡ (M.node y).serial → ⊥

module _ (D nodes entries next next' : ℕ) (grows : next ≤ next') (y : ℕ) (L M : Lists) (s : SoundLists D nodes entries next L) (a : Elsewhere y L M)
    (o : Own y D nodes entries next' L M) where
  -- a property of every slot, from that of y and that of the others
  each : (P : ℕ → Type 0) → P y → ((z : ℕ) → (z ≡ y → ⊥) → P z) → (z : ℕ) → P z
  each P h k z = ⊎_elim (λ (i : z ≡ y). subst P (sym i) h) (λ (i : z ≡ y → ⊥). k z i) (same? z y)

  was : (z : ℕ) → (z ≡ y → ⊥) → (M.node z).armed ≡ true → (L.node z).armed ≡ true
  was z ne h = ap (λ (v : Node). v.armed) (sym (a.is z ne).node) ∙ h

  serial_of : (z : ℕ) → (z ≡ y → ⊥) → (M.node z).serial ≡ (L.node z).serial
  serial_of z ne = ap (λ (v : Node). v.serial) (a.is z ne).node

  pub sound_else : SoundLists D nodes entries next' M
  sound_else =
      record {
        slot = each (λ (z : ℕ). (M.node z).armed ≡ true → (D ≤ z) × (z < nodes)) o.slot (λ z ne h. s.slot z (was z ne h));
        stands =
            each (λ (z : ℕ). (M.node z).armed ≡ true → (c : ℕ) → times z (M.bucket c) ≡ hit (M.node z).bucket c) o.stands
            (λ z ne h c.
            (a.is z ne).stands c ∙ s.stands z (was z ne h) c ∙ ap (λ (v : Node). hit v.bucket c) (sym (a.is z ne).node));
        bucket =
            each (λ (z : ℕ). (M.node z).armed ≡ true → (M.node z).bucket < D) o.bucket
            (λ z ne h. omega (arith, ap (λ (v : Node). v.bucket) (a.is z ne).node, s.bucket z (was z ne h)));
        member = λ c.
            each (λ (z : ℕ). 0 < times z (M.bucket c) → (M.node z).armed ≡ true) (o.member c)
            (λ z ne h. ap (λ (v : Node). v.armed) (a.is z ne).node ∙ s.member c z (omega (arith, h, (a.is z ne).stands c)));
        free =
            each (λ (z : ℕ). count z M.free ≡ spare D nodes M.node z) o.free
            (λ z ne. (a.is z ne).free ∙ s.free z ∙ spare_same D nodes L.node M.node z (sym (a.is z ne).node));
        entry =
            each (λ (z : ℕ). (M.node z).armed ≡ true → (M.node z).entry < entries) o.entry
            (λ z ne h. omega (arith, ap (λ (v : Node). v.entry) (a.is z ne).node, s.entry z (was z ne h)));
        below =
            each (λ (z : ℕ). (M.node z).armed ≡ true → (M.node z).serial < next') o.below
            (λ z ne h. omega (arith, serial_of z ne, s.below z (was z ne h)));
        differ = λ z u h k e.
            ⊎_elim
            (λ (i : z ≡ y).
            ⊎_elim
            (λ (j : u ≡ y). i ∙ sym j)
            (λ (j : u ≡ y → ⊥).
            absurd (o.differ (subst (λ (v : ℕ). (M.node v).armed ≡ true) i h) u j (was u j k)
            (sym (serial_of u j) ∙ sym e ∙ ap (λ (v : ℕ). (M.node v).serial) i)))
            (same? u y))
            (λ (i : z ≡ y → ⊥).
            ⊎_elim
            (λ (j : u ≡ y).
            absurd (o.differ (subst (λ (v : ℕ). (M.node v).armed ≡ true) j k) z i (was z i h) (sym (serial_of z i) ∙ e ∙ ap (λ (v : ℕ). (M.node v).serial) j)))
            (λ (j : u ≡ y → ⊥). s.differ z u (was z i h) (was u j k) (sym (serial_of z i) ∙ e ∙ serial_of u j))
            (same? u y))
            (same? z y);
      }

module _ (D nodes entries next y : ℕ) (L : Lists) (s : SoundLists D nodes entries next L) where
  -- an armed slot stands in its bucket alone, and is not free
  pub at_of : (L.node y).armed ≡ true → At y (L.node y) (hit (L.node y).bucket) L
  at_of h = record { stands = s.stands y h; spare = s.free y ∙ spare_armed D nodes L.node y h; says = refl }

  -- the first free slot exists, is no sentinel, and stands nowhere
  pub first_free : (fs : List ℕ) → L.free ≡ y ∷ fs → (D ≤ y) × (y < nodes) × ((L.node y).armed ≡ true → ⊥)
  first_free fs f =
      let k : count y L.free ≡ hit y y + count y fs = ap (count y) f in
      let r = spare_some D nodes L.node y (omega (arith, hit_is y y refl, s.free y)) in
      (r.0, r.1, r.3)

  pub free_nowhere : (fs : List ℕ) → L.free ≡ y ∷ fs → At y (L.node y) nowhere (claim fs L)
  free_nowhere fs f =
      let k : count y L.free ≡ hit y y + count y fs = ap (count y) f in
      let j : hit y y ≡ 1 = hit_is y y refl in
      let r = spare_some D nodes L.node y (omega (arith, s.free y)) in
      record {
        stands = λ c.
            ⊎_elim
            (λ (i : 0 < times y (L.bucket c)). absurd (r.3 (s.member c y i)))
            (λ (i : times y (L.bucket c) ≤ 0). omega arith)
            (below? 0 (times y (L.bucket c)));
        spare = omega (arith, s.free y, r.2);
        says = refl;
      }

  -- "each slot is a sentinel, armed or free, and just one of these": it stands below the buckets' number, or is armed,
  -- or stands once in the free chain
  pub one_kind : y < nodes
      → ((y < D) × ((L.node y).armed ≡ false) × (count y L.free ≡ 0))
      ⊎ (((D ≤ y) × ((L.node y).armed ≡ true) × (count y L.free ≡ 0)) ⊎ ((D ≤ y) × ((L.node y).armed ≡ false) × (count y L.free ≡ 1)))
  one_kind h = ⊎_elim (λ (i : y < D). inl (sentinel i (L.node y).armed refl)) (λ (i : D ≤ y). inr (other i (L.node y).armed refl)) (below? y D)
    where
      sentinel : y < D → (b : Bool) → (L.node y).armed ≡ b → (y < D) × ((L.node y).armed ≡ false) × (count y L.free ≡ 0)
      sentinel i true e = absurd (omega (arith, (s.slot y e).0))
      sentinel i false e = (i, e, s.free y ∙ simp (lt-ltb y D i))

      other : D ≤ y → (b : Bool) → (L.node y).armed ≡ b
          → ((D ≤ y) × ((L.node y).armed ≡ true) × (count y L.free ≡ 0)) ⊎ ((D ≤ y) × ((L.node y).armed ≡ false) × (count y L.free ≡ 1))
      other i true e = inl (i, e, s.free y ∙ spare_armed D nodes L.node y e)
      other i false e = inr (i, e, s.free y ∙ spare_free D nodes L.node y i h e)

  -- y was armed, was taken out of its bucket, and is freed
  pub sound_freed : (M : Lists) (v : Node) → At y v nowhere M → Elsewhere y L (release y M) → (L.node y).armed ≡ true → SoundLists D nodes entries next
      (release y M)
  sound_freed M v a p l =
      let dead : ((release y M).node y).armed ≡ false = simp (eq-eqb y y refl) in
      let no_more : ((release y M).node y).armed ≡ true → ⊥ = λ h. not_both (sym dead ∙ h) in
      sound_else D nodes entries next next (omega arith) y L (release y M) s p
      (record {
        slot = λ h. absurd (no_more h);
        stands = λ h. absurd (no_more h);
        bucket = λ h. absurd (no_more h);
        member = λ c h. absurd (omega (arith, h, a.stands c));
        free = omega (arith, a.spare, hit_is y y refl, spare_free D nodes (release y M).node y (s.slot y l).0 (s.slot y l).1 dead);
        entry = λ h. absurd (no_more h);
        below = λ h. absurd (no_more h);
        differ = λ h. absurd (no_more h);
      })

  -- y, taken out of its bucket or of the free chain, goes to the back of c with the record v
  pub sound_placed : (next' : ℕ) → next ≤ next' → (M : Lists) (u : Node) (c : ℕ) (v : Node) → v.armed ≡ true → v.bucket ≡ c → At y u nowhere M → Elsewhere y
      L (link c y v M)
      → (D ≤ y) × (y < nodes) → c < D → v.entry < entries → v.serial < next'
      → ((z : ℕ) → (z ≡ y → ⊥) → (L.node z).armed ≡ true → (L.node z).serial ≡ v.serial → ⊥) → SoundLists D nodes entries next' (link c y v M)
  sound_placed next' g M u c v on is a p slot r i j k =
      let N : Lists = link c y v M in
      let m : At y v (hit c) N = link_own y u M c v a in
      let alive : (N.node y).armed ≡ true = ap (λ (u : Node). u.armed) m.says ∙ on in
      sound_else D nodes entries next next' g y L N s p
      (record {
        slot = λ l. slot;
        stands = λ l b. m.stands b ∙ ap (λ (e : ℕ). hit e b) (sym (ap (λ (u : Node). u.bucket) m.says ∙ is));
        bucket = λ l. omega (arith, ap (λ (u : Node). u.bucket) m.says);
        member = λ b l. alive;
        free = m.spare ∙ sym (spare_armed D nodes N.node y alive);
        entry = λ l. omega (arith, ap (λ (u : Node). u.entry) m.says);
        below = λ l. omega (arith, ap (λ (u : Node). u.serial) m.says);
        differ = λ l z ne h q. k z ne h (q ∙ ap (λ (x : Node). x.serial) m.says);
      })

pub sound_enter : (D nodes entries next c : ℕ) (L : Lists) → SoundLists D nodes entries next L → SoundLists D nodes entries next (enter c L)
sound_enter D nodes entries next c L s =
    record {
      slot = s.slot;
      stands = λ y h b. (enter_same y c L).stands b ∙ s.stands y h b;
      bucket = s.bucket;
      member = λ b y h. s.member b y (omega (arith, h, (enter_same y c L).stands b));
      free = s.free;
      entry = s.entry;
      below = s.below;
      differ = s.differ;
    }

-- a wheel just enabled, with the slots from D on free
pub sound_bare : (D nodes entries next : ℕ) → D ≤ nodes → SoundLists D nodes entries next (bare (upwards D (nodes - D)))
sound_bare D nodes entries next h =
    record {
      slot = λ y i. absurd (not_both i);
      stands = λ y i. absurd (not_both i);
      bucket = λ y i. absurd (not_both i);
      member = λ c y i. absurd (omega arith);
      free = λ y.
          ⊎_elim
          (λ (i : y < D). simp (lt-ltb y D i) (count_upwards_below D (nodes - D) y i))
          (λ (i : D ≤ y).
          ⊎_elim
          (λ (j : y < nodes). simp (le-ltb y D i, lt-ltb y nodes j) (count_upwards D (nodes - D) y i (omega arith)))
          (λ (j : nodes ≤ y). simp (le-ltb y D i, le-ltb y nodes j) (count_upwards_above D (nodes - D) y (omega arith)))
          (below? y nodes))
          (below? y D);
      entry = λ y i. absurd (not_both i);
      below = λ y i. absurd (not_both i);
      differ = λ y z i. absurd (not_both i);
    }
