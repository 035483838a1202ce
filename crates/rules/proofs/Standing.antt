-- Where a slot stands, and what the steps on the lists do to that.
-- Each step has to do with one slot y, and every other slot is left alone (`Elsewhere`). What becomes of y itself is
-- said beside it.
use Prim.Native.Nat.{ℕ, ◌+◌, ◌-◌, ◌<◌}
use native.Mathlib.Omega.{arith}
use mathlib.Core.Path.{◌≡◌, refl, sym, ap, subst, ◌∙◌}
use mathlib.Core.Logic.{⊎_elim}
use mathlib.Core.Bool.{true, false}
use mathlib.Core.List.{List, [], ◌∷◌}
use borrow.Author.Tests.{eq-eqb, ne_eqb}
use Rattle.rules.specs.Lists.{times}
use Rattle.rules.specs.Wheel.{Bucket, Slot as Node, Lists, freed, update, hit, count, at_back as pushed, link, taken, unlink, release, claim, turned, enter}
use Rattle.rules.specs.Wheel.{shortened, pop}
use Rattle.numbers.proofs.Cases.{same?, not_both}
use Rattle.rules.proofs.Counting.{hit_is, hit_not, hit_most, hit_same, count_app, count_without, count_without_own, update_is, update_not}
use Rattle.rules.proofs.Counting.{times_more, times_same}

-- ---- what does not change
-- z stands in M where it stands in L, and its record says the same
pub record Same (z : ℕ) (L M : Lists) : Type 0 where
  pub stands : (c : ℕ) → times z (M.bucket c) ≡ times z (L.bucket c)
  pub free : count z M.free ≡ count z L.free
  pub node : M.node z ≡ L.node z

-- so it is with every slot but y
pub record Elsewhere (y : ℕ) (L M : Lists) : Type 0 where
  pub is : (z : ℕ) → (z ≡ y → ⊥) → Same z L M

-- entering a bucket moves no slot to another
pub enter_same : (z b : ℕ) (L : Lists) → Same z L (enter b L)
enter_same z b L =
    record {
      stands = times_same L.bucket b (turned (L.bucket b)) z
          (omega (arith, count_app z (L.bucket b).late (L.bucket b).early, count_app z (L.bucket b).early (L.bucket b).late));
      free = refl;
      node = refl;
    }

module _ (y : ℕ) (L : Lists) where
  release_else : Elsewhere y L (release y L)
  release_else =
      record {
        is = λ z ne. record {
          stands = λ c. refl;
          free = omega (arith, hit_not z y ne);
          node = update_not L.node y z (freed (L.node y)) (λ i. ne (sym i));
        };
      }

  pop_else : (b : ℕ) (xs : List ℕ) → (L.bucket b).early ≡ y ∷ xs → Elsewhere y L (pop b xs L)
  pop_else b xs f =
      record {
        is = λ z ne. record {
          stands = times_same L.bucket b (shortened xs (L.bucket b)) z (omega (arith, ap (count z) f, hit_not z y ne));
          free = refl;
          node = refl;
        };
      }

  link_else : (b : ℕ) (v : Node) → Elsewhere y L (link b y v L)
  link_else b v =
      record {
        is = λ z ne. record {
          stands = times_same L.bucket b (pushed y (L.bucket b)) z (omega (arith, count_app z (L.bucket b).late (y ∷ []), hit_not z y ne));
          free = refl;
          node = update_not L.node y z v (λ i. ne (sym i));
        };
      }

  unlink_else : Elsewhere y L (unlink y L)
  unlink_else =
      let b : ℕ = (L.node y).bucket in
      record {
        is = λ z ne. record {
          stands = times_same L.bucket b (taken y (L.bucket b)) z
              (omega (arith, count_without z y (L.bucket b).early ne, count_without z y (L.bucket b).late ne));
          free = refl;
          node = refl;
        };
      }

  claim_else : (fs : List ℕ) → L.free ≡ y ∷ fs → Elsewhere y L (claim fs L)
  claim_else fs f =
      record { is = λ z ne. record { stands = λ c. refl; free = omega (arith, ap (count z) f, hit_not z y ne); node = refl } }

  else-then : (M N : Lists) → Elsewhere y L M → Elsewhere y M N → Elsewhere y L N
  else-then M N i j =
      record {
        is = λ z ne. record {
          stands = λ c. (j.is z ne).stands c ∙ (i.is z ne).stands c;
          free = (j.is z ne).free ∙ (i.is z ne).free;
          node = (j.is z ne).node ∙ (i.is z ne).node;
        };
      }

-- the five things that are done to a slot: popped and freed, popped and placed anew, unlinked and freed, unlinked and
-- placed anew, claimed and placed
module _ (y : ℕ) (L : Lists) where
  pub pop_release : (b : ℕ) (xs : List ℕ) → (L.bucket b).early ≡ y ∷ xs → Elsewhere y L (release y (pop b xs L))
  pop_release b xs f = else-then y L (pop b xs L) _ (pop_else y L b xs f) (release_else y (pop b xs L))

  pub pop_link : (b : ℕ) (xs : List ℕ) → (L.bucket b).early ≡ y ∷ xs → (c : ℕ) (v : Node) → Elsewhere y L (link c y v (pop b xs L))
  pop_link b xs f c v = else-then y L (pop b xs L) _ (pop_else y L b xs f) (link_else y (pop b xs L) c v)

  pub unlink_release : Elsewhere y L (release y (unlink y L))
  unlink_release = else-then y L (unlink y L) _ (unlink_else y L) (release_else y (unlink y L))

  pub unlink_link : (c : ℕ) (v : Node) → Elsewhere y L (link c y v (unlink y L))
  unlink_link c v = else-then y L (unlink y L) _ (unlink_else y L) (link_else y (unlink y L) c v)

  pub claim_link : (fs : List ℕ) → L.free ≡ y ∷ fs → (c : ℕ) (v : Node) → Elsewhere y L (link c y v (claim fs L))
  claim_link fs f c v = else-then y L (claim fs L) _ (claim_else y L fs f) (link_else y (claim fs L) c v)

-- ---- what is said of one slot
-- x stands f c times in each bucket c, is not in the free chain, and its record says v
pub record At (x : ℕ) (v : Node) (f : ℕ → ℕ) (L : Lists) : Type 0 where
  pub stands : (c : ℕ) → times x (L.bucket c) ≡ f c
  pub spare : count x L.free ≡ 0
  pub says : L.node x ≡ v

-- each slot that stands in a bucket or is armed, with the serial n, has the property P
pub record Bearers (n : ℕ) (P : ℕ → Type 0) (L : Lists) : Type 0 where
  pub standing : (c y : ℕ) → 0 < times y (L.bucket c) → (L.node y).serial ≡ n → P y
  pub armed : (y : ℕ) → (L.node y).armed ≡ true → (L.node y).serial ≡ n → P y

-- no slot in a bucket or armed has the serial n any more
abbrev pub Gone : ℕ → Lists → Type 0
Gone n L = Bearers n (λ (y : ℕ). ⊥) L

pub at_same : (x : ℕ) (v : Node) (f : ℕ → ℕ) (L M : Lists) → At x v f L → Same x L M → At x v f M
at_same x v f L M a s = record { stands = λ c. s.stands c ∙ a.stands c; spare = s.free ∙ a.spare; says = s.node ∙ a.says }

pub bearers_enter : (n : ℕ) (P : ℕ → Type 0) (b : ℕ) (L : Lists) → Bearers n P L → Bearers n P (enter b L)
bearers_enter n P b L o = record { standing = λ c y h. o.standing c y (omega (arith, h, (enter_same y b L).stands c)); armed = o.armed }

-- a step on y: only y has to be looked at
pub bearers_else : (n : ℕ) (P : ℕ → Type 0) (y : ℕ) (L M : Lists) → Bearers n P L → Elsewhere y L M → ((M.node y).serial ≡ n → P y) → Bearers n P M
bearers_else n P y L M o a own =
    record {
      standing = λ c z h e.
          ⊎_elim
          (λ (i : z ≡ y). subst P (sym i) (own (ap (λ (k : ℕ). (M.node k).serial) (sym i) ∙ e)))
          (λ (ne : z ≡ y → ⊥). o.standing c z (omega (arith, h, (a.is z ne).stands c)) (ap (λ (v : Node). v.serial) (sym (a.is z ne).node) ∙ e))
          (same? z y);
      armed = λ z h e.
          ⊎_elim
          (λ (i : z ≡ y). subst P (sym i) (own (ap (λ (k : ℕ). (M.node k).serial) (sym i) ∙ e)))
          (λ (ne : z ≡ y → ⊥). o.armed z (ap (λ (v : Node). v.armed) (sym (a.is z ne).node) ∙ h)
          (ap (λ (v : Node). v.serial) (sym (a.is z ne).node) ∙ e))
          (same? z y);
    }

-- ---- what becomes of the slot itself
abbrev pub nowhere : ℕ → ℕ
nowhere c = 0

module _ (x : ℕ) (v : Node) (L : Lists) where
  -- the bucket in which x is found is its own
  pub found : (b c : ℕ) → At x v (hit b) L → 0 < times x (L.bucket c) → b ≡ c
  found b c a h = hit_same b c (omega (arith, a.stands c))

  -- out of its own bucket, x stands nowhere
  out_of : (b c : ℕ) (B : Bucket) → b ≡ c → At x v (hit b) L → times x B ≡ times x (L.bucket c) - 1 → (i : ℕ) → times x (update L.bucket c B i) ≡ 0
  out_of b c B e a h i =
      ⊎_elim
      (λ (m : c ≡ i). simp (eq-eqb c i m) (omega (arith, a.stands c, hit_most b c)))
      (λ (m : c ≡ i → ⊥). simp (ne_eqb c i m) (a.stands i ∙ hit_not b i (λ l. m (sym e ∙ l))))
      (same? c i)

  pub pop_own : (b c : ℕ) (xs : List ℕ) → At x v (hit b) L → (L.bucket c).early ≡ x ∷ xs → At x v nowhere (pop c xs L)
  pop_own b c xs a f =
      let k : hit x x ≡ 1 = hit_is x x refl in
      let j : count x (L.bucket c).early ≡ hit x x + count x xs = ap (count x) f in
      record {
        stands = out_of b c (shortened xs (L.bucket c)) (found b c a (omega arith)) a (omega arith);
        spare = a.spare;
        says = a.says;
      }

  pub unlink_own : (b : ℕ) → v.bucket ≡ b → At x v (hit b) L → At x v nowhere (unlink x L)
  unlink_own b h a =
      let c : ℕ = (L.node x).bucket in
      record {
        stands = out_of b c (taken x (L.bucket c)) (sym (ap (λ (u : Node). u.bucket) a.says ∙ h)) a
            (omega (arith, a.stands c, hit_most b c, count_without_own x (L.bucket c).early, count_without_own x (L.bucket c).late));
        spare = a.spare;
        says = a.says;
      }

  pub link_own : (b : ℕ) (u : Node) → At x v nowhere L → At x u (hit b) (link b x u L)
  link_own b u a =
      record {
        stands = λ c.
            times_more L.bucket b (pushed x (L.bucket b)) x 1 (omega (arith, count_app x (L.bucket b).late (x ∷ []), hit_is x x refl)) c
            ∙ ap (λ (k : ℕ). k + hit b c) (a.stands c) ∙ omega arith;
        spare = a.spare;
        says = update_is L.node x x u refl;
      }

-- x stands nowhere and is freed: its serial, which only x bore, is gone
pub gone : (n x : ℕ) (v : Node) (L M : Lists) → Bearers n (λ (y : ℕ). y ≡ x) L → Elsewhere x L (release x M) → At x v nowhere M → Gone n (release x M)
gone n x v L M o a s =
    let k : Bearers n (λ (y : ℕ). y ≡ x) (release x M) = bearers_else n (λ (y : ℕ). y ≡ x) x L (release x M) o a (λ i. refl) in
    record {
      standing = λ c y h e. omega (arith, subst (λ (z : ℕ). 0 < times z (M.bucket c)) (k.standing c y h e) h, s.stands c);
      armed = λ y h e. let z : false ≡ true = simp (eq-eqb x y (sym (k.armed y h e))) at h in not_both z;
    }

-- a slot keeps its serial when it is freed; placed, it has the serial given
pub serial_freed : (y : ℕ) (L : Lists) → ((release y L).node y).serial ≡ (L.node y).serial
serial_freed y L = simp (eq-eqb y y refl)

pub serial_linked : (y b : ℕ) (v : Node) (L : Lists) → ((link b y v L).node y).serial ≡ v.serial
serial_linked y b v L = simp (eq-eqb y y refl)

-- what stands before the sentinel of c, after a link anywhere and after a pop of c
pub early_link : (b y c : ℕ) (v : Node) (L : Lists) → ((link b y v L).bucket c).early ≡ (L.bucket c).early
early_link b y c v L =
    ⊎_elim
    (λ (e : b ≡ c). simp (eq-eqb b c e) (ap (λ (i : ℕ). (L.bucket i).early) e))
    (λ (m : b ≡ c → ⊥). simp (ne_eqb b c m))
    (same? b c)

pub early_pop : (c : ℕ) (xs : List ℕ) (L : Lists) → ((pop c xs L).bucket c).early ≡ xs
early_pop c xs L = simp (eq-eqb c c refl)
