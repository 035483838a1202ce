-- Slots filed by their serials: the way back from a slot, and what filing one more slot keeps.
use Prim.Native.Nat.{ℕ, zero, suc, ◌+◌, ◌%◌, ◌<◌}
use native.Mathlib.Nat.{mod-lt}
use native.Mathlib.Omega.{arith}
use mathlib.Core.Path.{◌≡◌, refl, sym, ap, subst, ◌∙◌}
use mathlib.Core.Logic.{⊎_elim}
use mathlib.Core.Bool.{Bool, true, false, false≢true}
use mathlib.Core.List.{List}
use lib.ListN.{length, get_or, set, replicate, length-set, length-replicate}
use lib.Seq.{get_or-set_same, get_or-set_other}
use Rattle.numbers.proofs.Cases.{same?, below?}
use Rattle.wheel_rules.specs.Lent.{Decides, Armed}
use Rattle.wheel_rules.specs.sound.Filing.{Leads, here, back, Walkable, Met, Filed, Fileable, Files}
use Rattle.wheel_rules.proofs.sound.Answers.{yes}

-- ---- the way back
pub leads_some : {b : List ℕ} {y z : ℕ} → Leads b y z → 0 < y
leads_some (here p) = p
leads_some (back p l) = p

-- the walk from `latest` has come to y: what is met from here on is what is met in all
pub record MetFrom (before serial : List ℕ) (latest wanted y : ℕ) : Type 0 where
  pub lent : y < length serial
  pub to : Met before serial y wanted → Met before serial latest wanted
  pub from : Met before serial latest wanted → Met before serial y wanted

module _ (before serial : List ℕ) (latest wanted : ℕ) (p : Walkable before serial latest) where
  further : (y : ℕ) → (get_or serial y 0 ≡ wanted → ⊥) → Met before serial y wanted → Met before serial (get_or before y 0) wanted
  further y n m = go m.leads m.is
    where
      go : {z : ℕ} → Leads before y z → get_or serial z 0 ≡ wanted → Met before serial (get_or before y 0) wanted
      go (here q) e = absurd (n e)
      go {z} (back q l) e = record { slot = z; leads = l; is = e }

  pub met_on : (y z : ℕ) → MetFrom before serial latest wanted y → 0 < y → (get_or serial y 0 ≡ wanted → ⊥) → z ≡ get_or before y 0 → MetFrom before serial latest
      wanted z
  met_on y z g q n e =
      rw e
      (record {
        lent = omega (arith, p.earlier.each y q, g.lent);
        to = λ m. g.to (record { slot = m.slot; leads = back q m.leads; is = m.is });
        from = λ m. further y n (g.from m);
      })

  pub met_yes : (y : ℕ) → MetFrom before serial latest wanted y → 0 < y → get_or serial y 0 ≡ wanted → Decides (Met before serial latest wanted) true
  met_yes y g q e = yes (g.to (record { slot = y; leads = here q; is = e }))

-- ---- filing a slot
-- two arrays that agree below x lead alike from below x
agree_leads : (b c : List ℕ) (x : ℕ) → ((y : ℕ) → y < x → get_or c y 0 ≡ get_or b y 0) → ((y : ℕ) → 0 < y → get_or b y 0 < y) → {y z : ℕ} → y < x → Leads b y z →
    Leads c y z
agree_leads b c x a d h (here p) = here p
agree_leads b c x a d {y} {z} h (back p l) =
    back p (subst (λ (v : ℕ). Leads c v z) (sym (a y h)) (agree_leads b c x a d (omega (arith, d y p, h)) l))

zeros : (n i : ℕ) → ◌≡◌ {A = ℕ} (get_or (replicate n 0) i 0) 0
zeros zero i = refl
zeros (suc n) zero = refl
zeros (suc n) (suc i) = zeros n i

-- nothing is filed yet
pub file_start : (t : ℕ) (bucket serial : List ℕ) → Filed t bucket serial (replicate 4096 0) (replicate 4096 0) t
file_start t bucket serial = start (replicate 4096 0) (length-replicate {A = ℕ} 4096 0) (zeros 4096)
  where
    start : (zs : List ℕ) → length zs ≡ 4096 → ((i : ℕ) → get_or zs i 0 ≡ 0) → Filed t bucket serial zs zs t
    start zs l z =
        record {
          latest_lent = l;
          earlier = record { lent = l; each = λ y h. omega (arith, z y, h) };
          low = λ k h. absurd (omega (arith, z k, h));
          filed = λ v a h. absurd (omega (arith, a.after, h));
          real = λ k v m. absurd (omega (arith, leads_some m, z k));
          differ = λ y v a b h i e. absurd (omega (arith, a.after, h));
        }

module _ (t : ℕ) (bucket serial latest before : List ℕ) (x : ℕ) (f : Fileable t bucket serial latest before x) where
  abbrev o : Filed t bucket serial latest before x
  o = f.so_far

  module _ (h : get_or bucket x 0 < t) where
    armed_x : Armed t bucket x
    armed_x = record { after = f.beyond; lent = f.lent; names = h }

    abbrev key : ℕ
    key = get_or serial x 0 % 4096

    abbrev latest' : List ℕ
    latest' = set latest key x

    abbrev before' : List ℕ
    before' = set before x (get_or latest key 0)

    key_lent : key < length latest
    key_lent = let b : key < 4096 = mod-lt (get_or serial x 0) (omega arith) in omega (arith, o.latest_lent)

    x_lent : x < length before
    x_lent = omega (arith, o.earlier.lent, f.lent, f.sized.few)

    some_x : 0 < x
    some_x = omega (arith, f.beyond, h)

    at_key : get_or latest' key 0 ≡ x
    at_key = get_or-set_same latest key x 0 key_lent

    off_key : (k : ℕ) → (k ≡ key → ⊥) → get_or latest' k 0 ≡ get_or latest k 0
    off_key k n = get_or-set_other latest key k x 0 n

    at_x : get_or before' x 0 ≡ get_or latest key 0
    at_x = get_or-set_same before x (get_or latest key 0) 0 x_lent

    off_x : (y : ℕ) → (y ≡ x → ⊥) → get_or before' y 0 ≡ get_or before y 0
    off_x y n = get_or-set_other before x y (get_or latest key 0) 0 n

    low_key : get_or latest key 0 < x
    low_key = ⊎_elim (λ (p : 0 < get_or latest key 0). o.low key p) (λ p. omega (arith, p, some_x)) (below? 0 (get_or latest key 0))

    earlier' : (y : ℕ) → 0 < y → get_or before' y 0 < y
    earlier' y p =
        ⊎_elim
        (λ (e : y ≡ x). omega (arith, ap (λ (v : ℕ). get_or before' v 0) e, at_x, low_key, e))
        (λ (n : y ≡ x → ⊥). omega (arith, off_x y n, o.earlier.each y p))
        (same? y x)

    -- what was led to is led to, and the other way round
    leads_now : (y z : ℕ) → y < x → Leads before y z → Leads before' y z
    leads_now y z i l = agree_leads before before' x (λ v j. off_x v (λ e. omega (arith, e, j))) o.earlier.each i l

    leads_then : (y z : ℕ) → y < x → Leads before' y z → Leads before y z
    leads_then y z i l = agree_leads before' before x (λ v j. sym (off_x v (λ e. omega (arith, e, j)))) earlier' i l

    below_x : (k z : ℕ) → Leads before (get_or latest k 0) z → get_or latest k 0 < x
    below_x k z l = o.low k (leads_some l)

    leads_from_x : (z : ℕ) → Leads before' x z → Armed t bucket z × (z < x + 1)
    leads_from_x z (here p) = (armed_x, omega arith)
    leads_from_x z (back p l) =
        let u = o.real key z (leads_then (get_or latest key 0) z low_key (rw at_x at l)) in
        (u.0, omega (arith, u.1))

    filed' : (z : ℕ) → Armed t bucket z → z < x + 1 → Leads before' (get_or latest' (get_or serial z 0 % 4096) 0) z
    filed' z a i =
        ⊎_elim
        (λ (e : z ≡ x). subst (λ (v : ℕ). Leads before' (get_or latest' (get_or serial v 0 % 4096) 0) v) (sym e) (rw at_key (here some_x)))
        (λ (n : z ≡ x → ⊥).
        let l = o.filed z a (omega (arith, i, n)) in
        ⊎_elim
        (λ (e : get_or serial z 0 % 4096 ≡ key).
        let l' : Leads before (get_or latest key 0) z = rw e at l in
        rw (e, at_key) (back some_x (subst (λ (v : ℕ). Leads before' v z) (sym at_x) (leads_now (get_or latest key 0) z low_key l'))))
        (λ (m : get_or serial z 0 % 4096 ≡ key → ⊥).
        rw (off_key (get_or serial z 0 % 4096) m) (leads_now _ z (below_x (get_or serial z 0 % 4096) z l) l))
        (same? (get_or serial z 0 % 4096) key))
        (same? z x)

    real' : (k z : ℕ) → Leads before' (get_or latest' k 0) z → Armed t bucket z × (z < x + 1)
    real' k z l =
        ⊎_elim
        (λ (e : k ≡ key). leads_from_x z (rw (e, at_key) at l))
        (λ (n : k ≡ key → ⊥).
        let l' : Leads before' (get_or latest k 0) z = rw (off_key k n) at l in
        let u = o.real k z (leads_then (get_or latest k 0) z (o.low k (leads_some l')) l') in
        (u.0, omega (arith, u.1)))
        (same? k key)

    low' : (k : ℕ) → 0 < get_or latest' k 0 → get_or latest' k 0 < x + 1
    low' k p =
        ⊎_elim
        (λ (e : k ≡ key). omega (arith, ap (λ (v : ℕ). get_or latest' v 0) e, at_key))
        (λ (n : k ≡ key → ⊥). let q : 0 < get_or latest k 0 = rw (off_key k n) at p in omega (arith, off_key k n, o.low k q))
        (same? k key)

    module _ (y : ℕ) (r : Bool) (e : y ≡ get_or latest (get_or serial x 0 % 4096) 0) (d : Decides (Met before serial y (get_or serial x 0)) r) (i : r ≡ false) where
      -- no slot filed has the serial of x
      alone : (z : ℕ) → Armed t bucket z → z < x → get_or serial z 0 ≡ get_or serial x 0 → ⊥
      alone z a j s =
          let l : Leads before (get_or latest key 0) z = rw s at (o.filed z a j) in
          false≢true (sym i ∙ d.complete (record { slot = z; leads = rw e l; is = s }))

      differ' : (y z : ℕ) → Armed t bucket y → Armed t bucket z → y < x + 1 → z < x + 1 → get_or serial y 0 ≡ get_or serial z 0 → y ≡ z
      differ' y z a b j k s =
          ⊎_elim
          (λ (p : y ≡ x).
          ⊎_elim
          (λ (q : z ≡ x). p ∙ sym q)
          (λ (n : z ≡ x → ⊥). absurd (alone z b (omega (arith, k, n)) (sym s ∙ ap (λ (v : ℕ). get_or serial v 0) p)))
          (same? z x))
          (λ (m : y ≡ x → ⊥).
          ⊎_elim
          (λ (q : z ≡ x). absurd (alone y a (omega (arith, j, m)) (s ∙ ap (λ (v : ℕ). get_or serial v 0) q)))
          (λ (n : z ≡ x → ⊥). o.differ y z a b (omega (arith, j, m)) (omega (arith, k, n)) s)
          (same? z x))
          (same? y x)

      pub file_new : Files t bucket serial (set latest (get_or serial x 0 % 4096) x) (set before x (get_or latest (get_or serial x 0 % 4096) 0)) x true
      file_new =
          record {
            filed = λ _.
                record {
                  latest_lent = length-set latest key x ∙ o.latest_lent;
                  earlier = record { lent = length-set before x (get_or latest key 0) ∙ o.earlier.lent; each = earlier' };
                  low = low';
                  filed = filed';
                  real = real';
                  differ = differ';
                };
            twice = λ z. absurd (false≢true (sym z));
          }
