-- One deque's list is replaced: what the records must keep so that they stand for the lists with that one changed.
-- Linking, unlinking and turning are cases.
use Prim.Native.Nat.{ℕ, ◌<◌}
use native.Mathlib.Omega.{arith}
use mathlib.Core.Path.{◌≡◌, sym, ap, ◌∙◌}
use mathlib.Core.Logic.{◌⊎◌, inl, inr, ⊎_elim}
use mathlib.Core.List.{List, []}
use lib.ListN.{length, get_or, length-set}
use lib.Seq.{get_or-set_same, get_or-set_other}
use borrow.Author.Tests.{ne_eqb}
use Rattle.deque_rules.specs.Links.{Chain, Links, Deques as Lists, slot_after as step, home_of, deq, Rep}
use Rattle.numbers.specs.Shared.{no_slot as none, In, Once}
use Rattle.deque_rules.specs.Lists.{with_deque}
use Rattle.numbers.proofs.Cases.{same?}
use Rattle.numbers.proofs.Members.{in-at}
use Rattle.deque_rules.proofs.Chains.{agree, path_agree, chain_once}

-- the records b differ from a in the ends of the deque d, in the links of its slots and of s, and in the home of s at
-- most
pub record Local (a b : Links) (d s : ℕ) : Type 0 where
  pub heads_len : length b.heads ≡ length a.heads
  pub tails_len : length b.tails ≡ length a.tails
  pub next_len : length b.next ≡ length a.next
  pub prev_len : length b.prev ≡ length a.prev
  pub home_len : length b.home ≡ length a.home
  pub heads_off : (e : ℕ) → (e ≡ d → ⊥) → get_or b.heads e 0 ≡ get_or a.heads e 0
  pub tails_off : (e : ℕ) → (e ≡ d → ⊥) → get_or b.tails e 0 ≡ get_or a.tails e 0
  pub next_off : (x : ℕ) → x < length a.next → (home_of a x ≡ d → ⊥) → (x ≡ s → ⊥) → get_or b.next x 0 ≡ get_or a.next x 0
  pub prev_off : (x : ℕ) → x < length a.prev → (home_of a x ≡ d → ⊥) → (x ≡ s → ⊥) → get_or b.prev x 0 ≡ get_or a.prev x 0
  pub home_off : (x : ℕ) → (x ≡ s → ⊥) → home_of b x ≡ home_of a x

-- what is known of s and of the new list
pub record Suits (a b : Links) (v : Lists) (loose loose' : List ℕ) (d s : ℕ) (xs : List ℕ) : Type 0 where
  pub deque : d < v.count
  pub near : (home_of a s ≡ d) ⊎ (home_of a s ≡ none)
  pub not_free : In s v.free → ⊥
  pub linked : Chain none (step b.heads b.next d) (step b.tails b.prev d) none xs
  pub member : (x : ℕ) → In x xs → (x < v.slots) × (home_of b x ≡ d)
  pub homed : (x : ℕ) → x < v.slots → home_of b x ≡ d → In x xs
  pub now : (home_of b s ≡ d) ⊎ (home_of b s ≡ none)
  pub apart : (x : ℕ) → In x loose' → (x < v.slots) × (home_of b x ≡ none) × (In x v.free → ⊥)
  pub once : Once loose'
  pub covered : (x : ℕ) → x < v.slots → home_of b x ≡ none → (x ≡ s) ⊎ In x loose → In x loose'

module _ (a b : Links) (v : Lists) (loose loose' : List ℕ) (d s : ℕ) (xs : List ℕ) (r : Rep a v loose) (l : Local a b d s)
    (t : Suits a b v loose loose' d s xs) where
  -- d is no none, so neither is any deque's number
  real_d : (e : ℕ) → e < v.count → e ≡ none → ⊥
  real_d e h i = omega (arith, h, r.few, i)

  -- a slot of another deque is not s, and a free slot is not s
  far : (e x : ℕ) → e < v.count → (e ≡ d → ⊥) → home_of a x ≡ e → x ≡ s → ⊥
  far e x h n i j =
      ⊎_elim
      (λ (k : home_of a s ≡ d). n (sym i ∙ ap (home_of a) j ∙ k))
      (λ (k : home_of a s ≡ none). real_d e h (sym i ∙ ap (home_of a) j ∙ k))
      t.near

  free_far : (x : ℕ) → In x v.free → x ≡ s → ⊥
  free_far x m e = t.not_free (in-at v.free e m)

  at_d : deq (with_deque d xs v) d ≡ xs
  at_d = get_or-set_same v.held d xs [] (rw r.held_len t.deque)

  off_d : (e : ℕ) → (e ≡ d → ⊥) → deq (with_deque d xs v) e ≡ deq v e
  off_d e n = get_or-set_other v.held d e xs [] n

  linked_e : (e : ℕ) → e < v.count → (e ≡ d → ⊥) → Chain none (step b.heads b.next e) (step b.tails b.prev e) none (deq v e)
  linked_e e h n =
      agree none (step a.heads a.next e) (step a.tails a.prev e) (step b.heads b.next e) (step b.tails b.prev e) none (deq v e)
      (l.heads_off e n)
      (λ x m.
      let i = r.member e x h m in
      let c : home_of a x ≡ d → ⊥ = λ j. n (sym i.1 ∙ j) in
      let k : x ≡ none → ⊥ = λ j. omega (arith, i.0, r.small, j) in (
        simp (ne_eqb x none k) (l.next_off x (rw r.next_len i.0) c (far e x h n i.1)),
        simp (ne_eqb x none k)
            (l.prev_off x (rw r.prev_len i.0) c (far e x h n i.1)),
      ))
      (l.tails_off e n)
      (r.linked e h)

  -- a slot whose home is another deque now has had it before
  home_e : (x : ℕ) → (home_of b x ≡ d → ⊥) → (home_of b x ≡ none → ⊥) → home_of b x ≡ home_of a x
  home_e x n m =
      l.home_off x (λ e. ⊎_elim (λ (k : home_of b s ≡ d). n (ap (home_of b) e ∙ k)) (λ (k : home_of b s ≡ none). m (ap (home_of b) e ∙ k)) t.now)

  pub swapped : Rep b (with_deque d xs v) loose'
  swapped =
      record {
        heads_len = l.heads_len ∙ r.heads_len;
        tails_len = l.tails_len ∙ r.tails_len;
        next_len = l.next_len ∙ r.next_len;
        prev_len = l.prev_len ∙ r.prev_len;
        home_len = l.home_len ∙ r.home_len;
        few = r.few;
        small = r.small;
        held_len = simp length-set r.held_len;
        linked = λ e h. ⊎_elim (λ (i : e ≡ d). rw (i, at_d) t.linked) (λ (n : e ≡ d → ⊥). rw (off_d e n) (linked_e e h n)) (same? e d);
        member = λ e x h m.
            ⊎_elim
            (λ (i : e ≡ d). let u = t.member x (rw (i, at_d) at m) in (u.0, u.1 ∙ sym i))
            (λ (n : e ≡ d → ⊥).
            let u = r.member e x h (rw (off_d e n) at m) in
            (u.0, l.home_off x (far e x h n u.1) ∙ u.1))
            (same? e d);
        homed = λ x h n.
            ⊎_elim
            (λ (i : home_of b x ≡ d). rw (i, at_d) (t.deque, t.homed x h i))
            (λ (i : home_of b x ≡ d → ⊥).
            let e = home_e x i n in
            let u = r.homed x h (λ k. n (e ∙ k)) in
            rw (off_d (home_of b x) i, e) u)
            (same? (home_of b x) d);
        chained =
            path_agree (λ (x : ℕ). get_or a.next x 0) _ v.free
            (λ x m.
            let u = r.spare x m in
            l.next_off x (rw r.next_len u.0) (λ k. real_d d t.deque (sym k ∙ u.1)) (free_far x m))
            r.chained;
        spare = λ x m. let u = r.spare x m in (u.0, l.home_off x (free_far x m) ∙ u.1);
        apart = t.apart;
        once = t.once;
        covered = λ x h e.
            ⊎_elim
            (λ (i : x ≡ s). inr (t.covered x h e (inl i)))
            (λ (n : x ≡ s → ⊥). ⊎_elim (λ m. inl m) (λ m. inr (t.covered x h e (inr m))) (r.covered x h (sym (l.home_off x n) ∙ e)))
            (same? x s);
      }

-- ---- what every law of a deque's slots starts from
module _ (a : Links) (v : Lists) (loose : List ℕ) (r : Rep a v loose) where
  pub slot_real : (d : ℕ) → d < v.count → (x : ℕ) → In x (deq v d) → x ≡ none → ⊥
  slot_real d h x m e = omega (arith, (r.member d x h m).0, r.small, e)

  pub free_real : (x : ℕ) → In x v.free → x ≡ none → ⊥
  free_real x m e = omega (arith, (r.spare x m).0, r.small, e)

  pub deq_once : (d : ℕ) → d < v.count → Once (deq v d)
  deq_once d h = chain_once none (step a.heads a.next d) (step a.tails a.prev d) none (deq v d) (r.linked d h) (slot_real d h)
