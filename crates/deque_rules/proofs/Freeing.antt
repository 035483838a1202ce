-- Slots that go from the free chain to be loose, and back.
use Prim.Native.Nat.{ℕ, ◌<◌}
use native.Mathlib.Omega.{arith}
use mathlib.Core.Path.{◌≡◌, refl, sym, ap, subst, ◌∙◌}
use mathlib.Core.Logic.{inl, inr, ⊎_elim}
use mathlib.Core.List.{List, ◌∷◌}
use lib.ListN.{length, get_or, set, length-set}
use lib.Seq.{get_or-set_same, get_or-set_other}
use borrow.Author.Tests.{ne_eqb}
use Rattle.deque_rules.specs.Links.{Path, first, Links, Deques as Lists, links, deq, slot_after as step, Rep}
use Rattle.numbers.specs.Lists.{rest}
use Rattle.numbers.specs.Shared.{no_slot as none, In, Once}
use Rattle.deque_rules.specs.Lists.{taken, freed}
use Rattle.deque_rules.specs.Free.{Takes, GivesBack}
use Rattle.numbers.proofs.Members.{in-at, in-same}
use Rattle.deque_rules.proofs.Slots.{some_first}
use Rattle.deque_rules.proofs.Chains.{agree, path_agree, path_once}
use Rattle.deque_rules.proofs.Swap.{free_real}

-- the first free slot is loose: the records stay
pub take_rep : (a : Links) (v : Lists) (loose : List ℕ) (s : ℕ) → Rep a v loose → v.free ≡ s ∷ rest v.free → Rep a (taken v) (s ∷ loose)
take_rep a v loose s r e =
    let p : Path (λ (x : ℕ). get_or a.next x 0) (s ∷ rest v.free) = rw e at r.chained in
    let o : Once (s ∷ rest v.free) = subst (λ (xs : List ℕ). Once xs) e (path_once _ v.free r.chained (free_real a v loose r)) in
    let there : (x : ℕ) → In x (s ∷ rest v.free) → In x v.free = λ x m. in-same x (sym e) m in
    record {
      heads_len = r.heads_len;
      tails_len = r.tails_len;
      next_len = r.next_len;
      prev_len = r.prev_len;
      home_len = r.home_len;
      few = r.few;
      small = r.small;
      held_len = r.held_len;
      linked = r.linked;
      member = r.member;
      homed = r.homed;
      chained = p.1;
      spare = λ x m. r.spare x (there x (inr m));
      apart = λ x m.
          ⊎_elim
          (λ (i : x ≡ s). let u = r.spare x (there x (inl i)) in (u.0, u.1, λ k. o.0 (in-at (rest v.free) i k)))
          (λ (k : In x loose). let u = r.apart x k in (u.0, u.1, λ i. u.2 (there x (inr i))))
          m;
      once = (λ m. (r.apart s m).2 (there s (inl refl)), r.once);
      covered = λ x h i.
          ⊎_elim (λ m. ⊎_elim (λ k. inr (inl k)) (λ k. inl k) (in-same x e m)) (λ k. inr (inr k)) (r.covered x h i);
    }

-- what `take` ensures
pub take_does : (next : List ℕ) (free : ℕ) → free < length next → Takes next free (get_or next free 0)
take_does next free l =
    record {
      is = refl;
      does = λ h t p o v loose r i.
          let e : v.free ≡ free ∷ rest v.free = some_first v.free free i (λ k. omega (arith, l, r.next_len, r.small, k)) in
          let c : Path (λ (x : ℕ). get_or next x 0) (free ∷ rest v.free) = rw e at r.chained in
          (take_rep (links h t next p o) v loose free r e, sym c.0, e);
    }

-- a loose slot is free: only its own next and prev change
pub give_rep : (h t n p o : List ℕ) (v : Lists) (loose : List ℕ) (s free w : ℕ) → Rep (links h t n p o) v (s ∷ loose) → first v.free ≡ free → Rep
    (links h t (set n s free) (set p s w) o) (freed s v) loose
give_rep h t n p o v loose s free w r f =
    let l = r.apart s (inl refl) in
    let not_s : (x : ℕ) → x ≡ s → In x v.free → ⊥ = λ x e m. l.2 (in-at v.free e m) in
    record {
      heads_len = r.heads_len;
      tails_len = r.tails_len;
      next_len = simp length-set r.next_len;
      prev_len = simp length-set r.prev_len;
      home_len = r.home_len;
      few = r.few;
      small = r.small;
      held_len = r.held_len;
      linked = λ e he.
          agree none (step h n e) (step t p e) (step h (set n s free) e) (step t (set p s w) e) none (deq v e) refl
          (λ x m.
          let i : x ≡ s → ⊥ = λ j. omega (arith, (r.member e x he m).1, ap (λ (y : ℕ). get_or o y 0) j, l.1, r.few, he) in
          let k : x ≡ none → ⊥ = λ j. omega (arith, (r.member e x he m).0, r.small, j) in
          (simp (ne_eqb x none k) (get_or-set_other n s x free 0 i), simp (ne_eqb x none k) (get_or-set_other p s x w 0 i)))
          refl
          (r.linked e he);
      member = r.member;
      homed = r.homed;
      chained = (
        get_or-set_same n s free 0 (rw r.next_len l.0) ∙ sym f,
        path_agree (λ (x : ℕ). get_or n x 0) _ v.free (λ x m. get_or-set_other n s x free 0 (λ e. not_s x e m)) r.chained,
      );
      spare = λ x m. ⊎_elim (λ (e : x ≡ s). (rw e l.0, rw e l.1)) (λ k. r.spare x k) m;
      apart = λ x m.
          let u = r.apart x (inr m) in
          (u.0, u.1, λ i. ⊎_elim (λ (e : x ≡ s). r.once.0 (in-at loose e m)) u.2 i);
      once = r.once.1;
      covered = λ x i e. ⊎_elim (λ k. inl (inr k)) (λ j. ⊎_elim (λ k. inl (inl k)) (λ k. inr k) j) (r.covered x i e);
    }

-- what `give_back` ensures
pub give_does : (n p : List ℕ) (s free : ℕ) → GivesBack n p (set n s free) (set p s none) s free
give_does n p s free = record { next_is = refl; prev_is = refl; does = λ h t o v loose r f. give_rep h t n p o v loose s free none r f }
