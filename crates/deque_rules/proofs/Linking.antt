-- The records once a loose slot is linked at the back of a deque.
use Prim.Native.Nat.{ℕ, ◌<◌}
use native.Mathlib.Omega.{arith}
use mathlib.Core.Path.{◌≡◌, refl, sym, ap, ◌∙◌}
use mathlib.Core.Logic.{inl, inr, ⊎_elim}
use mathlib.Core.List.{List, [], ◌∷◌, ◌++◌}
use lib.ListN.{get_or, set, length-set}
use lib.Seq.{get_or-set_same, get_or-set_other}
use borrow.Author.Tests.{ne_eqb}
use Rattle.deque_rules.specs.Links.{Chain, Links, Deques as Lists, links, slot_after as step, home_of, deq, Rep, end_at, link_back}
use Rattle.numbers.specs.Shared.{no_slot as none, In}
use Rattle.deque_rules.specs.Lists.{push_back}
use Rattle.deque_rules.specs.Change.{CanPut, Linkable, LinksBack}
use Rattle.numbers.proofs.Cases.{same?}
use Rattle.numbers.proofs.Members.{in-at, in-back, back_old, back_new}
use Rattle.deque_rules.proofs.Chains.{chain_end, snoc}
use Rattle.deque_rules.proofs.Arrays.{length_end_at, end_at_other, put_at, put_other}
use Rattle.deque_rules.proofs.Swap.{Local, Suits, swapped, slot_real}

module _ (a : Links) (v : Lists) (loose : List ℕ) (d s : ℕ) (r : Rep a v (s ∷ loose)) (hd : d < v.count) where
  abbrev t : ℕ
  t = get_or a.tails d 0

  abbrev b : Links
  b = link_back a d s

  s_slot : s < v.slots
  s_slot = (r.apart s (inl refl)).0

  s_loose : home_of a s ≡ none
  s_loose = (r.apart s (inl refl)).1

  s_real : s ≡ none → ⊥
  s_real e = omega (arith, s_slot, r.small, e)

  d_real : d ≡ none → ⊥
  d_real e = omega (arith, r.few, hd, e)

  not_s : (x : ℕ) → In x (deq v d) → x ≡ s → ⊥
  not_s x m e = omega (arith, (r.member d x hd m).1, ap (home_of a) e, s_loose, r.few, hd)

  -- the old tail is none or a slot of d
  pub t_in : (t ≡ none → ⊥) → In t (deq v d)
  t_in n = ⊎_elim (λ e. absurd (n e)) (λ m. m) (chain_end none (step a.heads a.next d) (step a.tails a.prev d) none (deq v d) (r.linked d hd))

  s_not_t : s ≡ t → ⊥
  s_not_t e = not_s t (t_in (λ i. s_real (e ∙ i))) (sym e)

  home_s : home_of b s ≡ d
  unfolding link_back
  home_s = get_or-set_same a.home s d 0 (rw r.home_len s_slot)

  home_x : (x : ℕ) → (x ≡ s → ⊥) → home_of b x ≡ home_of a x
  unfolding link_back
  home_x x n = get_or-set_other a.home s x d 0 n

  pub link_local : Local a b d s
  unfolding link_back
  link_local =
      record {
        heads_len = length_end_at a.heads d t s;
        tails_len = simp length-set;
        next_len = simp length-set;
        prev_len = simp length-set;
        home_len = simp length-set;
        heads_off = end_at_other a.heads d t s;
        tails_off = λ e n. get_or-set_other a.tails d e s 0 n;
        next_off = λ x h c n.
            get_or-set_other (set a.next s none) t x s 0
            (λ e. c (ap (home_of a) e ∙ (r.member d t hd (t_in (λ k. omega (arith, h, r.next_len, r.small, e, k)))).1))
            ∙ get_or-set_other a.next s x none 0 n;
        prev_off = λ x h c n. get_or-set_other a.prev s x t 0 n;
        home_off = home_x;
      }

  linked : Chain none (step b.heads b.next d) (step b.tails b.prev d) none (deq v d ++ (s ∷ []))
  unfolding link_back
  linked =
      snoc none (step a.heads a.next d) (step a.tails a.prev d) (step b.heads b.next d) (step b.tails b.prev d) s
      (put_at a.heads (set a.next s none) d t s (rw r.heads_len hd) (λ n. simp (length-set, r.next_len) (r.member d t hd (t_in n)).0))
      (put_other a.heads (set a.next s none) d t s s s_not_t ∙ simp (ne_eqb s none s_real) (get_or-set_same a.next s none 0 (rw r.next_len s_slot)))
      (simp (ne_eqb s none s_real) (get_or-set_same a.prev s t 0 (rw r.prev_len s_slot)))
      (get_or-set_same a.tails d s 0 (rw r.tails_len hd))
      (λ x n m. put_other a.heads (set a.next s none) d t s x n ∙ simp (get_or-set_other a.next s x none 0 m))
      (λ x n m. simp (ne_eqb x none n) (get_or-set_other a.prev s x t 0 m))
      none (deq v d)
      (λ e. s_real (sym e)) (λ m. not_s s m refl) (slot_real a v (s ∷ loose) r d hd) (r.linked d hd)

  loose_not_s : (x : ℕ) → In x loose → x ≡ s → ⊥
  loose_not_s x m e = r.once.0 (in-at loose e m)

  link_fits : Suits a b v (s ∷ loose) loose d s (deq v d ++ (s ∷ []))
  link_fits =
      record {
        deque = hd;
        near = inr s_loose;
        not_free = (r.apart s (inl refl)).2;
        linked = linked;
        member = λ x m.
            ⊎_elim
            (λ (k : In x (deq v d)). ((r.member d x hd k).0, home_x x (not_s x k) ∙ (r.member d x hd k).1))
            (λ (k : x ≡ s). (rw k s_slot, ap (home_of b) k ∙ home_s))
            (in-back (deq v d) x s m);
        homed = λ x h e.
            ⊎_elim
            (λ (k : x ≡ s). in-at (deq v d ++ (s ∷ [])) (sym k) (back_new (deq v d) s))
            (λ (k : x ≡ s → ⊥).
            let i : home_of a x ≡ d = sym (home_x x k) ∙ e in
            back_old (deq v d) x s (rw i at (r.homed x h (λ j. d_real (sym i ∙ j))).1))
            (same? x s);
        now = inl home_s;
        apart = λ x m. let u = r.apart x (inr m) in (u.0, home_x x (loose_not_s x m) ∙ u.1, u.2);
        once = r.once.1;
        covered = λ x h e w.
            ⊎_elim
            (λ (k : x ≡ s). absurd (d_real (sym home_s ∙ ap (home_of b) (sym k) ∙ e)))
            (λ i. ⊎_elim (λ (k : x ≡ s). absurd (d_real (sym home_s ∙ ap (home_of b) (sym k) ∙ e))) (λ m. m) i)
            w;
      }

  pub link_rep : Rep b (push_back d s v) loose
  link_rep = swapped a b v (s ∷ loose) loose d s (deq v d ++ (s ∷ [])) r link_local link_fits

-- what `link_back` asks of `put`
pub link_asks : (a : Links) (d s : ℕ) → Linkable a d s → CanPut a.heads (set a.next s none) d (get_or a.tails d 0)
link_asks a d s l =
    let r = l.rep in
    record {
      deque = rw r.heads_len l.deque;
      slot = λ n. simp (length-set, r.next_len) (r.member d _ l.deque (t_in a l.v l.loose d s r l.deque n)).0;
      small = simp (length-set, r.next_len) r.small;
    }

-- what `link_back` ensures
pub link_does : (a : Links) (d s : ℕ) (h n : List ℕ) → Linkable a d s → h ≡ end_at a.heads d (get_or a.tails d 0) s → n ≡ set (set a.next s none)
    (get_or a.tails d 0) s → LinksBack a (links h (set a.tails d s) n (set a.prev s (get_or a.tails d 0)) (set a.home s d)) d s
unfolding link_back
link_does a d s h n l p q =
    record {
      is = rw (p, q) refl;
      does = λ v loose r. rw (p, q) (link_rep a v loose d s r (omega (arith, r.heads_len, l.rep.heads_len, l.deque)));
    }
