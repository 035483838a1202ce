-- The records once a slot is taken out of its deque.
use Prim.Native.Nat.{ℕ, ◌<◌}
use native.Mathlib.Omega.{arith}
use mathlib.Core.Path.{◌≡◌, refl, sym, ap, ◌∙◌}
use mathlib.Core.Logic.{inl, inr, ⊎_elim}
use mathlib.Core.List.{List, ◌∷◌}
use lib.ListN.{get_or, set, length-set}
use lib.Seq.{get_or-set_same, get_or-set_other}
use Rattle.deque_rules.specs.Links.{Chain, Links, Deques as Lists, links, slot_after as step, home_of, deq, Rep, end_at, cut_out}
use Rattle.numbers.specs.Lists.{remove}
use Rattle.numbers.specs.Shared.{no_slot as none, In}
use Rattle.deque_rules.specs.Lists.{take_out}
use Rattle.deque_rules.specs.Change.{CanPut, Held, CutsOut}
use Rattle.numbers.proofs.Members.{in-at, removed, kept, gone}
use Rattle.deque_rules.proofs.Chains.{prev_in, next_in, cut}
use Rattle.deque_rules.proofs.Arrays.{length_end_at, end_at_other, step_slot, put_at, put_other}
use Rattle.deque_rules.proofs.Swap.{Local, Suits, swapped, slot_real, deq_once}

module _ (a : Links) (v : Lists) (loose : List ℕ) (s : ℕ) (r : Rep a v loose) (s_slot : s < v.slots) (s_home : home_of a s ≡ none → ⊥) where
  abbrev d : ℕ
  d = home_of a s

  abbrev p : ℕ
  p = get_or a.prev s 0

  abbrev q : ℕ
  q = get_or a.next s 0

  abbrev b : Links
  b = cut_out a s

  hd : d < v.count
  hd = (r.homed s s_slot s_home).0

  s_in : In s (deq v d)
  s_in = (r.homed s s_slot s_home).1

  abbrev f : ℕ → ℕ
  f = step a.heads a.next d

  abbrev g : ℕ → ℕ
  g = step a.tails a.prev d

  s_real : s ≡ none → ⊥
  s_real = slot_real a v loose r d hd s s_in

  f_s : f s ≡ q
  f_s = step_slot a.heads a.next d s s_real

  g_s : g s ≡ p
  g_s = step_slot a.tails a.prev d s s_real

  -- what stands before and after s is none or in d
  pub p_in : (p ≡ none → ⊥) → In p (deq v d)
  p_in n = ⊎_elim (λ e. absurd (n (sym g_s ∙ e))) (λ m. in-at (deq v d) g_s m) (prev_in none f g none (deq v d) (r.linked d hd) s s_in)

  pub q_in : (q ≡ none → ⊥) → In q (deq v d)
  q_in n = ⊎_elim (λ e. absurd (n (sym f_s ∙ e))) (λ m. in-at (deq v d) f_s m) (next_in none f g none (deq v d) (r.linked d hd) s s_in)

  -- a slot with another home is neither
  elsewhere : (y : ℕ) → ((y ≡ none → ⊥) → In y (deq v d)) → (x : ℕ) → x < v.slots → (home_of a x ≡ d → ⊥) → x ≡ y → ⊥
  elsewhere y w x h n e = n (ap (home_of a) e ∙ (r.member d y hd (w (λ k. omega (arith, h, r.small, e, k)))).1)

  home_s : home_of b s ≡ none
  unfolding cut_out
  home_s = get_or-set_same a.home s none 0 (rw r.home_len s_slot)

  home_x : (x : ℕ) → (x ≡ s → ⊥) → home_of b x ≡ home_of a x
  unfolding cut_out
  home_x x n = get_or-set_other a.home s x none 0 n

  pub cut_local : Local a b d s
  unfolding cut_out
  cut_local =
      record {
        heads_len = length_end_at a.heads d p q;
        tails_len = length_end_at a.tails d q p;
        next_len = simp length-set;
        prev_len = simp length-set;
        home_len = simp length-set;
        heads_off = end_at_other a.heads d p q;
        tails_off = end_at_other a.tails d q p;
        next_off = λ x h c n. get_or-set_other a.next p x q 0 (elsewhere p p_in x (rw r.next_len at h) c);
        prev_off = λ x h c n. get_or-set_other a.prev q x p 0 (elsewhere q q_in x (rw r.prev_len at h) c);
        home_off = home_x;
      }

  linked : Chain none (step b.heads b.next d) (step b.tails b.prev d) none (remove s (deq v d))
  unfolding cut_out
  linked =
      cut none f g _ _ s
      (rw (g_s, f_s) (put_at a.heads a.next d p q (rw r.heads_len hd) (λ n. rw r.next_len (r.member d p hd (p_in n)).0)))
      (rw (g_s, f_s) (put_at a.tails a.prev d q p (rw r.tails_len hd) (λ n. rw r.prev_len (r.member d q hd (q_in n)).0)))
      (λ x n. put_other a.heads a.next d p q x (λ e. n (e ∙ sym g_s)))
      (λ x n. put_other a.tails a.prev d q p x (λ e. n (e ∙ sym f_s)))
      none (deq v d) (slot_real a v loose r d hd) (λ e. s_real (sym e)) s_in (r.linked d hd)

  s_gone : In s (remove s (deq v d)) → ⊥
  s_gone = gone (deq v d) s (deq_once a v loose r d hd)

  not_s : (x : ℕ) → home_of a x ≡ none → x ≡ s → ⊥
  not_s x h e = s_home (ap (home_of a) (sym e) ∙ h)

  cut_fits : Suits a b v loose (s ∷ loose) d s (remove s (deq v d))
  cut_fits =
      record {
        deque = hd;
        near = inl refl;
        not_free = λ m. s_home (r.spare s m).1;
        linked = linked;
        member = λ x m.
            let u = r.member d x hd (removed (deq v d) x s m) in
            (u.0, home_x x (λ e. s_gone (in-at (remove s (deq v d)) e m)) ∙ u.1);
        homed = λ x h e.
            let n : x ≡ s → ⊥ = λ k. omega (arith, e, ap (home_of b) k, home_s, hd, r.few) in
            let i : home_of a x ≡ d = sym (home_x x n) ∙ e in
            kept (deq v d) x s n (rw i at (r.homed x h (λ j. s_home (sym i ∙ j))).1);
        now = inr home_s;
        apart = λ x m.
            ⊎_elim
            (λ (e : x ≡ s). (rw e s_slot, ap (home_of b) e ∙ home_s, λ k. not_s x (r.spare x k).1 e))
            (λ (k : In x loose). let u = r.apart x k in (u.0, home_x x (not_s x u.1) ∙ u.1, u.2))
            m;
        once = (λ m. s_home (r.apart s m).1, r.once);
        covered = λ x h e w. w;
      }

  pub cut_rep : Rep b (take_out d s v) (s ∷ loose)
  cut_rep = swapped a b v loose (s ∷ loose) d s (remove s (deq v d)) r cut_local cut_fits

module _ (a : Links) (s : ℕ) (k : Held a s) where
  -- what `unlink` asks of `put`, first for the slot before s and then for the slot after it
  pub cut_asks : CanPut a.heads a.next (home_of a s) (get_or a.prev s 0)
  cut_asks =
      let r = k.rep in
      let h = (r.homed s k.slot k.homed).0 in
      record {
        deque = rw r.heads_len h;
        slot = λ n. rw r.next_len (r.member _ _ h (p_in a k.v k.loose s r k.slot k.homed n)).0;
        small = rw r.next_len r.small;
      }

  pub cut_asks_2 : CanPut a.tails a.prev (home_of a s) (get_or a.next s 0)
  cut_asks_2 =
      let r = k.rep in
      let h = (r.homed s k.slot k.homed).0 in
      record {
        deque = rw r.tails_len h;
        slot = λ n. rw r.prev_len (r.member _ _ h (q_in a k.v k.loose s r k.slot k.homed n)).0;
        small = rw r.prev_len r.small;
      }

  -- what `unlink` ensures
  pub cut_does : (h n t p : List ℕ) → h ≡ end_at a.heads (home_of a s) (get_or a.prev s 0) (get_or a.next s 0) → n ≡ set a.next (get_or a.prev s 0)
      (get_or a.next s 0) → t ≡ end_at a.tails (home_of a s) (get_or a.next s 0) (get_or a.prev s 0) → p ≡ set a.prev (get_or a.next s 0)
      (get_or a.prev s 0) → CutsOut a (links h t n p (set a.home s none)) s
  unfolding cut_out
  cut_does h n t p i j v w =
      record {
        is = rw (i, j, v, w) refl;
        does = λ u loose r.
            rw (i, j, v, w) (cut_rep a u loose s r (omega (arith, r.home_len, k.rep.home_len, k.slot)) k.homed);
      }
