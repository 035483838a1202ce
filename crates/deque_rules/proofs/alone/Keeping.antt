-- What making and each step of a cursor do to the lists that the records stand for: they stay sound.
use Prim.Native.Nat.{ℕ, ◌<◌}
use native.Mathlib.Omega.{arith}
use mathlib.Core.Path.{◌≡◌, refl, sym, ap, subst, ◌∙◌}
use mathlib.Core.Logic.{◌⊎◌, inl, inr, ⊎_elim}
use mathlib.Core.List.{List, [], ◌∷◌}
use lib.ListN.{length, get_or, length-set, length-replicate, get_or-replicate}
use lib.Seq.{get_or-set_same, get_or-set_other}
use borrow.Author.Tests.{eq-eqb, ne_eqb}
use Rattle.deque_rules.specs.Chain.{following}
use Rattle.deque_rules.specs.Links.{first, Deques as Lists, deq, Rep, fresh}
use Rattle.numbers.specs.Shared.{no_slot as none, In, Once, before_in as before, after_in as after, up_from, past_end}
use Rattle.deque_rules.specs.Lists.{all_free}
use Rattle.numbers.proofs.Cases.{same?}
use Rattle.numbers.proofs.Members.{in-at, after_in_lem, last_in, once_right, split}
use Rattle.deque_rules.proofs.Laws.{first_in, deq_once, fresh_rep, head_is, tail_is, next_is}
use Rattle.deque_rules.specs.Deque.{State, deque_count as deques, node_count as nodes, Lent, Stands, front_of, back_of, moved_on, cursor_node, made}
use Rattle.deque_rules.specs.Deque.{with_cursor, stepped}
use Rattle.deque_rules.specs.alone.State.{Shows}
use Rattle.deque_rules.specs.alone.Step.{cursor_of}

-- the lent lengths stay where the links stand for as many deques and nodes as before
pub lent_kept : (a b : State) (v w : Lists) (k l : List ℕ) → Lent a → Rep a.links v k → Rep b.links w l → w.count ≡ v.count → w.slots ≡ v.slots →
    length b.lens ≡ length a.lens → length b.cursors ≡ length a.cursors → length b.elements ≡ length a.elements → Lent b
lent_kept a b v w k l z r q c n i j e =
    record {
      deques =
          record {
            some = omega (arith, z.deques.some, r.heads_len, q.heads_len, c);
            few = omega (arith, z.deques.few, r.heads_len, q.heads_len, c);
            tails_len = q.tails_len ∙ sym q.heads_len;
            lens_len = omega (arith, i, z.deques.lens_len, r.heads_len, q.heads_len, c);
            cursors_len = omega (arith, j, z.deques.cursors_len, r.heads_len, q.heads_len, c);
          };
      nodes =
          record {
            some = omega (arith, z.nodes.some, r.next_len, q.next_len, n);
            small = omega (arith, z.nodes.small, r.next_len, q.next_len, n);
            prev_len = q.prev_len ∙ sym q.next_len;
            home_len = q.home_len ∙ sym q.next_len;
            elements_len = omega (arith, e, z.nodes.elements_len, r.next_len, q.next_len, n);
          };
    }

module _ (a : State) (free : ℕ) (v : Lists) (t : Shows a free v) where
  r : Rep a.links v []
  r = t.rep

  -- a deque's number is one of the cursors
  pub in-cursors : (d : ℕ) → d < v.count → d < length a.cursors
  in-cursors d h = omega (arith, h, r.heads_len, t.lent.deques.cursors_len)

  -- ---- the cursor moved on from a node of its deque stands
  pub on_stands : (d s : ℕ) → d < v.count → In s (deq v d) → (moved_on a.links.next s ≡ past_end) ⊎
      (In (moved_on a.links.next s) (deq v d) × (moved_on a.links.next s ≡ s → ⊥))
  on_stands d s h m =
      let e : get_or a.links.next s 0 ≡ following s (deq v d) = next_is a.links v [] r d h s m in
      ⊎_elim
      (λ (k : get_or a.links.next s 0 ≡ none). inl (simp (eq-eqb (get_or a.links.next s 0) none k)))
      (λ (k : get_or a.links.next s 0 ≡ none → ⊥).
      let f : In (get_or a.links.next s 0) (after s (deq v d)) = first_in (after s (deq v d)) (get_or a.links.next s 0) (sym e) k in
      let o : Once (s ∷ after s (deq v d)) = once_right (before s (deq v d)) (s ∷ after s (deq v d))
      (subst (λ (xs : List ℕ). Once xs) (split (deq v d) s m) (deq_once a.links v [] r d h)) in
      simp (ne_eqb (get_or a.links.next s 0) none k)
      (inr (after_in_lem (deq v d) s (get_or a.links.next s 0) f, λ i. o.0 (in-at (after s (deq v d)) i f))))
      (same? (get_or a.links.next s 0) none)

  -- ---- a cursor put elsewhere
  cursor_shows : (d c : ℕ) → d < v.count → Stands c (deq v d) → Shows (with_cursor a d c) free v
  cursor_shows d c h w =
      record {
        lent = lent_kept a (with_cursor a d c) v v [] [] t.lent r r refl refl refl (simp length-set) refl;
        rep = r;
        free_is = t.free_is;
        lengths = t.lengths;
        cursors = λ i j.
            ⊎_elim
            (λ (k : i ≡ d). rw (k, get_or-set_same a.cursors d c 0 (in-cursors d h)) w)
            (λ (k : i ≡ d → ⊥). rw (get_or-set_other a.cursors d i c 0 k) (t.cursors i j))
            (same? i d);
      }

  pub reset_shows : (d : ℕ) → d < v.count → Shows (with_cursor a d none) free v
  reset_shows d h = cursor_shows d none h (inl refl)

  -- what next by cursor starts from is none, past the end or a node of the deque
  pub start_stands : (d : ℕ) → d < v.count → Stands (cursor_node a d) (deq v d)
  start_stands d h =
      ⊎_elim
      (λ (k : cursor_of a d ≡ none).
      simp (eq-eqb (cursor_of a d) none k)
      (⊎_elim (λ i. inl i) (λ (n : front_of a d ≡ none → ⊥). inr (inr (first_in (deq v d) (front_of a d) (sym (head_is a.links v [] r d h)) n)))
      (same? (front_of a d) none)))
      (λ (n : cursor_of a d ≡ none → ⊥). simp (ne_eqb (cursor_of a d) none n) (t.cursors d h))
      (same? (cursor_of a d) none)

  pub stepped_shows : (d : ℕ) → d < v.count → Shows (stepped a d) free v
  stepped_shows d h =
      ⊎_elim
      (λ (k : cursor_node a d ≡ none). simp (eq-eqb (cursor_node a d) none k) (reset_shows d h))
      (λ (n : cursor_node a d ≡ none → ⊥).
      simp (ne_eqb (cursor_node a d) none n)
      (⊎_elim
      (λ (k : cursor_node a d ≡ past_end). simp (eq-eqb (cursor_node a d) past_end k) (reset_shows d h))
      (λ (m : cursor_node a d ≡ past_end → ⊥).
      simp (ne_eqb (cursor_node a d) past_end m)
      (let i : In (cursor_node a d) (deq v d) = ⊎_elim (λ k. absurd (n k)) (λ u. ⊎_elim (λ k. absurd (m k)) (λ k. k) u) (start_stands d h) in
      cursor_shows d (moved_on a.links.next (cursor_node a d)) h
      (⊎_elim (λ k. inr (inl k)) (λ (k : In (moved_on a.links.next (cursor_node a d)) (deq v d) ×
      (moved_on a.links.next (cursor_node a d) ≡ cursor_node a d → ⊥)). inr (inr k.0)) (on_stands d (cursor_node a d) h i))))
      (same? (cursor_node a d) past_end)))
      (same? (cursor_node a d) none)

  -- ---- the ends: a node of the deque, or there is none
  pub front_in : (d : ℕ) → d < v.count → (front_of a d ≡ none → ⊥) → In (front_of a d) (deq v d)
  front_in d h n = first_in (deq v d) (front_of a d) (sym (head_is a.links v [] r d h)) n

  pub back_in : (d : ℕ) → d < v.count → (back_of a d ≡ none → ⊥) → In (back_of a d) (deq v d)
  back_in d h n = last_in (deq v d) none (back_of a d) (sym (tail_is a.links v [] r d h)) n

-- ---- make
pub made_shows : (a : State) → Lent a → Shows (made a) (first (up_from (nodes a) 0)) (all_free (deques a) (nodes a))
made_shows a z =
    let q : Rep (fresh (deques a) (nodes a)) (all_free (deques a) (nodes a)) [] = fresh_rep (deques a) (nodes a) (omega (arith, z.deques.few))
    z.nodes.small in
    record {
      lent =
          record {
            deques =
                record {
                  some = omega (arith, q.heads_len, z.deques.some);
                  few = omega (arith, q.heads_len, z.deques.few);
                  tails_len = q.tails_len ∙ sym q.heads_len;
                  lens_len = length-replicate (deques a) 0 ∙ sym q.heads_len;
                  cursors_len = length-replicate (deques a) none ∙ sym q.heads_len;
                };
            nodes =
                record {
                  some = omega (arith, q.next_len, z.nodes.some);
                  small = omega (arith, q.next_len, z.nodes.small);
                  prev_len = q.prev_len ∙ sym q.next_len;
                  home_len = q.home_len ∙ sym q.next_len;
                  elements_len = length-replicate (nodes a) 0 ∙ sym q.next_len;
                };
          };
      rep = q;
      free_is = refl;
      lengths = λ d h. get_or-replicate (deques a) d 0 0 h ∙ ap length (sym (get_or-replicate (deques a) d [] [] h));
      cursors = λ d h. inl (get_or-replicate (deques a) d none 0 h);
    }
