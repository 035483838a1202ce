-- What linking and unlinking a node does to the lists that the records stand for: they stay sound.
use Prim.Native.Nat.{ℕ, ◌+◌, ◌-◌, ◌≤◌, ◌<◌}
use native.Mathlib.Omega.{arith}
use mathlib.Core.Path.{◌≡◌, refl, sym, ap, subst, ◌∙◌}
use mathlib.Core.Logic.{inl, inr, ⊎_elim}
use mathlib.Core.List.{List, [], ◌∷◌, ◌++◌}
use lib.ListN.{length, get_or, length-set, length-append}
use lib.Seq.{get_or-set_same, get_or-set_other, set-set}
use borrow.Author.Tests.{eq-eqb, ne_eqb}
use Rattle.numbers.specs.Lists.{last_or, remove}
use Rattle.numbers.specs.Shared.{no_slot as none, In, Once}
use Rattle.deque_rules.specs.Links.{Deques as Lists, home_of, deq, Rep, removed, move_back}
use Rattle.deque_rules.specs.Lists.{with_deque, push_back, take_out, taken, freed}
use Rattle.numbers.proofs.Cases.{same?}
use Rattle.numbers.proofs.Members.{in-at, back_old, kept, length_remove}
use Rattle.deque_rules.proofs.Laws.{deq_once, push_rep, remove_rep, move_rep, tail_is, deq_at, deq_off, deq_same, in-home, push_in}
use Rattle.numbers.proofs.Counting.{at_most}
use Rattle.deque_rules.specs.Deque.{State, Stands, next_of, back_of, recorded_length as length_of, moved_on, step_off, pushed, released, shifted, moved_back}
use Rattle.deque_rules.specs.alone.State.{Shows}
use Rattle.deque_rules.specs.alone.Step.{cursor_of}
use Rattle.deque_rules.proofs.alone.Keeping.{lent_kept, in-cursors, on_stands}
use Rattle.deque_rules.specs.alone.Work.{to_back}

length_off : (c n : List ℕ) (d s : ℕ) → length (step_off c n d s) ≡ length c
length_off c n d s =
    ⊎_elim (λ (e : get_or c d 0 ≡ s). simp (eq-eqb (get_or c d 0) s e, length-set)) (λ (m : get_or c d 0 ≡ s → ⊥). simp (ne_eqb (get_or c d 0) s m))
    (same? (get_or c d 0) s)

off_other : (c n : List ℕ) (d s e : ℕ) → (e ≡ d → ⊥) → get_or (step_off c n d s) e 0 ≡ get_or c e 0
off_other c n d s e k =
    ⊎_elim
    (λ (i : get_or c d 0 ≡ s). simp (eq-eqb (get_or c d 0) s i, get_or-set_other c d e (moved_on n s) 0 k))
    (λ (m : get_or c d 0 ≡ s → ⊥). simp (ne_eqb (get_or c d 0) s m))
    (same? (get_or c d 0) s)

in-last : (b : ℕ) (ws : List ℕ) → In (last_or b ws) (b ∷ ws)
in-last b [] = inl refl
in-last b (w ∷ ws) = inr (in-last w ws)

module _ (a : State) (free : ℕ) (v : Lists) (t : Shows a free v) where
  r : Rep a.links v []
  r = t.rep

  -- a deque's number is one of the lens
  pub in_lens : (d : ℕ) → d < v.count → d < length a.lens
  in_lens d h = omega (arith, h, r.heads_len, t.lent.deques.lens_len)

  in_held : (d : ℕ) → d < v.count → d < length v.held
  in_held d h = rw r.held_len h

  -- the recorded length is at most the number of nodes
  pub length_small : (d : ℕ) → d < v.count → length_of a d ≤ v.slots
  length_small d h =
      rw (t.lengths d h) (at_most v.slots (deq v d) (deq_once a.links v [] r d h) (λ x m. (r.member d x h m).0))

  -- ---- push back
  pub pushed_shows : (d e : ℕ) → free < v.slots → d < v.count → Shows (pushed a free d e) (next_of a free) (push_back d free (taken v))
  pushed_shows d e l h =
      let k = push_rep a.links v free d r t.free_is l h in
      record {
        lent = lent_kept a (pushed a free d e) v (push_back d free (taken v)) [] [] t.lent r k.0 refl refl (simp length-set) refl (simp length-set);
        rep = k.0;
        free_is = k.1;
        lengths = λ i j.
            ⊎_elim
            (λ (k : i ≡ d).
            rw k
            (get_or-set_same a.lens d (length_of a d + 1) 0 (in_lens d h)
            ∙ rw (deq_at d (deq v d ++ (free ∷ [])) v (in_held d h)) (simp length-append (omega (arith, t.lengths d h)))))
            (λ (k : i ≡ d → ⊥). get_or-set_other a.lens d i (length_of a d + 1) 0 k ∙ t.lengths i j ∙ ap length
            (sym (deq_off d (deq v d ++ (free ∷ [])) v i k)))
            (same? i d);
        cursors = λ i j.
            ⊎_elim
            (λ k. inl k)
            (λ u. ⊎_elim (λ k. inr (inl k)) (λ m. inr (inr (push_in d free v (in_held d h) i (cursor_of a i) m))) u)
            (t.cursors i j);
      }

  -- once s leaves d, or goes to its back, where the cursor stood at s it has been moved on
  off_stands : (d s : ℕ) (xs : List ℕ) → d < v.count → In s (deq v d) → ((x : ℕ) → (x ≡ s → ⊥) → In x (deq v d) → In x xs) → Stands
      (get_or (step_off a.cursors a.links.next d s) d 0) xs
  off_stands d s xs h m w =
      ⊎_elim
      (λ (i : cursor_of a d ≡ s).
      simp (eq-eqb (cursor_of a d) s i)
      (rw (get_or-set_same a.cursors d (moved_on a.links.next s) 0 (in-cursors a free v t d h))
      (⊎_elim (λ k. inr (inl k)) (λ (k : In (moved_on a.links.next s) (deq v d) × (moved_on a.links.next s ≡ s → ⊥)). inr (inr (w _ k.1 k.0)))
      (on_stands a free v t d s h m))))
      (λ (n : cursor_of a d ≡ s → ⊥).
      simp (ne_eqb (cursor_of a d) s n)
      (⊎_elim (λ k. inl k) (λ u. ⊎_elim (λ k. inr (inl k)) (λ k. inr (inr (w (cursor_of a d) n k))) u) (t.cursors d h)))
      (same? (cursor_of a d) s)

  -- ---- unlink and drop
  module _ (d s : ℕ) (l : s < v.slots) (h : d < v.count) (e : home_of a.links s ≡ d) where
    pub s_in : In s (deq v d)
    s_in = in-home a.links v [] r s d l h e

    s_home : home_of a.links s ≡ none → ⊥
    s_home k = omega (arith, e, k, h, r.few)

    -- there is at least one node
    pub length_some : 1 ≤ length_of a d
    length_some = omega (arith, t.lengths d h, length_remove (deq v d) s s_in)

    pub released_shows : Shows (released a free d s) s (freed s (take_out d s v))
    released_shows =
        let q : Rep (removed a.links free s) (freed s (take_out d s v)) [] =
        subst (λ (y : ℕ). Rep (removed a.links free s) (freed s (take_out y s v)) []) e (remove_rep a.links v free s r t.free_is l s_home) in
        record {
          lent =
              lent_kept a (released a free d s) v (freed s (take_out d s v)) [] [] t.lent r q refl refl (simp length-set)
              (length_off a.cursors a.links.next d s) (simp length-set);
          rep = q;
          free_is = refl;
          lengths = λ i j.
              ⊎_elim
              (λ (k : i ≡ d).
              rw k
              (get_or-set_same a.lens d (length_of a d - 1) 0 (in_lens d h)
              ∙ rw (deq_at d (remove s (deq v d)) v (in_held d h)) (omega (arith, t.lengths d h, length_remove (deq v d) s s_in))))
              (λ (k : i ≡ d → ⊥). get_or-set_other a.lens d i (length_of a d - 1) 0 k ∙ t.lengths i j ∙ ap length (sym (deq_off d (remove s (deq v d)) v i k)))
              (same? i d);
          cursors = λ i j.
              ⊎_elim
              (λ (k : i ≡ d). rw (k, deq_at d (remove s (deq v d)) v (in_held d h))
              (off_stands d s (remove s (deq v d)) h s_in (λ x n m. kept (deq v d) x s n m)))
              (λ (k : i ≡ d → ⊥). rw (off_other a.cursors a.links.next d s i k, deq_off d (remove s (deq v d)) v i k) (t.cursors i j))
              (same? i d);
        }

    -- ---- move to back
    to_back_lem : push_back d s (take_out d s v) ≡ to_back d s v
    to_back_lem = rw (deq_at d (remove s (deq v d)) v (in_held d h)) (simp set-set)

    shifted_shows : Shows (shifted a d s) free (to_back d s v)
    shifted_shows =
        let q : Rep (move_back a.links d s) (to_back d s v) [] =
        subst (λ (w : Lists). Rep (move_back a.links d s) w []) to_back_lem
        (subst (λ (y : ℕ). Rep (move_back a.links d s) (push_back d s (take_out y s v)) []) e (move_rep a.links v [] d s r l s_home h)) in
        record {
          lent = lent_kept a (shifted a d s) v (to_back d s v) [] [] t.lent r q refl refl refl (length_off a.cursors a.links.next d s) refl;
          rep = q;
          free_is = t.free_is;
          lengths = λ i j.
              ⊎_elim
              (λ (k : i ≡ d).
              rw k
              (rw (deq_at d (remove s (deq v d) ++ (s ∷ [])) v (in_held d h))
              (simp length-append (omega (arith, t.lengths d h, length_remove (deq v d) s s_in)))))
              (λ (k : i ≡ d → ⊥). t.lengths i j ∙ ap length (sym (deq_off d (remove s (deq v d) ++ (s ∷ [])) v i k)))
              (same? i d);
          cursors = λ i j.
              ⊎_elim
              (λ (k : i ≡ d).
              rw (k, deq_at d (remove s (deq v d) ++ (s ∷ [])) v (in_held d h))
              (off_stands d s (remove s (deq v d) ++ (s ∷ [])) h s_in (λ x n m. back_old (remove s (deq v d)) x s (kept (deq v d) x s n m))))
              (λ (k : i ≡ d → ⊥). rw (off_other a.cursors a.links.next d s i k, deq_off d (remove s (deq v d) ++ (s ∷ [])) v i k) (t.cursors i j))
              (same? i d);
        }

    -- the last at the back is where it was
    last_stays : (xs : List ℕ) (b : ℕ) → Once xs → In s xs → last_or b xs ≡ s → remove s xs ++ (s ∷ []) ≡ xs
    last_stays [] b o m i = elim m [ ]
    last_stays (x ∷ xs) b o m i =
        ⊎_elim
        (λ (k : s ≡ x). simp (eq-eqb s x k) (go xs k i o))
        (λ (n : s ≡ x → ⊥). simp (ne_eqb s x n) (ap (λ (ys : List ℕ). x ∷ ys) (last_stays xs x o.1 (⊎_elim (λ k. absurd (n k)) (λ k. k) m) i)))
        (same? s x)
      where
        go : (ys : List ℕ) → s ≡ x → last_or x ys ≡ s → Once (x ∷ ys) → ys ++ (s ∷ []) ≡ x ∷ ys
        go [] k j p = ap (λ (y : ℕ). y ∷ []) k
        go (y ∷ ys) k j p = absurd (p.0 (in-at (y ∷ ys) (j ∙ k) (in-last y ys)))

    pub moved_shows : Shows (moved_back a d s) free (to_back d s v)
    moved_shows =
        ⊎_elim
        (λ (k : back_of a d ≡ s).
        let i : remove s (deq v d) ++ (s ∷ []) ≡ deq v d = last_stays (deq v d) none (deq_once a.links v [] r d h) s_in
        (sym (tail_is a.links v [] r d h) ∙ k) in
        simp (eq-eqb (back_of a d) s k) (subst (λ (w : Lists). Shows a free w) (sym (ap (λ (xs : List ℕ). with_deque d xs v) i ∙ deq_same d v)) t))
        (λ (n : back_of a d ≡ s → ⊥). simp (ne_eqb (back_of a d) s n) shifted_shows)
        (same? (back_of a d) s)
