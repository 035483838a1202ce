-- What the looks, the length and the cursor say of the lists.
use Prim.Native.Nat.{ℕ, ◌<◌}
use native.Mathlib.Omega.{arith}
use mathlib.Core.Path.{◌≡◌, refl, sym, ap, subst, ◌∙◌}
use mathlib.Core.Logic.{◌⊎◌, inl, inr, ⊎_elim}
use mathlib.Core.Bool.{cond}
use mathlib.Core.List.{List, [], ◌∷◌}
use lib.ListN.{length, get_or}
use lib.Seq.{get_or-set_same}
use lib.Dec.{eqb}
use borrow.Author.Tests.{eq-eqb, ne_eqb}
use Rattle.deque_rules.specs.Chain.{last}
use Rattle.deque_rules.specs.Links.{first, Deques as Lists, deq}
use Rattle.numbers.specs.Shared.{no_slot as none, In, past_end}
use Rattle.deque_rules.proofs.Laws.{head_is, tail_is, next_is}
use Rattle.deque_rules.specs.Deque.{State, back_of, element_of, moved_on, cursor_node, with_cursor, stepped, step_off, released, moved_back, DequeAnswer as Told, nothing}
use Rattle.deque_rules.specs.Deque.{Looked, Measured, values, looked_told, measured_told, look_told, next_told, deque_rows, Meets, look_front, look_back, length_of}
use Rattle.deque_rules.specs.Deque.{next_by_cursor, DequePromised as Promised}
use Rattle.deque_rules.specs.alone.State.{Shows}
use Rattle.deque_rules.specs.alone.Step.{cursor_of}
use Rattle.deque_rules.specs.alone.History.{move_on}
use Rattle.deque_rules.proofs.alone.Sounding.{shows_sound}
use Rattle.deque_rules.proofs.alone.Keeping.{in-cursors, stepped_shows}

-- on a sound state a deque that exists is not refused
answers : (a b after : State) (free d : ℕ) (v : Lists) (t then : Told) → Shows a free v → d < v.count → Meets (deque_rows a free d) a b t after then →
    (t ≡ then) × (b ≡ after)
answers a b after free d v t then s h m =
    m.result
    (⊎_elim
    (λ w. absurd (w.0 (shows_sound a free v s)))
    (λ w. ⊎_elim (λ x. absurd (x.0 (rw s.rep.heads_len h))) (λ x. x.1) w.1)
    m.by)

module _ (a : State) (free : ℕ) (v : Lists) (s : Shows a free v) (d : ℕ) (h : d < v.count) where
  -- a look tells the first, the last; the length is the number of the deque's nodes
  pub front_lists : (r : Looked) → Promised (look_front d) a free a r → looked_told r ≡ look_told a (first (deq v d))
  front_lists r m = (answers a a a free d v _ _ s h m.meets).0 ∙ ap (look_told a) (head_is a.links v [] s.rep d h)

  pub back_lists : (r : Looked) → Promised (look_back d) a free a r → looked_told r ≡ look_told a (last (deq v d))
  back_lists r m = (answers a a a free d v _ _ s h m.meets).0 ∙ ap (look_told a) (tail_is a.links v [] s.rep d h)

  pub length_lists : (r : Measured) → Promised (length_of d) a free a r → measured_told r ≡ values (length (deq v d) ∷ [])
  length_lists r m = (answers a a a free d v _ _ s h m.meets).0 ∙ ap (λ (x : ℕ). values (x ∷ [])) (s.lengths d h)

  -- ---- the cursor
  -- moved on from a node of the deque, by the links and by the lists
  on_is : (x : ℕ) → In x (deq v d) → moved_on a.links.next x ≡ move_on x (deq v d)
  on_is x m = ap (λ (q : ℕ). cond (eqb q none) past_end q) (next_is a.links v [] s.rep d h x m)

  real : (x : ℕ) → In x (deq v d) → (x ≡ none → ⊥) × (x ≡ past_end → ⊥)
  real x m = let l = (s.rep.member d x h m).0 in (λ e. omega (arith, l, s.rep.small, e), λ e. omega (arith, l, s.rep.small, e))

  module _ (b : State) (r : Looked) (m : Promised (next_by_cursor d) a free b r) where
    told : looked_told r ≡ next_told a d
    told = (answers a b _ free d v _ _ s h m.meets).0

    after : b ≡ stepped a d
    after = (answers a b _ free d v _ _ s h m.meets).1

    -- the lists stay
    pub next_lists : Shows b free v
    next_lists = rw after (stepped_shows a free v s d h)

    -- from a node x, which is the cursor's or the head where the cursor stands at none: x is answered, and the cursor
    -- moves on
    from_node : (x : ℕ) → cursor_node a d ≡ x → In x (deq v d) → (looked_told r ≡ values (x ∷ element_of a x ∷ [])) × (cursor_of b d ≡ move_on x (deq v d))
    from_node x e i =
        let n : cursor_node a d ≡ none → ⊥ = λ z. (real x i).0 (sym e ∙ z) in
        let p : cursor_node a d ≡ past_end → ⊥ = λ z. (real x i).1 (sym e ∙ z) in
        let k : stepped a d ≡ with_cursor a d (moved_on a.links.next (cursor_node a d)) = simp
        (ne_eqb (cursor_node a d) none n, ne_eqb (cursor_node a d) past_end p) in (
          told ∙ simp (ne_eqb (cursor_node a d) past_end p, ne_eqb (cursor_node a d) none n) (ap (λ (z : ℕ). values (z ∷ element_of a z ∷ [])) e),
          ap (λ (z : State). cursor_of z d) (after ∙ k)
              ∙ get_or-set_same a.cursors d (moved_on a.links.next (cursor_node a d)) 0 (in-cursors a free v s d h)
              ∙ ap (moved_on a.links.next) e
              ∙ on_is x i,
        )

    -- from no node: Nothing, and the cursor is none
    from_none : (cursor_node a d ≡ none) ⊎ (cursor_node a d ≡ past_end) → (looked_told r ≡ nothing) × (cursor_of b d ≡ none)
    from_none (inl e) =
        let k : stepped a d ≡ with_cursor a d none = simp (eq-eqb (cursor_node a d) none e) in (
          told ∙ simp (ne_eqb (cursor_node a d) past_end (λ z. omega (arith, e, z)), eq-eqb (cursor_node a d) none e),
          ap (λ (z : State). cursor_of z d) (after ∙ k) ∙ get_or-set_same a.cursors d none 0 (in-cursors a free v s d h),
        )
    from_none (inr e) =
        let k : stepped a d ≡ with_cursor a d none = simp (ne_eqb (cursor_node a d) none (λ z. omega (arith, e, z)), eq-eqb (cursor_node a d) past_end e) in (
          told ∙ simp (eq-eqb (cursor_node a d) past_end e),
          ap (λ (z : State). cursor_of z d) (after ∙ k) ∙ get_or-set_same a.cursors d none 0 (in-cursors a free v s d h),
        )

    -- "the cursor starts at the head"
    pub next_starts : (x : ℕ) (xs : List ℕ) → cursor_of a d ≡ none → deq v d ≡ x ∷ xs → (looked_told r ≡ values (x ∷ element_of a x ∷ [])) ×
        (cursor_of b d ≡ move_on x (deq v d))
    next_starts x xs e k =
        from_node x (simp (eq-eqb (cursor_of a d) none e) (head_is a.links v [] s.rep d h ∙ ap first k))
        (subst (λ (ys : List ℕ). In x ys) (sym k) (inl refl))

    -- it goes from node to node
    pub next_goes : In (cursor_of a d) (deq v d) → (looked_told r ≡ values (cursor_of a d ∷ element_of a (cursor_of a d) ∷ [])) ×
        (cursor_of b d ≡ move_on (cursor_of a d) (deq v d))
    next_goes i = from_node (cursor_of a d) (simp (ne_eqb (cursor_of a d) none (real (cursor_of a d) i).0)) i

    -- "after the last element it answers Nothing once and then starts again": whatever was pushed meanwhile
    pub next_ends : cursor_of a d ≡ past_end → (looked_told r ≡ nothing) × (cursor_of b d ≡ none)
    next_ends e = from_none (inr (simp (ne_eqb (cursor_of a d) none (λ z. omega (arith, e, z))) e))

    -- in an empty deque it stays at none
    pub next_empty : cursor_of a d ≡ none → deq v d ≡ [] → (looked_told r ≡ nothing) × (cursor_of b d ≡ none)
    next_empty e k = from_none (inl (simp (eq-eqb (cursor_of a d) none e) (head_is a.links v [] s.rep d h ∙ ap first k)))

  -- "removing the node at the cursor, or moving it back unless it is the tail, first moves the cursor on"
  module _ (x : ℕ) (i : In x (deq v d)) where
    off_at : cursor_of a d ≡ x → get_or (step_off a.cursors a.links.next d x) d 0 ≡ move_on x (deq v d)
    off_at e = simp (eq-eqb (cursor_of a d) x e) (get_or-set_same a.cursors d (moved_on a.links.next x) 0 (in-cursors a free v s d h) ∙ on_is x i)

    off_away : (cursor_of a d ≡ x → ⊥) → get_or (step_off a.cursors a.links.next d x) d 0 ≡ cursor_of a d
    off_away n = simp (ne_eqb (cursor_of a d) x n)

    pub released_cursor : (cursor_of a d ≡ x → cursor_of (released a free d x) d ≡ move_on x (deq v d)) ×
        ((cursor_of a d ≡ x → ⊥) → cursor_of (released a free d x) d ≡ cursor_of a d)
    released_cursor = (off_at, off_away)

    pub moved_cursor : (last (deq v d) ≡ x → ⊥) → (cursor_of a d ≡ x → cursor_of (moved_back a d x) d ≡ move_on x (deq v d)) ×
        ((cursor_of a d ≡ x → ⊥) → cursor_of (moved_back a d x) d ≡ cursor_of a d)
    moved_cursor n =
        let k : back_of a d ≡ x → ⊥ = λ e. n (sym (tail_is a.links v [] s.rep d h) ∙ e) in
        (λ e. simp (ne_eqb (back_of a d) x k) (off_at e), λ e. simp (ne_eqb (back_of a d) x k) (off_away e))

    pub tail_cursor : last (deq v d) ≡ x → moved_back a d x ≡ a
    tail_cursor e = simp (eq-eqb (back_of a d) x (tail_is a.links v [] s.rep d h ∙ e))
