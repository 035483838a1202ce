-- What the unchecked functions on sound records read, and what the cursor's store comes to.
use Prim.Native.Nat.{ℕ, ◌≤◌, ◌<◌}
use native.Mathlib.Omega.{arith}
use mathlib.Core.Path.{◌≡◌, ap, ◌∙◌}
use mathlib.Core.Logic.{◌⊎◌, inl, inr, ⊎_elim}
use mathlib.Core.Bool.{cond}
use mathlib.Core.List.{List, [], ◌∷◌}
use lib.ListN.{length, get_or, set}
use lib.Dec.{eqb}
use borrow.Author.Tests.{eq-eqb, ne_eqb}
use Rattle.numbers.specs.Shared.{no_slot as none, In, past_end}
use Rattle.deque_rules.specs.Links.{deq}
use Rattle.numbers.proofs.Cases.{below?, same?}
use Rattle.deque_rules.specs.Deque.{State, state, moved_on, cursor_node, with_cursor, nothing, values, look_told, looked_told}
use Rattle.deque_rules.specs.alone.Ready.{DequeReady}
use Rattle.deque_rules.specs.alone.Work.{ReadsNode, LooksFront, LooksBack, Steps}
use Rattle.std.specs.Prelude.{Ok, Option, Some, None}
use Rattle.deque_rules.specs.declared.alone.Node.{Node}
use Rattle.deque_rules.proofs.alone.Keeping.{front_in, back_in, start_stands}

module _ (h t l c n p o e : List ℕ) (free d : ℕ) where
  abbrev a : State
  a = state h t l c n p o e

  -- ---- a deque
  module _ (y : DequeReady (state h t l c n p o e) free d) where
    slot : (x : ℕ) → In x (deq y.v d) → x < length n
    slot x m = rw y.shows.rep.next_len (y.shows.rep.member d x y.deque m).0

    -- past the nodes is none
    pub head_none : length n ≤ get_or h d 0 → get_or h d 0 ≡ none
    head_none i =
        ⊎_elim (λ k. k) (λ (k : get_or h d 0 ≡ none → ⊥). absurd (omega (arith, i, slot (get_or h d 0) (front_in a free y.v y.shows d y.deque k))))
        (same? (get_or h d 0) none)

    tail_none : length n ≤ get_or t d 0 → get_or t d 0 ≡ none
    tail_none i =
        ⊎_elim (λ k. k) (λ (k : get_or t d 0 ≡ none → ⊥). absurd (omega (arith, i, slot (get_or t d 0) (back_in a free y.v y.shows d y.deque k))))
        (same? (get_or t d 0) none)

    pub real : (x : ℕ) → x < length n → x ≡ none → ⊥
    real x i k = omega (arith, i, k, y.shows.rep.next_len, y.shows.rep.small)

    -- ---- looks
    -- what is read at a place that is none, or a node
    looks_at : (x : ℕ) (r : Option Node) → (length n ≤ x → x ≡ none) → ReadsNode e x r → looked_told (Ok r) ≡ look_told a x
    looks_at x r f k =
        ⊎_elim
        (λ (i : x < length n). rw (k.node (omega (arith, i, y.shows.lent.nodes.elements_len))) (simp (ne_eqb x none (real x i))))
        (λ (i : length n ≤ x). rw (k.none (omega (arith, i, y.shows.lent.nodes.elements_len))) (simp (eq-eqb x none (f i))))
        (below? x (length n))

    pub front_does : (r : Option Node) → ReadsNode e (get_or h d 0) r → LooksFront (state h t l c n p o e) d r
    front_does r k = record { told = looks_at (get_or h d 0) r head_none k }

    pub back_does : (r : Option Node) → ReadsNode e (get_or t d 0) r → LooksBack (state h t l c n p o e) d r
    back_does r k = record { told = looks_at (get_or t d 0) r tail_none k }

    -- ---- next by cursor, from the node x
    pub step_ends : (x : ℕ) → x ≡ cursor_node (state h t l c n p o e) d → length n ≤ x → Steps (state h t l c n p o e) (state h t l (set c d none) n p o e) d
        None
    step_ends x i k =
        ⊎_elim
        (λ (m : cursor_node a d ≡ none).
        record {
          is = simp (eq-eqb (cursor_node a d) none m);
          told = go (cursor_node a d) (inl m);
        })
        (λ u.
        ⊎_elim
        (λ (m : cursor_node a d ≡ past_end).
        record {
          is = simp (ne_eqb (cursor_node a d) none (λ z. omega (arith, m, z)), eq-eqb (cursor_node a d) past_end m);
          told = go (cursor_node a d) (inr m);
        })
        (λ m. absurd (omega (arith, slot (cursor_node a d) m, k, i)))
        u)
        (start_stands a free y.v y.shows d y.deque)
      where
        go : (z : ℕ) → (z ≡ none) ⊎ (z ≡ past_end) → nothing ≡ cond (eqb z past_end) nothing (look_told a z)
        go z (inl m) = simp (ne_eqb z past_end (λ j. omega (arith, m, j)), eq-eqb z none m)
        go z (inr m) = simp (eq-eqb z past_end m)

    pub step_does : (x q : ℕ) → x ≡ cursor_node (state h t l c n p o e) d → x < length n → q ≡ moved_on n x → Steps (state h t l c n p o e)
        (state h t l (set c d q) n p o e) d (Some (record { slot = x; element = get_or e x 0 }))
    step_does x q i k j =
        let f : cursor_node a d ≡ none → ⊥ = λ z. real x k (i ∙ z) in
        let g : cursor_node a d ≡ past_end → ⊥ = λ z. omega (arith, k, i, z, y.shows.rep.next_len, y.shows.rep.small) in
        record {
          is = simp (ne_eqb (cursor_node a d) none f, ne_eqb (cursor_node a d) past_end g) (ap (λ (z : ℕ). with_cursor a d z) (j ∙ ap (λ (z : ℕ). moved_on n z) i));
          told = simp (ne_eqb (cursor_node a d) past_end g, ne_eqb (cursor_node a d) none f) (ap (λ (z : ℕ). values (z ∷ get_or e z 0 ∷ [])) i);
        }
