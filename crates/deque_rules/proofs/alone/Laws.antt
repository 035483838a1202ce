-- What the promises mean for the lists: each call takes lists to lists as 01 says, and leaves sound records sound,
-- refused or not.
use Prim.Native.Nat.{ℕ, ◌<◌}
use native.Mathlib.Omega.{arith}
use mathlib.Core.Path.{◌≡◌, refl, sym, ap, subst, ◌∙◌}
use mathlib.Core.Logic.{◌⊎◌, inl, ⊎_elim}
use mathlib.Core.List.{List, [], ◌∷◌}
use lib.Seq.{get_or-set_same}
use borrow.Author.Tests.{eq-eqb, ne_eqb}
use Rattle.deque_rules.specs.Links.{first, Deques as Lists, deq}
use Rattle.numbers.specs.Lists.{rest, remove}
use Rattle.numbers.specs.Shared.{no_slot as none, In, up_from, past_end}
use Rattle.deque_rules.specs.Lists.{with_deque, push_back, take_out, taken, freed, all_free}
use Rattle.numbers.proofs.Cases.{same?}
use Rattle.numbers.proofs.Members.{in-same, remove_first}
use Rattle.deque_rules.proofs.Laws.{some_first, in-home, slot_real, head_is}
use Rattle.deque_rules.specs.Deque.{State, deque_count as deques, node_count as nodes, Lent, Sound, next_of, front_of, element_of, cursor_node, released}
use Rattle.deque_rules.specs.Deque.{DequeAnswer as Told, refused, nothing, values, look_told, next_told, pop_told, make_rows, deque_rows, push_rows, node_rows, Meets, make}
use Rattle.deque_rules.specs.Deque.{pop_front, move_to_back, unlink_and_drop, DequePromised as Promised, push_back as pushCall}
use Rattle.deque_rules.specs.alone.State.{Shows}
use Rattle.deque_rules.specs.alone.Work.{to_back}
use Rattle.std.specs.Prelude.{Ok, Some, None}
use Rattle.deque_rules.proofs.alone.Refusing.{deque_ready, push_ready, node_ready}
use Rattle.deque_rules.proofs.alone.Keeping.{made_shows}
use Rattle.deque_rules.proofs.alone.Relinking.{pushed_shows, released_shows, moved_shows}

-- ---- 4 is no number of making
pub make_not_4 : (a : State) → make_rows a 4 → ⊥
make_not_4 a u = ⊎_elim (λ w. omega (arith, w.1)) (λ w. omega (arith, w.1)) u

-- ---- on a sound state the rows after 4 decide, and 4 is not among them
module _ (a : State) (free : ℕ) (s : Sound a free) where
  past_4 : {B : Type 0} (k : ℕ) → ((Sound a free → ⊥) × (k ≡ 4)) ⊎ (Sound a free × B) → B
  past_4 k u = ⊎_elim (λ w. absurd (w.0 s)) (λ w. w.1) u

  pub deque_not_4 : (d : ℕ) → deque_rows a free d 4 → ⊥
  deque_not_4 d u = ⊎_elim (λ w. omega (arith, w.1)) (λ w. omega (arith, w.1)) (past_4 4 u)

  pub push_not_4 : (d : ℕ) → push_rows a free d 4 → ⊥
  push_not_4 d u = ⊎_elim (λ w. omega (arith, w.1)) (λ w. ⊎_elim (λ x. omega (arith, x.1)) (λ x. omega (arith, x.1)) w.1) (past_4 4 u)

  pub node_not_4 : (d x : ℕ) → node_rows a free d x 4 → ⊥
  node_not_4 d x u = ⊎_elim (λ w. omega (arith, w.1)) (λ w. ⊎_elim (λ y. omega (arith, y.1)) (λ y. omega (arith, y.1)) w.1) (past_4 4 u)

-- so a call whose rows never give 4 does not answer that refusal
pub no_4 : (rows : ℕ → Type 0) (a b after : State) (t then : Told) → Meets rows a b t after then → (rows 4 → ⊥) → (then ≡ refused 4 → ⊥) → t ≡ refused 4 → ⊥
no_4 rows a b after t then m n q e =
    ⊎_elim
    (λ (z : m.number ≡ 0). q (sym (m.result z).0 ∙ e))
    (λ (z : m.number ≡ 0 → ⊥). n (subst rows (same m.number 4 (sym (m.refusal z).0 ∙ e)) m.by))
    (same? m.number 0)
  where
    same : (j k : ℕ) → refused j ≡ refused k → j ≡ k
    same j k i = cc

-- ---- a result that tells values was no refusal, and what a refusal leaves
by_0 : (rows : ℕ → Type 0) (a b after : State) (t then : Told) → Meets rows a b t after then → ((k : ℕ) → t ≡ refused k → ⊥) → rows 0 × (t ≡ then) ×
    (b ≡ after)
by_0 rows a b after t then m n =
    ⊎_elim
    (λ (z : m.number ≡ 0). (subst rows z m.by, (m.result z).0, (m.result z).1))
    (λ (z : m.number ≡ 0 → ⊥). absurd (n m.number (m.refusal z).0))
    (same? m.number 0)

pub left_alone : (rows : ℕ → Type 0) (a b after : State) (k : ℕ) (then : Told) → Meets rows a b (refused k) after then → (refused k ≡ then → ⊥) → b ≡ a
left_alone rows a b after k then m n =
    ⊎_elim (λ (z : m.number ≡ 0). absurd (n (m.result z).0)) (λ (z : m.number ≡ 0 → ⊥). (m.refusal z).1) (same? m.number 0)

not_refused_lem : (xs : List ℕ) (k : ℕ) → values xs ≡ refused k → ⊥
not_refused_lem xs k e = let z : ◌≡◌ {A = ℕ} 0 1 = cc in omega arith

pub not_values : (xs : List ℕ) (k : ℕ) → refused k ≡ values xs → ⊥
not_values xs k e = let z : ◌≡◌ {A = ℕ} 0 1 = cc in omega arith

nothing_refused : (k : ℕ) → nothing ≡ refused k → ⊥
nothing_refused k e = let z : ◌≡◌ {A = ℕ} 0 1 = cc in omega arith

nothing_values : (xs : List ℕ) → nothing ≡ values xs → ⊥
nothing_values xs e = let z : ◌≡◌ {A = ℕ} 0 1 = cc in omega arith

-- a look tells a node or nothing
pub look_refused : (a : State) (x k : ℕ) → look_told a x ≡ refused k → ⊥
look_refused a x k e =
    ⊎_elim
    (λ (i : x ≡ none). nothing_refused k (simp (eq-eqb x none i) at e))
    (λ (n : x ≡ none → ⊥). not_refused_lem _ k (simp (ne_eqb x none n) at e))
    (same? x none)

pub pop_refused : (a : State) (d k : ℕ) → refused k ≡ pop_told a d → ⊥
pop_refused a d k e =
    ⊎_elim
    (λ (i : front_of a d ≡ none). nothing_refused k (sym (simp (eq-eqb (front_of a d) none i) at e)))
    (λ (n : front_of a d ≡ none → ⊥). not_values _ k (simp (ne_eqb (front_of a d) none n) at e))
    (same? (front_of a d) none)

pub next_refused : (a : State) (d k : ℕ) → next_told a d ≡ refused k → ⊥
next_refused a d k e =
    ⊎_elim
    (λ (i : cursor_node a d ≡ past_end). nothing_refused k (simp (eq-eqb (cursor_node a d) past_end i) at e))
    (λ (n : cursor_node a d ≡ past_end → ⊥). look_refused a (cursor_node a d) k (simp (ne_eqb (cursor_node a d) past_end n) at e))
    (same? (cursor_node a d) past_end)

-- ---- make: all deques empty, all nodes free in ascending order from 0, sound
pub make_lists : (a b : State) (free f : ℕ) → Promised make a free b (Ok f) → Shows b f (all_free (deques a) (nodes a)) × (f ≡ first (up_from (nodes a) 0))
make_lists a b free f m =
    let u = by_0 _ a b _ _ _ m.meets (not_refused_lem (f ∷ [])) in
    let z : Lent a = ⊎_elim (λ w. absurd (omega (arith, w.1))) (λ w. w.0) u.0 in
    let i : f ≡ first (up_from (nodes a) 0) = one f (first (up_from (nodes a) 0)) u.1 in
    (subst (λ (y : ℕ). Shows b y (all_free (deques a) (nodes a))) (sym i) (rw u.2 (made_shows a z)), i)
  where
    one : (x y : ℕ) → values (x ∷ []) ≡ values (y ∷ []) → x ≡ y
    one x y e = cc

-- ---- the calls on lists
module _ (a b : State) (free : ℕ) (v : Lists) (s : Shows a free v) (d : ℕ) where
  slot_of : (w : Lists) (t : Shows a free w) (x : ℕ) → x < w.slots → x < v.slots
  slot_of w t x h = omega (arith, h, t.rep.next_len, s.rep.next_len)

  count_of : (w : Lists) (t : Shows a free w) → d < w.count → d < v.count
  count_of w t h = omega (arith, h, t.rep.heads_len, s.rep.heads_len)

  -- push back: the first free node, with the element, is the last of its deque
  pub push_lists : (e x f : ℕ) → Promised (pushCall d e) a free b (Ok (record { slot = x; free = f })) → (v.free ≡ x ∷ rest v.free) × (element_of b x ≡ e) × Shows b f (push_back d x (taken v))
  push_lists e x f m =
      let u = by_0 _ a b _ _ _ m.meets (not_refused_lem (x ∷ f ∷ [])) in
      let y = push_ready a free d (record { by = u.0 }) in
      let p = two x f free (next_of a free) u.1 in
      let l : free < v.slots = slot_of y.v y.shows free y.slot in
      let q = pushed_shows a free v s d e l (count_of y.v y.shows y.deque) in (
        some_first v.free x (s.free_is ∙ sym p.0) (λ i. omega (arith, i, p.0, l, s.rep.small)),
        rw (u.2, p.0) (get_or-set_same a.elements free e 0 (omega (arith, l, s.rep.next_len, s.lent.nodes.elements_len))),
        rw (u.2, p.0, p.1) q,
      )
    where
      two : (x y z w : ℕ) → values (x ∷ y ∷ []) ≡ values (z ∷ w ∷ []) → (x ≡ z) × (y ≡ w)
      two x y z w e = (cc, cc)

  -- pop front: the first of the deque leaves it and is the next node to be taken; where there is none nothing happens
  pub pop_lists : (x e f : ℕ) → Promised (pop_front d) a free b (Ok (Some (record { slot = x; element = e; free = f }))) → (deq v d ≡ x ∷ rest (deq v d)) × (e ≡ element_of a x) × (f ≡ x) × Shows b x
      (freed x (with_deque d (rest (deq v d)) v))
  pop_lists x e f m =
      let u = by_0 _ a b _ _ _ m.meets (not_refused_lem (x ∷ e ∷ f ∷ [])) in
      let y = deque_ready a free d (record { by = u.0 }) in
      let h : d < v.count = count_of y.v y.shows y.deque in
      ⊎_elim
      (λ (i : front_of a d ≡ none). absurd (nothing_values _ (sym (simp (eq-eqb (front_of a d) none i) at u.1))))
      (λ (n : front_of a d ≡ none → ⊥).
      let p = three x e f (front_of a d) (element_of a (front_of a d)) (simp (ne_eqb (front_of a d) none n) at u.1) in
      let r : b ≡ released a free d (front_of a d) = u.2 ∙ simp (ne_eqb (front_of a d) none n) in
      let k : deq v d ≡ x ∷ rest (deq v d) = some_first (deq v d) x (sym (head_is a.links v [] s.rep d h) ∙ sym p.0) (λ i. n (sym p.0 ∙ i)) in
      let w = s.rep.member d x h (in-same x (sym k) (inl refl)) in
      let q : Shows (released a free d x) x (freed x (take_out d x v)) = released_shows a free v s d x w.0 h w.1 in
      let c : remove x (deq v d) ≡ rest (deq v d) = ap (remove x) k ∙ remove_first x (rest (deq v d)) in (
        k,
        p.1 ∙ ap (element_of a) (sym p.0),
        p.2 ∙ sym p.0,
        subst (λ (z : State). Shows z x (freed x (with_deque d (rest (deq v d)) v))) (sym (r ∙ ap (released a free d) (sym p.0)))
            (subst (λ (ys : List ℕ). Shows (released a free d x) x (freed x (with_deque d ys v))) c q),
      ))
      (same? (front_of a d) none)
    where
      three : (x y z u w : ℕ) → values (x ∷ y ∷ z ∷ []) ≡ values (u ∷ w ∷ u ∷ []) → (x ≡ u) × (y ≡ w) × (z ≡ u)
      three x y z u w e = (cc, cc, cc)

  pub pop_empty : Promised (pop_front d) a free b (Ok None) → (deq v d ≡ []) × (b ≡ a)
  pop_empty m =
      let u = by_0 _ a b _ _ _ m.meets nothing_refused in
      let y = deque_ready a free d (record { by = u.0 }) in
      let h : d < v.count = count_of y.v y.shows y.deque in
      ⊎_elim
      (λ (i : front_of a d ≡ none). (
        no_first (deq v d) (slot_real a.links v [] s.rep d h) (sym (head_is a.links v [] s.rep d h) ∙ i),
        u.2 ∙ simp
            (eq-eqb (front_of a d) none i),
      ))
      (λ (n : front_of a d ≡ none → ⊥). absurd (nothing_values _ (simp (ne_eqb (front_of a d) none n) at u.1)))
      (same? (front_of a d) none)
    where
      no_first : (xs : List ℕ) → ((x : ℕ) → In x xs → x ≡ none → ⊥) → first xs ≡ none → xs ≡ []
      no_first [] p i = refl
      no_first (x ∷ xs) p i = absurd (p x (inl refl) i)

  -- unlink and drop: the node leaves its deque and is the next to be taken
  pub drop_lists : (x e f : ℕ) → Promised (unlink_and_drop d x) a free b (Ok (record { element = e; free = f })) → In x (deq v d) × (e ≡ element_of a x) × (f ≡ x) × Shows b x (freed x (take_out d x v))
  drop_lists x e f m =
      let u = by_0 _ a b _ _ _ m.meets (not_refused_lem (e ∷ f ∷ [])) in
      let y = node_ready a free d x (record { by = u.0 }) in
      let h : d < v.count = count_of y.v y.shows y.deque in
      let l : x < v.slots = slot_of y.v y.shows x y.slot in
      let p = two e f (element_of a x) x u.1 in
      (in-home a.links v [] s.rep x d l h y.homed, p.0, p.1, rw u.2 (released_shows a free v s d x l h y.homed))
    where
      two : (x y z w : ℕ) → values (x ∷ y ∷ []) ≡ values (z ∷ w ∷ []) → (x ≡ z) × (y ≡ w)
      two x y z w e = (cc, cc)

  -- move to back: the node is the last of its deque, the others in their order
  pub move_lists : (x : ℕ) → Promised (move_to_back d x) a free b (Ok tt) → In x (deq v d) × Shows b free (to_back d x v)
  move_lists x m =
      let u = by_0 _ a b _ _ _ m.meets (not_refused_lem []) in
      let y = node_ready a free d x (record { by = u.0 }) in
      let h : d < v.count = count_of y.v y.shows y.deque in
      let l : x < v.slots = slot_of y.v y.shows x y.slot in
      (in-home a.links v [] s.rep x d l h y.homed, rw u.2 (moved_shows a free v s d x l h y.homed))
