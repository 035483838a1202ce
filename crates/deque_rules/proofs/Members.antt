-- What a layer above needs of the lists: who is in which deque, before and after a change, and how many slots there
-- are.
use Prim.Native.Nat.{ℕ, ◌+◌, ◌<◌}
use native.Mathlib.Omega.{arith}
use mathlib.Core.Path.{◌≡◌, sym, ◌∙◌}
use mathlib.Core.Logic.{⊎_elim}
use mathlib.Core.List.{List, [], ◌++◌}
use lib.ListN.{length, length-append}
use lib.Seq.{get_or-set_same, get_or-set_other, set-set, set-get_or}
use Rattle.numbers.specs.Shared.{no_slot as none, In, Once}
use Rattle.deque_rules.specs.Links.{Links, Deques as Lists, Rep, home_of, deq}
use Rattle.deque_rules.specs.Lists.{with_deque, push_back}
use Rattle.numbers.proofs.Cases.{same?}
use Rattle.numbers.proofs.Members.{in_app, app_left, app_right, back_old, once_app}
use Rattle.deque_rules.proofs.Chains.{path_once}
use Rattle.numbers.proofs.Counting.{flat, flat_at, at_flat, once_flat, at_most, at_least}
use Rattle.deque_rules.proofs.Swap.{free_real, deq_once}

-- ---- one deque replaced
module _ (d : ℕ) (xs : List ℕ) (v : Lists) where
  pub deq_at : d < length v.held → deq (with_deque d xs v) d ≡ xs
  deq_at h = get_or-set_same v.held d xs [] h

  pub deq_off : (e : ℕ) → (e ≡ d → ⊥) → deq (with_deque d xs v) e ≡ deq v e
  deq_off e n = get_or-set_other v.held d e xs [] n

pub deq_twice : (d : ℕ) (xs ys : List ℕ) (v : Lists) → with_deque d ys (with_deque d xs v) ≡ with_deque d ys v
deq_twice d xs ys v = simp set-set

pub deq_same : (d : ℕ) (v : Lists) → with_deque d (deq v d) v ≡ v
deq_same d v = simp set-get_or

module _ (d s : ℕ) (v : Lists) (hd : d < length v.held) (e x : ℕ) where
  pub push_in : In x (deq v e) → In x (deq (push_back d s v) e)
  push_in m =
      ⊎_elim
      (λ (i : e ≡ d). rw (i, get_or-set_same v.held d _ [] hd) (back_old (deq v d) x s (rw i at m)))
      (λ (n : e ≡ d → ⊥). rw (get_or-set_other v.held d e _ [] n) m)
      (same? e d)

-- ---- each slot is in one deque, or free, or loose, and just one of these; its home says which
module _ (a : Links) (v : Lists) (loose : List ℕ) (r : Rep a v loose) where
  pub one_deque : (x d e : ℕ) → d < v.count → e < v.count → In x (deq v d) → In x (deq v e) → d ≡ e
  one_deque x d e h k m n = sym (r.member d x h m).1 ∙ (r.member e x k n).1

  pub not_free : (x d : ℕ) → d < v.count → In x (deq v d) → In x v.free → ⊥
  not_free x d h m n = omega (arith, (r.member d x h m).1, (r.spare x n).1, h, r.few)

  pub in-home : (x d : ℕ) → x < v.slots → d < v.count → home_of a x ≡ d → In x (deq v d)
  in-home x d l h e = rw e at (r.homed x l (λ k. omega (arith, e, k, h, r.few))).1

  pub home_in : (x d : ℕ) → d < v.count → In x (deq v d) → home_of a x ≡ d
  home_in x d h m = (r.member d x h m).1

  in_count : (i : ℕ) → i < length v.held → i < v.count
  in_count i l = rw r.held_len at l

  pub free_once : Once v.free
  free_once = path_once _ v.free r.chained (free_real a v loose r)

  -- all slots are counted once
  pub all_counted : length (flat v.held) + (length v.free + length loose) ≡ v.slots
  all_counted =
      let one : Once (flat v.held) =
      once_flat (home_of a) 0 v.held (λ i l. deq_once a v loose r i (in_count i l)) (λ i x l m. omega (arith, (r.member i x (in_count i l) m).1)) in
      let two : Once (v.free ++ loose) = once_app v.free loose free_once r.once (λ x m k. (r.apart x k).2 m) in
      let none_of : (x : ℕ) → In x (v.free ++ loose) → (x < v.slots) × (home_of a x ≡ none) =
      λ x m. ⊎_elim (λ k. r.spare x k) (λ k. ((r.apart x k).0, (r.apart x k).1)) (in_app v.free loose x m) in
      let some_of : (x : ℕ) → In x (flat v.held) → (x < v.slots) × (home_of a x ≡ none → ⊥) =
      λ x m.
      let u = flat_at v.held x m in
      let w = r.member u.0 x (in_count u.0 u.1) u.2 in
      (w.0, λ e. omega (arith, w.1, e, in_count u.0 u.1, r.few)) in
      let three : Once (flat v.held ++ (v.free ++ loose)) = once_app (flat v.held) (v.free ++ loose) one two (λ x m k. (some_of x m).1 (none_of x k).1)
      in
      omega (
        arith,
        length-append (flat v.held) (v.free ++ loose),
        length-append v.free loose,
        at_most v.slots (flat v.held ++ (v.free ++ loose)) three
            (λ x m. ⊎_elim (λ k. (some_of x k).0) (λ k. (none_of x k).0) (in_app (flat v.held) (v.free ++ loose) x m)),
        at_least v.slots (flat v.held ++ (v.free ++ loose))
            (λ x l.
            ⊎_elim
            (λ (e : home_of a x ≡ none).
            app_right (flat v.held) (v.free ++ loose) x
            (⊎_elim (λ k. app_left v.free loose x k) (λ k. app_right v.free loose x k) (r.covered x l e)))
            (λ (n : home_of a x ≡ none → ⊥). app_left (flat v.held) (v.free ++ loose) x (at_flat v.held (home_of a x) x (r.homed x l n).1))
            (same? (home_of a x) none)),
      )

-- with no slot loose, a slot is free exactly where its home is none
module _ (a : Links) (v : Lists) (r : Rep a v []) where
  pub free_home : (x : ℕ) → In x v.free → home_of a x ≡ none
  free_home x m = (r.spare x m).1

  pub home_free : (x : ℕ) → x < v.slots → home_of a x ≡ none → In x v.free
  home_free x l e = ⊎_elim (λ m. m) (λ m. absurd m) (r.covered x l e)
