-- Laws of the records: the slot after a slot once a store has been made.
use Prim.Native.Nat.{ℕ, ◌<◌}
use mathlib.Core.Path.{◌≡◌, sym, ◌∙◌}
use mathlib.Core.Logic.{⊎_elim}
use mathlib.Core.List.{List}
use lib.ListN.{length, get_or, set, length-set}
use lib.Seq.{get_or-set_same, get_or-set_other}
use borrow.Author.Tests.{eq-eqb, ne_eqb}
use Rattle.numbers.specs.Shared.{no_slot as none}
use Rattle.deque_rules.specs.Links.{slot_after as step, end_at}
use Rattle.numbers.proofs.Cases.{same?}

pub length_end_at : (h : List ℕ) (d p q : ℕ) → length (end_at h d p q) ≡ length h
length_end_at h d p q =
    ⊎_elim (λ (e : p ≡ none). simp (eq-eqb p none e, length-set)) (λ (n : p ≡ none → ⊥). simp (ne_eqb p none n)) (same? p none)

-- in another deque the end stays
pub end_at_other : (h : List ℕ) (d p q e : ℕ) → (e ≡ d → ⊥) → get_or (end_at h d p q) e 0 ≡ get_or h e 0
end_at_other h d p q e n =
    ⊎_elim
    (λ (i : p ≡ none). simp (eq-eqb p none i, get_or-set_other h d e q 0 n))
    (λ (k : p ≡ none → ⊥). simp (ne_eqb p none k))
    (same? p none)

module _ (h n : List ℕ) (d : ℕ) where
  -- at a slot it is the slot's own record
  pub step_slot : (x : ℕ) → (x ≡ none → ⊥) → step h n d x ≡ get_or n x 0
  step_slot x m = simp (ne_eqb x none m)

  pub put_at : (p q : ℕ) → d < length h → ((p ≡ none → ⊥) → p < length n) → step (end_at h d p q) (set n p q) d p ≡ q
  put_at p q hd hp =
      ⊎_elim
      (λ (e : p ≡ none). simp (eq-eqb p none e) (get_or-set_same h d q 0 hd))
      (λ (m : p ≡ none → ⊥). simp (ne_eqb p none m) (get_or-set_same n p q 0 (hp m)))
      (same? p none)

  pub put_other : (p q x : ℕ) → (x ≡ p → ⊥) → step (end_at h d p q) (set n p q) d x ≡ step h n d x
  put_other p q x m =
      ⊎_elim
      (λ (e : p ≡ none).
      let k : x ≡ none → ⊥ = λ i. m (i ∙ sym e) in
      simp (ne_eqb x none k) (get_or-set_other n p x q 0 m))
      (λ (k : p ≡ none → ⊥). simp (ne_eqb p none k, get_or-set_other n p x q 0 m))
      (same? p none)
