-- The prev of a free slot: no call writes it but at the slot that the call links or frees. What the others write stands
-- at members of a deque.
use Prim.Native.Nat.{ℕ, ◌<◌}
use native.Mathlib.Omega.{arith}
use mathlib.Core.Path.{◌≡◌, sym, ap, ◌∙◌}
use mathlib.Core.Logic.{⊎_elim}
use mathlib.Core.List.{List}
use lib.ListN.{get_or}
use lib.Seq.{get_or-set_same, get_or-set_other}
use borrow.Author.Tests.{eq-eqb, ne_eqb}
use Rattle.numbers.proofs.Cases.{same?}
use Rattle.numbers.specs.Shared.{no_slot as none}
use Rattle.deque_rules.specs.Links.{Links, Deques as Lists, home_of, Rep, hand_back, link_back, cut_out, removed, move_back}
use Rattle.deque_rules.specs.Change.{turn_to}
use Rattle.deque_rules.proofs.Cutting.{cut_local}
use Rattle.deque_rules.proofs.Turning.{turn_local}

-- s is linked: its own prev alone is written
pub idle_linked : (a : Links) (d s y : ℕ) → (y ≡ s → ⊥) → get_or (link_back a d s).prev y 0 ≡ get_or a.prev y 0
unfolding link_back
idle_linked a d s y n = get_or-set_other a.prev s y (get_or a.tails d 0) 0 n

module _ (a : Links) (v : Lists) (loose : List ℕ) (r : Rep a v loose) where
  -- s is taken out of its deque
  module _ (s : ℕ) (slot : s < v.slots) (held : home_of a s ≡ none → ⊥) where
    not_s : (y : ℕ) → home_of a y ≡ none → y ≡ s → ⊥
    not_s y i e = held (ap (home_of a) (sym e) ∙ i)

    idle_cut : (y : ℕ) → y < v.slots → home_of a y ≡ none → get_or (cut_out a s).prev y 0 ≡ get_or a.prev y 0
    idle_cut y l i =
        (cut_local a v loose s r slot held).prev_off y (rw r.prev_len l) (λ e. held (sym e ∙ i)) (not_s y i)

    -- moved to the back of a deque
    pub idle_moved : (d y : ℕ) → y < v.slots → home_of a y ≡ none → get_or (move_back a d s).prev y 0 ≡ get_or a.prev y 0
    unfolding move_back
    idle_moved d y l i = idle_linked (cut_out a s) d s y (not_s y i) ∙ idle_cut y l i

    -- freed
    pub idle_removed : (free y : ℕ) → y < v.slots → home_of a y ≡ none → get_or (removed a free s).prev y 0 ≡ get_or a.prev y 0
    unfolding removed hand_back
    idle_removed free y l i = get_or-set_other (cut_out a s).prev s y none 0 (not_s y i) ∙ idle_cut y l i

    pub prev_removed : (free : ℕ) → get_or (removed a free s).prev s 0 ≡ none
    unfolding removed hand_back
    prev_removed free =
        get_or-set_same (cut_out a s).prev s none 0
        (omega (arith, (cut_local a v loose s r slot held).prev_len, r.prev_len, slot))

  -- a deque is turned until its member s is last
  pub idle_turned : (d s y : ℕ) → s < v.slots → d < v.count → home_of a s ≡ d → y < v.slots → home_of a y ≡ none
      → get_or (turn_to a d s).prev y 0 ≡ get_or a.prev y 0
  unfolding turn_to
  idle_turned d s y l h m k i =
      ⊎_elim
      (λ (e : get_or a.next s 0 ≡ none). simp (eq-eqb (get_or a.next s 0) none e))
      (λ (n : get_or a.next s 0 ≡ none → ⊥).
      simp (ne_eqb (get_or a.next s 0) none n)
      ((turn_local a v loose d s r l h m n).prev_off y (rw r.prev_len k) (λ e. omega (arith, e, i, h, r.few))
      (λ e. omega (arith, ap (home_of a) e, i, m, h, r.few))))
      (same? (get_or a.next s 0) none)
