-- The lists determine the links: two records that stand for the same lists, with no slot loose, are the same but for
-- the prev of a free slot, of which the lists say nothing.
use Prim.Native.Nat.{ℕ, ◌<◌}
use mathlib.Core.Path.{◌≡◌, sym, ap, ◌∙◌}
use mathlib.Core.Logic.{inl, inr, ⊎_elim}
use mathlib.Core.List.{List, [], ◌∷◌}
use lib.ListN.{length, get_or}
use lib.Seq.{ext_get_or}
use Rattle.deque_rules.specs.Links.{Path, Links, Deques as Lists, slot_after as step, home_of, deq, Rep}
use Rattle.numbers.specs.Shared.{no_slot as none, In}
use Rattle.numbers.proofs.Cases.{same?}
use Rattle.deque_rules.proofs.Chains.{agreed}
use Rattle.deque_rules.proofs.Arrays.{step_slot}
use Rattle.deque_rules.proofs.Swap.{slot_real}
use Rattle.deque_rules.proofs.Reading.{head_is, tail_is}
use Rattle.deque_rules.proofs.Members.{home_free}

-- the same ends, the same next and home of each slot, and the same prev of each slot that a deque holds
pub record Alike (a b : Links) : Type 0 where
  pub heads : a.heads ≡ b.heads
  pub tails : a.tails ≡ b.tails
  pub next : a.next ≡ b.next
  pub home : a.home ≡ b.home
  pub prev : (x : ℕ) → x < length a.next → (home_of a x ≡ none → ⊥) → get_or a.prev x 0 ≡ get_or b.prev x 0

-- two paths over the same list agree at its members
path_agreed : (f f' : ℕ → ℕ) (xs : List ℕ) → Path f xs → Path f' xs → (x : ℕ) → In x xs → f x ≡ f' x
path_agreed f f' (y ∷ ys) h k x (inl e) = ap f e ∙ h.0 ∙ sym k.0 ∙ ap f' (sym e)
path_agreed f f' (y ∷ ys) h k x (inr m) = path_agreed f f' ys h.1 k.1 x m
path_agreed f f' [] h k x x5 = elim x5 [ ]

module _ (a b : Links) (v : Lists) (r : Rep a v []) (q : Rep b v []) where
  -- at a member of a deque, next and prev agree
  linked_agree : (d x : ℕ) → d < v.count → In x (deq v d) →
      (get_or a.next x 0 ≡ get_or b.next x 0) × (get_or a.prev x 0 ≡ get_or b.prev x 0)
  linked_agree d x h m =
      let n : x ≡ none → ⊥ = slot_real a v [] r d h x m in
      let u =
      (agreed none (step a.heads a.next d) (step a.tails a.prev d) (step b.heads b.next d) (step b.tails b.prev d) none
      (deq v d) (r.linked d h) (q.linked d h)).1 x m in (
        sym (step_slot a.heads a.next d x n) ∙ sym u.0 ∙ step_slot b.heads b.next d x n,
        sym (step_slot a.tails a.prev d x n) ∙ sym u.1 ∙ step_slot b.tails b.prev d x n,
      )

  home_agree : (x : ℕ) → x < v.slots → home_of a x ≡ home_of b x
  home_agree x l =
      ⊎_elim
      (λ (e : home_of a x ≡ none). e ∙ sym (q.spare x (home_free a v r x l e)).1)
      (λ (n : home_of a x ≡ none → ⊥). let u = r.homed x l n in sym (q.member (home_of a x) x u.0 u.1).1)
      (same? (home_of a x) none)

  next_agree : (x : ℕ) → x < v.slots → get_or a.next x 0 ≡ get_or b.next x 0
  next_agree x l =
      ⊎_elim
      (λ (e : home_of a x ≡ none).
      path_agreed (λ (y : ℕ). get_or a.next y 0) (λ (y : ℕ). get_or b.next y 0) v.free r.chained q.chained x (home_free a v r x l e))
      (λ (n : home_of a x ≡ none → ⊥). let u = r.homed x l n in (linked_agree (home_of a x) x u.0 u.1).0)
      (same? (home_of a x) none)

  prev_agree : (x : ℕ) → x < v.slots → (home_of a x ≡ none → ⊥) → get_or a.prev x 0 ≡ get_or b.prev x 0
  prev_agree x l n = let u = r.homed x l n in (linked_agree (home_of a x) x u.0 u.1).1

  pub links_alike : Alike a b
  links_alike =
      record {
        heads =
            ext_get_or 0 a.heads b.heads (r.heads_len ∙ sym q.heads_len)
            (λ d l. let h : d < v.count = rw r.heads_len at l in head_is a v [] r d h ∙ sym (head_is b v [] q d h));
        tails =
            ext_get_or 0 a.tails b.tails (r.tails_len ∙ sym q.tails_len)
            (λ d l. let h : d < v.count = rw r.tails_len at l in tail_is a v [] r d h ∙ sym (tail_is b v [] q d h));
        next = ext_get_or 0 a.next b.next (r.next_len ∙ sym q.next_len) (λ x l. next_agree x (rw r.next_len at l));
        home = ext_get_or 0 a.home b.home (r.home_len ∙ sym q.home_len) (λ x l. home_agree x (rw r.home_len at l));
        prev = λ x l n. prev_agree x (rw r.next_len at l) n;
      }
