-- What the ends of a deque and the slot after a slot say of the lists.
use Prim.Native.Nat.{ℕ, ◌<◌}
use mathlib.Core.Path.{◌≡◌, refl, sym, subst, ◌∙◌}
use mathlib.Core.List.{List, [], ◌∷◌}
use lib.ListN.{get_or}
use Rattle.deque_rules.specs.Chain.{last, following}
use Rattle.deque_rules.specs.Links.{Chain, first, Links, Deques as Lists, links, slot_after as step, deq, Rep}
use Rattle.numbers.specs.Shared.{no_slot as none, In, after_in as after, before_in as before}
use Rattle.deque_rules.specs.Read.{Follows}
use Rattle.numbers.proofs.Members.{split}
use Rattle.deque_rules.proofs.Chains.{chain_last, parts}
use Rattle.deque_rules.proofs.Arrays.{step_slot}
use Rattle.deque_rules.proofs.Swap.{slot_real}

first_step : (f g : ℕ → ℕ) (b : ℕ) (xs : List ℕ) → Chain none f g b xs → f b ≡ first xs
first_step f g b [] c = c.0
first_step f g b (x ∷ xs) c = c.0

module _ (a : Links) (v : Lists) (loose : List ℕ) (r : Rep a v loose) (d : ℕ) (h : d < v.count) where
  -- the head is the first, the tail the last
  pub head_is : get_or a.heads d 0 ≡ first (deq v d)
  head_is = first_step (step a.heads a.next d) (step a.tails a.prev d) none (deq v d) (r.linked d h)

  pub tail_is : get_or a.tails d 0 ≡ last (deq v d)
  tail_is = chain_last none (step a.heads a.next d) (step a.tails a.prev d) none (deq v d) (r.linked d h)

  -- the next of a member is the one after it
  pub next_is : (s : ℕ) → In s (deq v d) → get_or a.next s 0 ≡ following s (deq v d)
  next_is s m =
      sym (step_slot a.heads a.next d s (slot_real a v loose r d h s m))
      ∙ first_step (step a.heads a.next d) (step a.tails a.prev d) s (after s (deq v d))
      (parts none (step a.heads a.next d) (step a.tails a.prev d) none (before s (deq v d)) s (after s (deq v d))
      (subst (λ (xs : List ℕ). Chain none (step a.heads a.next d) (step a.tails a.prev d) none xs) (split (deq v d) s m) (r.linked d h))
      ).1

pub follows_does : (next : List ℕ) (s : ℕ) → Follows next s (get_or next s 0)
follows_does next s = record { is = refl; does = λ h t p o v loose r d l m. next_is (links h t next p o) v loose r d l s m }
