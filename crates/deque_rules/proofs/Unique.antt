-- The lists that records stand for are unique: they are those computed from the records.
use Prim.Native.Nat.{ℕ, zero, suc, ◌≤◌, ◌<◌}
use native.Mathlib.Omega.{arith}
use mathlib.Core.Path.{◌≡◌, refl, sym, ap, subst, ◌∙◌}
use mathlib.Core.Logic.{inl, inr}
use mathlib.Core.List.{List, [], ◌∷◌}
use lib.ListN.{length, get_or}
use lib.Seq.{ext_get_or}
use borrow.Author.Tests.{eq-eqb, ne_eqb}
use Rattle.deque_rules.specs.Links.{Chain, Path, first, Links, Deques as Lists, Rep, slot_after as step, deq, list_from, list_each, listed, Whole}
use Rattle.numbers.specs.Shared.{no_slot as none}
use Rattle.deque_rules.proofs.Chains.{Real, path_once}
use Rattle.deque_rules.proofs.Arrays.{step_slot}
use Rattle.numbers.proofs.Counting.{at_most}
use Rattle.deque_rules.proofs.Swap.{slot_real, free_real, deq_once}
use Rattle.deque_rules.proofs.Reading.{head_is}

from_is : (k : ℕ) (next xs : List ℕ) (x : ℕ) → first xs ≡ x → Path (λ (y : ℕ). get_or next y 0) xs → Real none xs → length xs ≤ k → list_from k next x ≡ xs
from_is zero next [] x f l p i = refl
from_is zero next (y ∷ ys) x f l p i = absurd (omega (arith, i))
from_is (suc k) next [] x f l p i = simp (eq-eqb x none (sym f))
from_is (suc k) next (y ∷ ys) x f l p i =
    let n : x ≡ none → ⊥ = λ e. p y (inl refl) (f ∙ e) in
    let r : list_from k next (get_or next x 0) ≡ ys = from_is k next ys (get_or next x 0) (sym l.0 ∙ ap (λ (v : ℕ). get_or next v 0) f) l.1 (λ z m. p z (inr m))
    (omega (arith, i)) in
    simp (ne_eqb x none n) (ap (λ (zs : List ℕ). x ∷ zs) r ∙ ap (λ (v : ℕ). v ∷ ys) (sym f))

module _ (h n : List ℕ) (g : ℕ → ℕ) (d : ℕ) where
  chain_path : (b : ℕ) (xs : List ℕ) → Real none xs → Chain none (step h n d) g b xs → Path (λ (y : ℕ). get_or n y 0) xs
  chain_path b [] p c = tt
  chain_path b (x ∷ xs) p c = (sym (step_slot h n d x (p x (inl refl))) ∙ go x xs c.2, chain_path x xs (λ z m. p z (inr m)) c.2)
    where
      go : (y : ℕ) (ys : List ℕ) → Chain none (step h n d) g y ys → step h n d y ≡ first ys
      go y [] k = k.0
      go y (z ∷ ys) k = k.0

pub each_len : (n : ℕ) (next hs : List ℕ) → length (list_each n next hs) ≡ length hs
each_len n next [] = refl
each_len n next (h ∷ hs) = ap suc (each_len n next hs)

pub each_at : (n : ℕ) (next hs : List ℕ) (i : ℕ) → i < length hs → get_or (list_each n next hs) i [] ≡ list_from n next (get_or hs i 0)
each_at n next [] i l = absurd (omega (arith, l))
each_at n next (h ∷ hs) zero l = refl
each_at n next (h ∷ hs) (suc i) l = each_at n next hs i (omega (arith, l))

module _ (a : Links) (v : Lists) (loose : List ℕ) (r : Rep a v loose) where
  -- each deque's list is what is computed from its head
  pub deq_is : (d : ℕ) → d < v.count → list_from (length a.next) a.next (get_or a.heads d 0) ≡ deq v d
  deq_is d h =
      let p = slot_real a v loose r d h in
      from_is (length a.next) a.next (deq v d) (get_or a.heads d 0) (sym (head_is a v loose r d h))
      (chain_path a.heads a.next (step a.tails a.prev d) d none (deq v d) p (r.linked d h))
      p
      (omega (arith, at_most v.slots (deq v d) (deq_once a v loose r d h) (λ x m. (r.member d x h m).0), r.next_len))

  pub held_is : list_each (length a.next) a.next a.heads ≡ v.held
  held_is =
      ext_get_or [] (list_each (length a.next) a.next a.heads) v.held
      (each_len (length a.next) a.next a.heads ∙ r.heads_len ∙ sym r.held_len)
      (λ i l.
      let l' : i < length a.heads = rw (each_len (length a.next) a.next a.heads) at l in
      each_at (length a.next) a.next a.heads i l' ∙ deq_is i (rw r.heads_len at l'))

  pub free_is : (free : ℕ) → first v.free ≡ free → list_from (length a.next) a.next free ≡ v.free
  free_is free f =
      let p = free_real a v loose r in
      from_is (length a.next) a.next v.free free f r.chained p
      (omega (arith, at_most v.slots v.free (path_once _ v.free r.chained p) (λ x m. (r.spare x m).0), r.next_len))

  -- the records stand for the lists computed from them, and for no other
  pub listed_is : (free : ℕ) → first v.free ≡ free → listed a free ≡ v
  listed_is free f = same r.heads_len r.next_len held_is (free_is free f)
    where
      same : {c n : ℕ} {h : List (List ℕ)} {f' : List ℕ} → c ≡ v.count → n ≡ v.slots → h ≡ v.held → f' ≡ v.free → ◌≡◌ {A = Lists}
          (record { count = c; slots = n; held = h; free = f' }) v
      same p q s t = rw (p, q, s, t) refl

pub unique : (a : Links) (v w : Lists) (k l : List ℕ) → Rep a v k → Rep a w l → first v.free ≡ first w.free → v ≡ w
unique a v w k l r q e = sym (listed_is a v k r (first w.free) e) ∙ listed_is a w l q (first w.free) refl

-- sound links and free chain: exactly where the computed lists are what the records stand for
pub whole_listed : (a : Links) (free : ℕ) → Whole a free → Rep a (listed a free) [] × (first (listed a free).free ≡ free)
whole_listed a free w =
    let e : listed a free ≡ w.v = listed_is a w.v [] w.rep free w.free_is in
    (subst (λ (v : Lists). Rep a v []) (sym e) w.rep, ap (λ (v : Lists). first v.free) e ∙ w.free_is)
