-- A timer that stands in one bucket of the rules' wheel stands in one bucket of the records that show it.
use Prim.Native.Nat.{ℕ, ◌≤◌, ◌<◌}
use native.Mathlib.Omega.{arith}
use mathlib.Core.Path.{◌≡◌, sym, ap, subst, ◌∙◌}
use mathlib.Core.Bool.{true}
use mathlib.Core.List.{◌∷◌}
use borrow.Author.Tests.{ltb-true}
use Rattle.deque_rules.specs.Links.{home_of}
use Rattle.rules.specs.Places.{wheel01, buckets}
use Rattle.rules.specs.Lists.{times}
use Rattle.rules.specs.Wheel.{Bucket, Slot as Node, whole, hit, count, Wheel}
use Rattle.rules.specs.Sound.{Sound}
use Rattle.rules.specs.Demand3.{InOneBucket as InOne}
use Rattle.deque_rules.proofs.Laws.{deq_is}
use Rattle.rules.proofs.Counting.{hit_not, count_app}
use Rattle.wheel_rules.specs.Lent.{Records, node_at, Shows}
use Rattle.wheel_rules.specs.Demand3.{chain_of, InOneBucket}

-- a slot that is not the sentinel z stands as often in the list with the sentinel as in the bucket
count_whole : (x z : ℕ) (B : Bucket) → (x ≡ z → ⊥) → count x (whole z B) ≡ times x B
count_whole x z B n = omega (arith, count_app x B.early (z ∷ B.late), hit_not x z n)

module _ (R : Records) (w : Wheel) (shows : Shows wheel01 R w) (sound : Sound wheel01 w) where
  -- what the links of a bucket lead through is its list
  chain_is : (b : ℕ) → b < buckets wheel01 → chain_of R b ≡ whole b (w.lists.bucket b)
  chain_is b h =
      deq_is R.nodes.links shows.lists _ shows.rep b (subst (λ (m : ℕ). b < m) (sym shows.count) h) ∙ shows.bucket b h

  module _ (x : ℕ) (a : (w.lists.node x).armed ≡ true) where
    slot : (buckets wheel01 ≤ x) × (x < w.nodes)
    slot = sound.lists.slot x a

    -- the record of an armed slot says what the wheel's node says
    pub armed_node : w.lists.node x ≡ node_at (buckets wheel01) R.nodes x
    armed_node = shows.node x slot.0 slot.1 a

    home_is : (w.lists.node x).bucket ≡ home_of R.nodes.links x
    home_is = ap (λ (v : Node). v.bucket) armed_node

    chain_count : (b : ℕ) → b < buckets wheel01 → count x (chain_of R b) ≡ hit (home_of R.nodes.links x) b
    chain_count b h =
        ap (count x) (chain_is b h) ∙ count_whole x b (w.lists.bucket b) (λ i. omega (arith, slot.0, i)) ∙ sound.lists.stands x a b
        ∙ ap (λ (j : ℕ). hit j b) home_is

  pub one_bucket_lem : (x n e : ℕ) → InOne wheel01 x n e w → InOneBucket x n e R
  one_bucket_lem x n e i =
      let is = armed_node x i.0 in
      record {
        armed = ltb-true (home_of R.nodes.links x) (buckets wheel01) (sym (ap (λ (v : Node). v.armed) is) ∙ i.0);
        serial = sym (ap (λ (v : Node). v.serial) is) ∙ i.1;
        entry = sym (ap (λ (v : Node). v.entry) is) ∙ i.2;
        once = chain_count x i.0;
      }
