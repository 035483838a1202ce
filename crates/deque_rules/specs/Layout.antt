-- inner: laying the records out: all deques empty, all slots free in ascending order from 0.
use Rattle.std.specs.Prelude.{ℕ, ◌≤◌, List, [], ◌≡◌, length, replicate}
use Rattle.deque_rules.specs.Links.{first, Links, Rep, nexts, fresh}
use Rattle.deque_rules.specs.Lists.{all_free}
use Rattle.numbers.specs.Shared.{no_slot, up_from}

-- the lent slices have the lengths of deques and slots
pub record Sizes (a : Links) : Type 0 where
  pub tails_len : length a.tails ≡ length a.heads
  pub prev_len : length a.prev ≡ length a.next
  pub home_len : length a.home ≡ length a.next
  pub few : length a.heads ≤ no_slot
  pub small : length a.next ≤ no_slot

-- the two halves of the work
pub record Empties (heads₀ heads tails : List ℕ) : Type 0 where
  pub heads_is : heads ≡ replicate (length heads₀) no_slot
  pub tails_is : tails ≡ replicate (length heads₀) no_slot

pub record Strings (next₀ next prev home : List ℕ) (r : ℕ) : Type 0 where
  pub next_is : next ≡ nexts (up_from (length next₀) 0)
  pub prev_is : prev ≡ replicate (length next₀) no_slot
  pub home_is : home ≡ replicate (length next₀) no_slot
  pub free_is : r ≡ first (up_from (length next₀) 0)

-- r is the first free slot of the records b that are made of a
pub record LaysOut (a b : Links) (r : ℕ) : Type 0 where
  pub is : b ≡ fresh (length a.heads) (length a.next)
  pub free_is : r ≡ first (up_from (length a.next) 0)
  pub does : Rep b (all_free (length a.heads) (length a.next)) []
