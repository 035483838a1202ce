-- inner: what may be read off the records: the front of a deque, the slot after a slot.
use Rattle.std.specs.Prelude.{ℕ, ◌<◌, List, ◌≡◌, get_or}
use Rattle.deque_rules.specs.Chain.{following}
use Rattle.deque_rules.specs.Links.{first, Deques, links, deq, Rep}
use Rattle.numbers.specs.Shared.{In}

-- r is the front of the deque d, or none where it is empty
pub record Front (heads : List ℕ) (d r : ℕ) : Type 0 where
  pub is : r ≡ get_or heads d 0
  pub does : (t n p o : List ℕ) (v : Deques) (loose : List ℕ) → Rep (links heads t n p o) v loose → d < v.count → r ≡ first (deq v d)

-- r is the slot after s in whichever deque s is in, or none where s is last
pub record Follows (next : List ℕ) (s r : ℕ) : Type 0 where
  pub is : r ≡ get_or next s 0
  pub does : (h t p o : List ℕ) (v : Deques) (loose : List ℕ) → Rep (links h t next p o) v loose → (d : ℕ) → d < v.count → In s (deq v d) → r ≡ following s
      (deq v d)
