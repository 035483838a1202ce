-- inner: the records of deques that a caller lends, and what they stand for.
use Rattle.std.specs.Prelude.{ℕ, ◌<◌, [], ◌≡◌, length, get_or}
use Rattle.deque_rules.specs.Deque.{State, Lent, Stands}
use Rattle.deque_rules.specs.Links.{first, Deques, deq, Rep}

-- the records and the first free node stand for the lists v
pub record Shows (a : State) (free : ℕ) (v : Deques) : Type 0 where
  pub lent : Lent a
  pub rep : Rep a.links v []
  pub free_is : first v.free ≡ free
  pub lengths : (d : ℕ) → d < v.count → get_or a.lens d 0 ≡ length (deq v d)
  pub cursors : (d : ℕ) → d < v.count → Stands (get_or a.cursors d 0) (deq v d)
