-- inner: what a call that is not refused may rely on.
use Rattle.std.specs.Prelude.{ℕ, ◌<◌, ◌≡◌}
use Rattle.deque_rules.specs.Deque.{State}
use Rattle.deque_rules.specs.Links.{Deques, home_of}
use Rattle.deque_rules.specs.alone.State.{Shows}

-- the records are sound and d is a deque
pub record DequeReady (a : State) (free d : ℕ) : Type 0 where
  pub v : Deques
  pub shows : Shows a free v
  pub deque : d < v.count

-- and a node is free
pub record PushReady (a : State) (free d : ℕ) : Type 0 where
  pub v : Deques
  pub shows : Shows a free v
  pub slot : free < v.slots
  pub deque : d < v.count

-- and s is a node of d
pub record NodeReady (a : State) (free d s : ℕ) : Type 0 where
  pub v : Deques
  pub shows : Shows a free v
  pub slot : s < v.slots
  pub deque : d < v.count
  pub homed : home_of a.links s ≡ d
