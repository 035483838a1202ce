-- inner to the programs: what the workloads keep from call to call: the records stand for one deque.
use Rattle.std.specs.Prelude.{◌≡◌, ℕ, [], take, Option, Some, None}
use Rattle.deque_rules.specs.Links.{Deques as Lists}
use Rattle.deque_rules.specs.Deque.{State, state}
use Rattle.deque_rules.specs.alone.State.{Shows}
use Rattle.bench.specs.declared.deques.records.Records.{Records}

-- the records are sound, and there is one deque
pub record Ready (a : State) (free : ℕ) : Type 0 where
  pub v : Lists
  pub shows : Shows a free v
  pub one : v.count ≡ 1

-- and no node is free
pub record Full (a : State) (free : ℕ) : Type 0 where
  pub v : Lists
  pub shows : Shows a free v
  pub one : v.count ≡ 1
  pub none_free : v.free ≡ []

-- the records over the first n nodes
abbrev pub first_nodes : ℕ → Records → State
first_nodes n r = state r.heads r.tails r.lens r.cursors (take n r.next) (take n r.prev) (take n r.home) (take n r.element)

-- the records that are laid out over n nodes are ready, if there are any
abbrev pub Laid : ℕ → Option Records → Type 0
Laid n (Some r) = Ready (first_nodes n r) r.free
Laid n None = Unit {0}
