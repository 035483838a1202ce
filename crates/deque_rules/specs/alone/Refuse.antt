-- inner: when each refusal number of 01 is given: ordered rows, the lowest number first.
use Rattle.std.specs.Prelude.{ℕ}
use Rattle.deque_rules.specs.Deque.{State, deque_rows, push_rows, node_rows}

-- r is the number that the rows give
pub record RefusesDeque (a : State) (free d r : ℕ) : Type 0 where
  pub by : deque_rows a free d r

pub record RefusesPush (a : State) (free d r : ℕ) : Type 0 where
  pub by : push_rows a free d r

pub record RefusesNode (a : State) (free d s r : ℕ) : Type 0 where
  pub by : node_rows a free d s r
