-- inner: the lent records of a wheel, as lists: 01, "Buckets and slots".
use Rattle.std.specs.Prelude.{ℕ, List}
use Rattle.deque_rules.specs.Links.{Links}
use Rattle.wheel_rules.specs.Lent.{Nodes}

-- links and payload together
abbrev pub join : Links → List ℕ → List ℕ → List ℕ → Nodes
join a e g s = record { links = a; entry = e; generation = g; serial = s }

-- the same payload with other links
abbrev pub with_links : Links → Nodes → Nodes
with_links a N = join a N.entry N.generation N.serial
