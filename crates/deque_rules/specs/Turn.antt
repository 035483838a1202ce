-- inner: the rule that turning in one splice stands for: "nodes go front to back until the sentinel is last", one node
-- after another.
use Rattle.std.specs.Prelude.{ℕ, zero, suc, cond, eqb, get_or}
use Rattle.deque_rules.specs.Links.{Links, link_back, cut_out}

-- the front of the deque d goes to its back
abbrev pub front_to_back : Links → ℕ → Links
front_to_back a d = let h = get_or a.heads d 0 in link_back (cut_out a h) d h

-- until s is last, at most k times
abbrev pub until_last : ℕ → Links → ℕ → ℕ → Links
until_last zero a d s = a
until_last (suc k) a d s = cond (eqb (get_or a.tails d 0) s) a (until_last k (front_to_back a d) d s)
