-- inner: histories: calls of the deque by itself one after the other, each meeting its promise; and the cursor on the
-- lists.
use Rattle.std.specs.Prelude.{ℕ, cond, List, eqb}
use Rattle.deque_rules.specs.Chain.{following}
use Rattle.numbers.specs.Shared.{no_slot, past_end}

-- ---- the cursor moved on from x in a deque that holds xs: to the node after x, or past the end
abbrev pub move_on : ℕ → List ℕ → ℕ
move_on x xs = let q = following x xs in cond (eqb q no_slot) past_end q
