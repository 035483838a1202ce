-- inner: what the records hold, and what each call writes where it is not refused.
use Rattle.std.specs.Prelude.{ℕ, get_or}
use Rattle.deque_rules.specs.Deque.{State}

abbrev pub cursor_of : State → ℕ → ℕ
cursor_of a d = get_or a.cursors d 0
