-- inner: the records of deques and free slots, and the lists of slots that they stand for.
use Rattle.std.specs.Prelude.{ℕ, List, [], ◌∷◌, ◌++◌, set, replicate}
use Rattle.deque_rules.specs.Chain.{turned}
use Rattle.deque_rules.specs.Links.{Deques, deq}
use Rattle.numbers.specs.Lists.{rest, remove}
use Rattle.numbers.specs.Shared.{up_from}

-- ---- what the functions do to the lists
-- the deque d holds xs
abbrev pub with_deque : ℕ → List ℕ → Deques → Deques
with_deque d xs v = record { count = v.count; slots = v.slots; held = set v.held d xs; free = v.free }

abbrev pub with_free : List ℕ → Deques → Deques
with_free xs v = record { count = v.count; slots = v.slots; held = v.held; free = xs }

-- s goes to the back of the deque d
abbrev pub push_back : ℕ → ℕ → Deques → Deques
push_back d s v = with_deque d (deq v d ++ (s ∷ [])) v

-- s leaves the deque d
abbrev pub take_out : ℕ → ℕ → Deques → Deques
take_out d s v = with_deque d (remove s (deq v d)) v

-- the deque d is turned until s is last
abbrev pub turn : ℕ → ℕ → Deques → Deques
turn d s v = with_deque d (turned s (deq v d)) v

-- the first free slot is taken
abbrev pub taken : Deques → Deques
taken v = with_free (rest v.free) v

-- s is free, and the next to be taken
abbrev pub freed : ℕ → Deques → Deques
freed s v = with_free (s ∷ v.free) v

-- c empty deques over n free slots, to be taken in ascending order from 0
abbrev pub all_free : ℕ → ℕ → Deques
all_free c n = record { count = c; slots = n; held = replicate c []; free = up_from n 0 }
