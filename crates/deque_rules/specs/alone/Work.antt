-- inner: what the unchecked functions do: the equation on the records, what is told, and the law on the lists that they
-- stand for.
use Rattle.std.specs.Prelude.{ℕ, ◌<◌, ◌≤◌, List, [], ◌∷◌, ◌++◌, ◌≡◌, length, get_or, replicate, Ok, Option, Some, None}
use Rattle.deque_rules.specs.Deque.{State, front_of, back_of, stepped, next_of, element_of, pushed, released, moved_back, step_off, popped, looked_told, look_told}
use Rattle.deque_rules.specs.Deque.{next_told, popped_told, pop_told}
use Rattle.deque_rules.specs.Links.{Links, Deques, deq, move_back}
use Rattle.deque_rules.specs.Lists.{with_deque, push_back, take_out, taken, freed}
use Rattle.deque_rules.specs.alone.State.{Shows}
use Rattle.deque_rules.specs.declared.alone.Node.{Node}
use Rattle.deque_rules.specs.declared.alone.Taken.{Taken}
use Rattle.numbers.specs.Lists.{remove}
use Rattle.numbers.specs.Shared.{no_slot}

-- the node x with its element, if it is one
pub record ReadsNode (elements : List ℕ) (x : ℕ) (r : Option Node) : Type 0 where
  pub node : x < length elements → r ≡ Some (record { slot = x; element = get_or elements x 0 })
  pub none : length elements ≤ x → r ≡ None

pub record LooksFront (a : State) (d : ℕ) (r : Option Node) : Type 0 where
  pub told : looked_told (Ok r) ≡ look_told a (front_of a d)

pub record LooksBack (a : State) (d : ℕ) (r : Option Node) : Type 0 where
  pub told : looked_told (Ok r) ≡ look_told a (back_of a d)

pub record Steps (a b : State) (d : ℕ) (r : Option Node) : Type 0 where
  pub is : b ≡ stepped a d
  pub told : looked_told (Ok r) ≡ next_told a d

-- every recorded length 0 and every cursor at none
pub record Clears (lens₀ lens cursors : List ℕ) : Type 0 where
  pub lens_is : lens ≡ replicate (length lens₀) 0
  pub cursors_is : cursors ≡ replicate (length lens₀) no_slot

-- ---- on the lists
-- s goes to the back of its deque d
abbrev pub to_back : ℕ → ℕ → Deques → Deques
to_back d s v = with_deque d (remove s (deq v d) ++ (s ∷ [])) v

-- ---- what is done
pub record Pushes (a b : State) (free d e r : ℕ) : Type 0 where
  pub is : b ≡ pushed a free d e
  pub free_is : r ≡ next_of a free
  pub does : (v : Deques) → Shows a free v → Shows b r (push_back d free (taken v))

pub record Drops (a b : State) (free d s r : ℕ) : Type 0 where
  pub is : b ≡ released a free d s
  pub element_is : r ≡ element_of a s
  pub does : (v : Deques) → Shows a free v → Shows b s (freed s (take_out d s v))

pub record Moves (a b : State) (free d s : ℕ) : Type 0 where
  pub is : b ≡ moved_back a d s
  pub does : (v : Deques) → Shows a free v → Shows b free (to_back d s v)

-- a move in the links and the cursors: the tail stays where it is, and the cursor on it too
pub record Shifts (a : Links) (c : List ℕ) (b : Links) (c' : List ℕ) (d s : ℕ) : Type 0 where
  pub stays : get_or a.tails d 0 ≡ s → (b ≡ a) × (c' ≡ c)
  pub moves : (get_or a.tails d 0 ≡ s → ⊥) → (b ≡ move_back a d s) × (c' ≡ step_off c a.next d s)

pub record Pops (a b : State) (free d : ℕ) (r : Option Taken) : Type 0 where
  pub is : b ≡ popped a free d
  pub told : popped_told (Ok r) ≡ pop_told a d
