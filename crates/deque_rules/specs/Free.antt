-- inner: taking a free slot and giving one back: what each reads and writes, and what that means for the lists.
use Rattle.std.specs.Prelude.{ℕ, List, ◌∷◌, ◌≡◌, get_or, set}
use Rattle.deque_rules.specs.Links.{first, Deques, links, Rep}
use Rattle.deque_rules.specs.Lists.{taken, freed}
use Rattle.numbers.specs.Shared.{no_slot}

-- r is the first free slot once the first one, free, is taken. The records stay: that slot is loose
pub record Takes (next : List ℕ) (free r : ℕ) : Type 0 where
  pub is : r ≡ get_or next free 0
  pub does : (h t p o : List ℕ) (v : Deques) (loose : List ℕ) → Rep (links h t next p o) v loose → first v.free ≡ free → Rep (links h t next p o) (taken v)
      (free ∷ loose) × (first (taken v).free ≡ r) × (v.free ≡ free ∷ (taken v).free)

-- the loose slot s is the first free one: its next is the former first, its prev none (its home is none already)
pub record GivesBack (n p n' p' : List ℕ) (s free : ℕ) : Type 0 where
  pub next_is : n' ≡ set n s free
  pub prev_is : p' ≡ set p s no_slot
  pub does : (h t o : List ℕ) (v : Deques) (loose : List ℕ) → Rep (links h t n p o) v (s ∷ loose) → first v.free ≡ free → Rep (links h t n' p' o) (freed s v)
      loose
