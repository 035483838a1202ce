-- inner: push, remove, move to the back, turn: what each writes into the records, and what that means for the lists.
use Rattle.std.specs.Prelude.{ℕ, ◌≤◌, ◌<◌, cond, List, [], ◌∷◌, ◌≡◌, eqb, length, get_or, set}
use Rattle.deque_rules.specs.Links.{first, Links, Deques, links, home_of, Rep, end_at, link_back, cut_out, removed, move_back}
use Rattle.deque_rules.specs.Lists.{push_back, take_out, turn, taken, freed}
use Rattle.numbers.specs.Shared.{no_slot}

pub record Puts (ends next ends' next' : List ℕ) (d p q : ℕ) : Type 0 where
  pub ends_is : ends' ≡ end_at ends d p q
  pub next_is : next' ≡ set next p q

pub record CanPut (ends next : List ℕ) (d p : ℕ) : Type 0 where
  pub deque : d < length ends
  pub slot : (p ≡ no_slot → ⊥) → p < length next
  pub small : length next ≤ no_slot

-- the deque d is turned until s is last, in one splice: the old tail is followed by the old head, and the slot after s
-- is the head
abbrev pub turn_now : Links → ℕ → ℕ → ℕ → Links
turn_now a d s q =
    let h = get_or a.heads d 0 in
    let t = get_or a.tails d 0 in
    links (set a.heads d q) (set a.tails d s) (set (set a.next t h) s no_slot) (set (set a.prev h t) q no_slot) a.home

-- nothing is written where s is last already
unfoldable pub turn_to : Links → ℕ → ℕ → Links
turn_to a d s = let q = get_or a.next s 0 in cond (eqb q no_slot) a (turn_now a d s q)

-- ---- what the functions ask
-- free is the first free slot, and d is a deque
pub record Pushable (a : Links) (free d : ℕ) : Type 0 where
  pub v : Deques
  pub rep : Rep a v []
  pub free_is : first v.free ≡ free
  pub slot : free < v.slots
  pub deque : d < v.count

-- s is loose, and d is a deque
pub record Linkable (a : Links) (d s : ℕ) : Type 0 where
  pub v : Deques
  pub loose : List ℕ
  pub rep : Rep a v (s ∷ loose)
  pub slot : s < v.slots
  pub deque : d < v.count

-- s is in a deque
pub record Held (a : Links) (s : ℕ) : Type 0 where
  pub v : Deques
  pub loose : List ℕ
  pub rep : Rep a v loose
  pub slot : s < v.slots
  pub homed : home_of a s ≡ no_slot → ⊥

-- s is in a deque, and d is a deque
pub record Movable (a : Links) (d s : ℕ) : Type 0 where
  pub v : Deques
  pub loose : List ℕ
  pub rep : Rep a v loose
  pub slot : s < v.slots
  pub homed : home_of a s ≡ no_slot → ⊥
  pub deque : d < v.count

-- s is in the deque d
pub record HeldBy (a : Links) (d s : ℕ) : Type 0 where
  pub v : Deques
  pub loose : List ℕ
  pub rep : Rep a v loose
  pub slot : s < v.slots
  pub deque : d < v.count
  pub homed : home_of a s ≡ d

-- s is in the deque d, and not its last
pub record Ahead (a : Links) (d s : ℕ) : Type 0 where
  pub held : HeldBy a d s
  pub not_last : get_or a.tails d 0 ≡ s → ⊥

-- ---- what the functions do
-- the first free slot goes to the back of the deque d, and r is the first free slot then
pub record PushesBack (a b : Links) (free d r : ℕ) : Type 0 where
  pub is : b ≡ link_back a d free
  pub free_is : r ≡ get_or a.next free 0
  pub does :
      (v : Deques) → Rep a v [] → first v.free ≡ free →
      Rep b (push_back d free (taken v)) [] × (first (taken v).free ≡ r) × (v.free ≡ free ∷ (taken v).free)

-- s leaves its deque, and is the first free slot then
pub record Removes (a b : Links) (free s : ℕ) : Type 0 where
  pub is : b ≡ removed a free s
  pub does : (v : Deques) → Rep a v [] → first v.free ≡ free → Rep b (freed s (take_out (home_of a s) s v)) []

pub record LinksBack (a b : Links) (d s : ℕ) : Type 0 where
  pub is : b ≡ link_back a d s
  pub does : (v : Deques) (loose : List ℕ) → Rep a v (s ∷ loose) → Rep b (push_back d s v) loose

pub record CutsOut (a b : Links) (s : ℕ) : Type 0 where
  pub is : b ≡ cut_out a s
  pub does : (v : Deques) (loose : List ℕ) → Rep a v loose → Rep b (take_out (home_of a s) s v) (s ∷ loose)

pub record MovesBack (a b : Links) (d s : ℕ) : Type 0 where
  pub is : b ≡ move_back a d s
  pub does : (v : Deques) (loose : List ℕ) → Rep a v loose → Rep b (push_back d s (take_out (home_of a s) s v)) loose

pub record Turns (a b : Links) (d s : ℕ) : Type 0 where
  pub is : b ≡ turn_to a d s
  pub does : (v : Deques) (loose : List ℕ) → Rep a v loose → Rep b (turn d s v) loose
