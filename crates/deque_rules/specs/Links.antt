-- Linked deques and the free chain: the records, the lists that they stand for, and what the changes of links write.
use Rattle.std.specs.Prelude.{ℕ, ◌≤◌, ◌<◌, zero, suc, cond, List, [], ◌∷◌, ◌⊎◌, ◌≡◌, eqb, get_or, length, set, replicate}
use Rattle.numbers.specs.Shared.{no_slot, In, Once, up_from}

-- ======== chains of slots

-- f leads from b through xs to z, and g leads back from z through xs to b. With b and z none it is a whole deque: the
-- slot after none is the head, the slot before none the tail
abbrev pub Chain : ℕ → (ℕ → ℕ) → (ℕ → ℕ) → ℕ → List ℕ → Type 0
Chain z f g b [] = (f b ≡ z) × (g z ≡ b)
Chain z f g b (x ∷ xs) = (f b ≡ x) × (g x ≡ b) × Chain z f g x xs

-- the first of a list, or none
abbrev pub first : List ℕ → ℕ
first [] = no_slot
first (x ∷ xs) = x

-- f leads from each slot of xs to the next, and from the last to none: the free chain, which has no back links
abbrev pub Path : (ℕ → ℕ) → List ℕ → Type 0
Path f [] = Unit {0}
Path f (x ∷ xs) = (f x ≡ first xs) × Path f xs

-- ======== records and the lists that they stand for

-- the records: head and tail of each deque; next slot, previous slot and deque of each slot
pub record Links : Type 0 where
  pub heads : List ℕ
  pub tails : List ℕ
  pub next : List ℕ
  pub prev : List ℕ
  pub home : List ℕ

abbrev pub links : List ℕ → List ℕ → List ℕ → List ℕ → List ℕ → Links
links h t n p o = record { heads = h; tails = t; next = n; prev = p; home = o }

-- the slot after x in the deque d, where none is followed by the head; with tails and prev it is the slot before x
abbrev pub slot_after : List ℕ → List ℕ → ℕ → ℕ → ℕ
slot_after ends next d x = cond (eqb x no_slot) (get_or ends d 0) (get_or next x 0)

-- the deque that names x its own, or none
abbrev pub home_of : Links → ℕ → ℕ
home_of a x = get_or a.home x 0

-- what records stand for: so many deques over so many slots, the slots of each deque from front to back, and the free
-- slots from the next one to be taken on
pub record Deques : Type 0 where
  pub count : ℕ
  pub slots : ℕ
  pub held : List (List ℕ)
  pub free : List ℕ

-- the slots of the deque d
abbrev pub deq : Deques → ℕ → List ℕ
deq v d = get_or v.held d []

-- The records a stand for the lists v, where the slots of the list loose are for the moment neither in a deque nor
-- free.
pub record Rep (a : Links) (v : Deques) (loose : List ℕ) : Type 0 where
  pub heads_len : length a.heads ≡ v.count
  pub tails_len : length a.tails ≡ v.count
  pub next_len : length a.next ≡ v.slots
  pub prev_len : length a.prev ≡ v.slots
  pub home_len : length a.home ≡ v.slots
  pub few : v.count ≤ no_slot
  pub small : v.slots ≤ no_slot
  pub held_len : length v.held ≡ v.count
  -- each deque's links run from head to tail and back over its slots
  pub linked : (d : ℕ) → d < v.count → Chain no_slot (slot_after a.heads a.next d) (slot_after a.tails a.prev d) no_slot (deq v d)
  -- its slots name that deque, and each slot that names a deque is in it
  pub member : (d x : ℕ) → d < v.count → In x (deq v d) → (x < v.slots) × (home_of a x ≡ d)
  pub homed : (x : ℕ) → x < v.slots → (home_of a x ≡ no_slot → ⊥) → (home_of a x < v.count) × In x (deq v (home_of a x))
  -- the free chain runs over slots that name none, and each of these is free or loose, and just one of these
  pub chained : Path (λ (x : ℕ). get_or a.next x 0) v.free
  pub spare : (x : ℕ) → In x v.free → (x < v.slots) × (home_of a x ≡ no_slot)
  pub apart : (x : ℕ) → In x loose → (x < v.slots) × (home_of a x ≡ no_slot) × (In x v.free → ⊥)
  pub once : Once loose
  pub covered : (x : ℕ) → x < v.slots → home_of a x ≡ no_slot → In x v.free ⊎ In x loose

-- ======== the lists, computed by following next

-- the slots that next leads through from x to none, k at most
abbrev pub list_from : ℕ → List ℕ → ℕ → List ℕ
list_from zero next x = []
list_from (suc k) next x = cond (eqb x no_slot) [] (x ∷ list_from k next (get_or next x 0))

-- the deques with these heads
abbrev pub list_each : ℕ → List ℕ → List ℕ → List (List ℕ)
list_each n next [] = []
list_each n next (h ∷ hs) = list_from n next h ∷ list_each n next hs

-- all of it, where free is the first free slot
abbrev pub listed : Links → ℕ → Deques
listed a free =
    let n = length a.next in
    record { count = length a.heads; slots = n; held = list_each n a.next a.heads; free = list_from n a.next free }

-- ======== sound links

-- the records stand for some lists with no slot loose, and free is the first free slot
pub record Whole (a : Links) (free : ℕ) : Type 0 where
  pub v : Deques
  pub rep : Rep a v []
  pub free_is : first v.free ≡ free

-- ======== what the changes write

-- what giving the slot s back writes, where free was the first free slot
unfoldable pub hand_back : Links → ℕ → ℕ → Links
hand_back a s free = links a.heads a.tails (set a.next s free) (set a.prev s no_slot) a.home

-- the slot after p in the deque d is q: the head, where p is none (the list of next has no place for none, so there it
-- stays)
abbrev pub end_at : List ℕ → ℕ → ℕ → ℕ → List ℕ
end_at ends d p q = cond (eqb p no_slot) (set ends d q) ends

-- s is linked at the back of the deque d, after the old tail
unfoldable pub link_back : Links → ℕ → ℕ → Links
link_back a d s =
    let t = get_or a.tails d 0 in
    links (end_at a.heads d t s) (set a.tails d s) (set (set a.next s no_slot) t s) (set a.prev s t) (set a.home s d)

-- s is taken out of its deque: what stood before it and what stood after it are neighbours now. Its own next and prev
-- stay as they are
unfoldable pub cut_out : Links → ℕ → Links
cut_out a s =
    let d = home_of a s in
    let p = get_or a.prev s 0 in
    let q = get_or a.next s 0 in
    links (end_at a.heads d p q) (end_at a.tails d q p) (set a.next p q) (set a.prev q p) (set a.home s no_slot)

-- s is taken out of its deque and handed back, where free was the first free slot
unfoldable pub removed : Links → ℕ → ℕ → Links
removed a free s = hand_back (cut_out a s) s free

-- s is moved to the back of the deque d, from whichever deque it is in
unfoldable pub move_back : Links → ℕ → ℕ → Links
move_back a d s = link_back (cut_out a s) d s

-- ======== laid out

-- the next of each slot of a chain, in its order
abbrev pub nexts : List ℕ → List ℕ
nexts [] = []
nexts (x ∷ xs) = first xs ∷ nexts xs

-- the records of c empty deques over n free slots
unfoldable pub fresh : ℕ → ℕ → Links
fresh c n = links (replicate c no_slot) (replicate c no_slot) (nexts (up_from n 0)) (replicate n no_slot) (replicate n no_slot)
