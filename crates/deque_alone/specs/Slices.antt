-- The slices of the records but the cursors, lent as one value: the records that they hold beside cursors, and that it
-- lends the same slices.
use Rattle.std.specs.Prelude.{ℕ, List, ◌≡◌}
use Rattle.deque.specs.Slices.{links_of, links_now, SameSlices}
use Rattle.deque_alone.specs.declared.lending.Deques.{Deques}
use Rattle.deque_alone.specs.declared.lending.DequesMut.{DequesMut}
use Rattle.deque_rules.specs.Deque.{State, state}
use Rattle.deque_rules.specs.Links.{Links}

-- the records, their links as one
abbrev pub records : Links → List ℕ → List ℕ → List ℕ → State
records k l c e = record { links = k; lens = l; cursors = c; elements = e }

-- the records that are lent for reading, and their cursors
abbrev pub state_of : Deques → List ℕ → State
state_of a cursors = let k = a.links in state k.heads.now k.tails.now a.lens.now cursors k.next.now k.prev.now k.home.now a.element.now

-- the records that are lent for changing, as they are now, and their cursors
abbrev pub state_now : DequesMut → List ℕ → State
state_now a cursors = let k = a.links in state k.heads.now k.tails.now a.lens.now cursors k.next.now k.prev.now k.home.now a.element.now

-- b lends the slices that a lends, so who lent them to a learns from b what they hold
pub record SameDeques (a b : DequesMut) : Type 0 where
  pub links : SameSlices a.links b.links
  pub lens : b.lens.ghost_name ≡ a.lens.ghost_name
  pub element : b.element.ghost_name ≡ a.element.ghost_name

-- r reads what a lends for changing
pub record ReadsDeques (a : DequesMut) (r : Deques) : Type 0 where
  pub heads : r.links.heads.now ≡ a.links.heads.now
  pub tails : r.links.tails.now ≡ a.links.tails.now
  pub next : r.links.next.now ≡ a.links.next.now
  pub prev : r.links.prev.now ≡ a.links.prev.now
  pub home : r.links.home.now ≡ a.links.home.now
  pub lens : r.lens.now ≡ a.lens.now
  pub element : r.element.now ≡ a.element.now
  pub state : (cursors : List ℕ) → state_of r cursors ≡ state_now a cursors
