-- The five slices of the records, lent as one value: the records that they hold, and that it lends the same slices.
use Rattle.std.specs.Prelude.{◌≡◌}
use Rattle.deque.specs.declared.linked.Linked.{Linked}
use Rattle.deque.specs.declared.linked.LinkedMut.{LinkedMut}
use Rattle.deque_rules.specs.Links.{Links, links}

-- the records that are lent for reading
abbrev pub links_of : Linked → Links
links_of l = links l.heads.now l.tails.now l.next.now l.prev.now l.home.now

-- the records that are lent for changing, as they are now
abbrev pub links_now : LinkedMut → Links
links_now l = links l.heads.now l.tails.now l.next.now l.prev.now l.home.now

-- b lends the slices that a lends, so who lent them to a learns from b what they hold
pub record SameSlices (a b : LinkedMut) : Type 0 where
  pub heads : b.heads.ghost_name ≡ a.heads.ghost_name
  pub tails : b.tails.ghost_name ≡ a.tails.ghost_name
  pub next : b.next.ghost_name ≡ a.next.ghost_name
  pub prev : b.prev.ghost_name ≡ a.prev.ghost_name
  pub home : b.home.ghost_name ≡ a.home.ghost_name

-- r reads what l lends for changing
pub record Reads (l : LinkedMut) (r : Linked) : Type 0 where
  pub heads : r.heads.now ≡ l.heads.now
  pub tails : r.tails.now ≡ l.tails.now
  pub next : r.next.now ≡ l.next.now
  pub prev : r.prev.now ≡ l.prev.now
  pub home : r.home.now ≡ l.home.now
  pub links : links_of r ≡ links_now l
