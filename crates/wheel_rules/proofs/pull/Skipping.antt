-- A bucket that holds its sentinel alone is passed over: that is a turn which changes no record.
use Prim.Native.Nat.{ℕ, ◌+◌, ◌-◌, ◌≤◌, ◌<◌}
use native.Mathlib.Omega.{arith}
use mathlib.Core.Path.{◌≡◌, refl, sym, ap, subst, ◌∙◌}
use mathlib.Core.Bool.{Bool, true, false, cond}
use mathlib.Core.List.{List}
use lib.ListN.{length, get_or}
use lib.Dec.{eqb, leb}
use borrow.Author.Tests.{eqb-true, leb-true, eq-eqb, ne_eqb}
use Rattle.std.specs.Prelude.{Option}
use Rattle.deque_rules.specs.Links.{Links}
use Rattle.deque_rules.specs.Read.{Front, Follows}
use Rattle.deque_rules.proofs.Laws.{turn_stays}
use Rattle.rules.specs.Places.{Geometry, wheel01, buckets, visited_at, bucket_at}
use Rattle.numbers.proofs.Cases.{not_both}
use Rattle.wheel_rules.specs.declared.calls.Clock.{Clock}
use Rattle.wheel_rules.specs.Lent.{Nodes}
use Rattle.wheel_rules.specs.records.Clocks.{standing}
use Rattle.wheel_rules.specs.declared.popping.Position.{Position}
use Rattle.wheel_rules.specs.declared.popping.Turn.{Turn}
use Rattle.wheel_rules.specs.popping.Position.{at, onward}
use Rattle.wheel_rules.specs.popping.Pop.{goes, stands_in, waiting_at, left, TurnReady, going}
use Rattle.wheel_rules.specs.turns.Turns.{OnReady, Waits, Turned}
use Rattle.wheel_rules.specs.pull.Skips.{alone_in, comes_next, one_on, Lent, PassReady, IdleReady, TellsAlone, Passable, Passes, stays, over}
use Rattle.wheel_rules.proofs.popping.Positions.{onward_here}
use Rattle.wheel_rules.proofs.popping.Waiting.{wait_none}
use Rattle.wheel_rules.proofs.turns.Going.{on_goes, enter_asks}
use Rattle.wheel_rules.proofs.turns.Taking.{turn_on, on_turned}
use Rattle.wheel_rules.proofs.pull.Pulling.{Pulling, pull_asks, pull_less, pull_again}

-- ---- the test of one bucket
module _ (h n : List ℕ) (b x : ℕ) (f : Front h b x) where
  pub alone_not : (x ≡ b → ⊥) → TellsAlone h n b false
  alone_not k = record { is = rw (ne_eqb (get_or h b 0) b (λ e. k (f.is ∙ e))) }

  pub alone_so : x ≡ b → (y : ℕ) → Follows n b y → TellsAlone h n b (leb (length n) y)
  alone_so e y z = record { is = rw (eq-eqb (get_or h b 0) b (sym f.is ∙ e)) (ap (leb (length n)) z.is) }

alone_both : (h n : List ℕ) (b : ℕ) → alone_in h n b ≡ true → (get_or h b 0 ≡ b) × (length n ≤ get_or n b 0)
alone_both h n b e = go (eqb (get_or h b 0) b) refl e
  where
    go : (x : Bool) → eqb (get_or h b 0) b ≡ x → cond x (leb (length n) (get_or n b 0)) false ≡ true → (get_or h b 0 ≡ b) × (length n ≤ get_or n b 0)
    go true q k = (eqb-true (get_or h b 0) b q, leb-true (length n) (get_or n b 0) k)
    go false q k = absurd (not_both k)

-- ---- bucket after bucket
here : (c : Clock) → stands_in wheel01 (one_on c) ≡ comes_next wheel01 c
here c = ap (bucket_at wheel01 c.previous c.level) (back c.step)
  where
    back : (j : ℕ) → j + 1 - 1 ≡ j
    back j = omega arith

module _ (h n : List ℕ) (z : PassReady wheel01 h n) (c : Clock) (a : alone_in h n (comes_next wheel01 c) ≡ true) where
  -- no node waits in it
  pub idle_on : length n ≤ waiting_at wheel01 h (one_on c)
  idle_on =
      let u = alone_both h n (comes_next wheel01 c) a in
      omega (arith, z.small, wait_none wheel01 h (one_on c) (λ i. omega arith) (ap (λ (k : ℕ). get_or h k 0) (here c) ∙ u.0 ∙ sym (here c)))

pub one_more : {g : Geometry} {h n : List ℕ} {c r : Clock} → Passes g h n c r → Passable g h n r → Passes g h n c (one_on r)
one_more stays p = over p stays
one_more (over q s) p = over q (one_more s p)

-- what the loop of `step_past` keeps: the buckets up to the step j have been passed, and no node waits there
pub record Passing (h n : List ℕ) (c : Clock) (j : ℕ) : Type 0 where
  pub passes : Passes wheel01 h n c (standing c.level j c)
  pub idle : length n ≤ waiting_at wheel01 h (standing c.level j c)

pub passing_begins : (h n : List ℕ) (c : Clock) → IdleReady wheel01 h n c → Passing h n c c.step
passing_begins h n c z = record { passes = stays; idle = z.idle }

pub bucket_lent : (h n : List ℕ) → PassReady wheel01 h n → (b m : ℕ) → b ≡ m → m < buckets wheel01 → Lent h n b
bucket_lent h n z b m e i = record { head = omega (arith, i, e, z.total); slot = omega (arith, i, e, z.room) }

module _ (h n : List ℕ) (c : Clock) (z : IdleReady wheel01 h n c) (j b : ℕ) (eb : b ≡ bucket_at wheel01 c.previous c.level j) where
  pub passing_on : Passing h n c j → (m : ℕ) → m ≡ visited_at wheel01 c.previous c.reading c.level → j < m → (r : Bool) → TellsAlone h n b r → r ≡ true
      → Passing h n c (j + 1)
  passing_on p m em l r t e =
      let a : alone_in h n (comes_next wheel01 (standing c.level j c)) ≡ true = ap (alone_in h n) (sym eb) ∙ sym t.is ∙ e in
      record {
        passes = one_more p.passes (record { idle = p.idle; more = omega (arith, em, l); alone = a });
        idle = idle_on h n z.lent (standing c.level j c) a;
      }

-- ---- on the records
pub pass_asks : (N : Nodes) (t : List Bool) (d : List ℕ) (c : Clock) → TurnReady wheel01 N t d c → PassReady wheel01 N.links.heads N.links.next
pass_asks N t d c y =
    let s = y.ready.shows in
    record {
      total = s.rep.heads_len ∙ s.count;
      room = omega (arith, s.room, s.slots, s.rep.next_len);
      small = omega (arith, s.rep.next_len, s.rep.small);
    }

-- such a bucket is entered by a turn, and the records stay
module _ (N : Nodes) (t : List Bool) (d : List ℕ) (c : Clock) (y : TurnReady wheel01 N t d c) (z : Passable wheel01 N.links.heads N.links.next c) where
  pass_turned : Turned wheel01 N t d c N (goes (one_on c))
  pass_turned =
      let a : Links = N.links in
      let x : ℕ = waiting_at wheel01 a.heads c in
      let w : Waits wheel01 a.heads c x = record { is = refl } in
      let o : OnReady wheel01 a c = turn_on a.heads a.tails a.next a.prev a.home N.entry N.generation N.serial t d c y x w z.idle in
      let r : Option Position = at c.level (c.step + 1) in
      let e : r ≡ onward wheel01 c.previous c.reading c.level c.step = onward_here wheel01 c.previous c.reading c.level c.step
      z.more in
      let b : ℕ = stands_in wheel01 (one_on c) in
      let l : length a.next ≤ get_or a.next b 0 =
      subst (λ (k : ℕ). length a.next ≤ get_or a.next k 0) (sym (here c)) (alone_both a.heads a.next (comes_next wheel01 c) z.alone).1 in
      on_turned a.heads a.tails a.next a.prev a.home N.entry N.generation N.serial t d c y x w
      a.heads a.tails a.next a.prev a.home (goes (one_on c)) z.idle
      (on_goes a c o r e refl b refl a (turn_stays a b b (enter_asks a c o r e refl b refl) l))

-- so that the pull goes on the same, with no more turns left
module _ (M : Nodes) (t : List Bool) (d : List ℕ) (k : Clock) (y : TurnReady wheel01 M t d k) (N : Nodes) where
  pub pull_passes : {c r : Clock} → Passes wheel01 N.links.heads N.links.next c r → Pulling M t d k N c
      → Pulling M t d k N r × (left wheel01 N.links.home r ≤ left wheel01 N.links.home c)
  pull_passes stays p = (p, omega arith)
  pull_passes {c} (over z s) p =
      let u : Turned wheel01 N t d c N (goes (one_on c)) = pass_turned N t d c (pull_asks M t d k y N c p) z in
      let v = pull_passes s (pull_again M t d k y N c p N (goes (one_on c)) u refl) in
      (v.0, omega (arith, v.1, u.nears.less refl))

-- a turn of the pull that goes on, and the buckets passed over after it
module _ (M : Nodes) (t : List Bool) (d : List ℕ) (k : Clock) (y : TurnReady wheel01 M t d k) (N : Nodes) (c : Clock) (p : Pulling M t d k N c)
    (N' : Nodes) (r : Turn) (z : Turned wheel01 N t d c N' r) (h : going r ≡ true) where
  on : Pulling M t d k N' r.clock
  on = pull_again M t d k y N c p N' r z h

  pub skip_asks : PassReady wheel01 N'.links.heads N'.links.next
  skip_asks = pass_asks N' t d r.clock (pull_asks M t d k y N' r.clock on)

  pub skip_less : (c' : Clock) → Passes wheel01 N'.links.heads N'.links.next r.clock c' → left wheel01 N'.links.home c' < left wheel01
      N.links.home c
  skip_less c' s = omega (arith, (pull_passes M t d k y N' s on).1, pull_less M t d k y N c p N' r z h)

  pub skip_again : (c' : Clock) → Passes wheel01 N'.links.heads N'.links.next r.clock c' → Pulling M t d k N' c'
  skip_again c' s = (pull_passes M t d k y N' s on).0
