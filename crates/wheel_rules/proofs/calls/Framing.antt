-- What each call that is not refused writes of the fields that a wheel does not show (specs/Promise.antt).
use Prim.Native.Nat.{ℕ, zero, suc, ◌-◌, ◌≤◌, ◌<◌}
use native.Mathlib.Omega.{arith}
use mathlib.Core.Path.{◌≡◌, refl, sym, ◌∙◌}
use mathlib.Core.Logic.{⊎_elim}
use mathlib.Core.Bool.{Bool, true, false, cond, false≢true}
use mathlib.Core.List.{List, []}
use lib.ListN.{length, get_or, get_or-replicate}
use lib.Dec.{ltb, leb}
use borrow.Author.Tests.{ltb-true}
use Rattle.std.specs.Prelude.{Option}
use Rattle.numbers.specs.Shared.{no_slot as none, In, unless, not_refused as answered}
use Rattle.deque_rules.specs.Links.{home_of, deq, listed}
use Rattle.deque_rules.specs.Change.{turn_to}
use Rattle.deque_rules.proofs.Laws.{first_in, head_is, whole_listed}
use Rattle.rules.specs.Places.{wheel01, buckets, bucket_at}
use Rattle.rules.proofs.Placing.{bucket_of_in}
use Rattle.numbers.proofs.Cases.{below?}
use Rattle.wheel_rules.specs.popping.Position.{more, level_of, step_of}
use Rattle.wheel_rules.specs.declared.calls.Clock.{Clock}
use Rattle.wheel_rules.specs.Lent.{Nodes, Records, SoundRecords}
use Rattle.wheel_rules.specs.records.Records.{with_links}
use Rattle.wheel_rules.specs.records.Clocks.{standing, ended}
use Rattle.wheel_rules.specs.timers.Change.{freed_from, moved_to}
use Rattle.wheel_rules.specs.declared.popping.Position.{Position}
use Rattle.wheel_rules.specs.declared.calls.Event.TheVariants.{End}
use Rattle.wheel_rules.specs.declared.popping.Turn.{Turn}
use Rattle.wheel_rules.specs.popping.Pop.{goes, stops, stands_in, waiting_at, next_position, pop_nodes, pop_turn, left as turnsLeft, going}
use Rattle.wheel_rules.specs.turns.Turns.{on_links, on_turn, turn_nodes, turn_turn}
use Rattle.wheel_rules.specs.pull.Pull.{Step, turns}
use Rattle.wheel_rules.specs.refusals.Refuse.{roomy, Live, Lendable, enable_rows, schedule_rows, handle_rows, closed_rows, open_rows}
use Rattle.wheel_rules.specs.calls.Work.{scheduled, descheduled, moved, rescheduled, entry_set, opened, left, pulled, laid_out, has_deadline}
use Rattle.wheel_rules.specs.Promise.{DeadFields, DeadClock, Blank}
use Rattle.wheel_rules.proofs.layout.Bare.{bare_next_len, bare_prev_at}
use Rattle.wheel_rules.proofs.popping.Positions.{bucket_at_in}
use Rattle.wheel_rules.proofs.popping.Waiting.{wait_before, wait_none, wait_some}
use Rattle.wheel_rules.proofs.refusals.Rows.{past, standing_past, closed_past}
use Rattle.wheel_rules.proofs.calls.Keeping.{Kept, Fit, dead_same, kept_same, kept_both, arm_dead, free_kept, free_fit, move_kept, move_fit}
use Rattle.wheel_rules.proofs.calls.Keeping.{turn_kept, turn_fit}

-- of a wheel's records before and after a call
pub record Framed (R R' : Records) : Type 0 where
  pub nodes : DeadFields (buckets wheel01) R.nodes R'.nodes
  pub clock : DeadClock R.clock R'.clock

abbrev D : ℕ
D = buckets wheel01

-- ---- the clock
-- whether an advance is open, and its previous, level and step, are as they were
clock_same : (c c' : Clock) → c'.open ≡ c.open → c'.previous ≡ c.previous → c'.level ≡ c.level → c'.step ≡ c.step → DeadClock c c'
clock_same c c' o p l j = record { closes = λ e i. absurd (false≢true (sym i ∙ o ∙ e)); stays = λ e i. (p, l, j) }

-- ---- sound records
fits : (R : Records) → SoundRecords wheel01 R → Fit D R.nodes R.clock.free
fits R s =
    let w = whole_listed R.nodes.links R.clock.free s.linked in
    let n = s.lengths.nodes in
    let e : length R.nodes.links.next ≡ R.clock.nodes = n.next_len in
    record {
      lists = listed R.nodes.links R.clock.free;
      rep = w.0;
      free_is = w.1;
      count = s.lengths.ends.heads_len;
      room = omega (arith, e, s.lengths.ranges.room);
      own = λ b h. (s.kinds.each b (omega (arith, h, n.bucket_len, s.lengths.ranges.room))).sentinel h;
      entry_len = n.entry_len ∙ sym e;
      generation_len = n.generation_len ∙ sym e;
      serial_len = n.serial_len ∙ sym e;
    }

-- ---- calls that write no node record
pub same_framed : (R : Records) → Framed R R
same_framed R = record { nodes = dead_same D R.nodes; clock = clock_same R.clock R.clock refl refl refl refl }

pub set_framed : (R : Records) (e : ℕ) (has : Bool) (d h : ℕ) → Framed R (entry_set R e has d h)
set_framed R e has d h = record { nodes = dead_same D R.nodes; clock = clock_same R.clock R.clock refl refl refl refl }

-- start opens an advance
pub start_framed : (R : Records) (q : ℕ) → closed_rows R 0 → Framed R (opened R q)
start_framed R q f =
    record {
      nodes = dead_same D R.nodes;
      clock = record { closes = λ e i. absurd (false≢true (sym i)); stays = λ e i. absurd (false≢true (sym i)) };
    }

open_past : (R : Records) → open_rows R 0 → SoundRecords wheel01 R × (R.clock.open ≡ true)
open_past R f =
    let u = standing_past R (unless (R.clock.open ≡ true) 6 answered) 0 f refl in
    (u.1, (past 6 0 u.2 (λ i. omega (arith, i))).0)

-- abandon closes one
pub abandon_framed : (R : Records) → open_rows R 0 → Framed R (left R)
abandon_framed R f =
    record {
      nodes = dead_same D R.nodes;
      clock = record { closes = λ e i. (refl, refl, refl); stays = λ e i. absurd (false≢true (sym e ∙ (open_past R f).1)) };
    }

-- ---- schedule
pub schedule_framed : (R : Records) (e h : ℕ) → schedule_rows R e h 0 → Framed R (scheduled R e h)
schedule_framed R e h f =
    let u = closed_past R
    (unless (e < R.clock.entries) 7
    (unless (get_or R.entries.generation e 0 ≡ h) 8 (unless (get_or R.entries.dated e false ≡ true) 9 (roomy R answered)))) 0 f refl in
    let v = past 7 0 u.3 (λ i. omega (arith, i)) in
    let a = past 8 0 v.1 (λ i. omega (arith, i)) in
    let b = past 9 0 a.1 (λ i. omega (arith, i)) in
    let r = past 10 0 b.1 (λ i. omega (arith, i)) in
    let z : Fit D R.nodes R.clock.free = fits R u.1 in
    let free = z.rep.spare R.clock.free (first_in z.lists.free R.clock.free z.free_is r.0) in
    record {
      nodes =
          arm_dead D R.nodes R.clock.free z _ R.clock.free e h R.clock.serial (bucket_of_in wheel01 R.clock.reading _) free.0
          free.1;
      clock = clock_same R.clock _ refl refl refl refl;
    }

-- ---- deschedule, reschedule
module _ (R : Records) (x n h : ℕ) (f : handle_rows R x n h 0) where
  handled : SoundRecords wheel01 R × Live R x n
  handled =
      let u = closed_past R (unless (Live R x n) 12 (unless (get_or R.nodes.generation x 0 ≡ h) 13 answered)) 0 f refl in
      (u.1, (past 12 0 u.3 (λ i. omega (arith, i))).0)

  fit : Fit D R.nodes R.clock.free
  fit = fits R handled.0

  there : x < fit.lists.slots
  there = omega (arith, handled.1.slot, handled.0.lengths.nodes.entry_len, fit.entry_len)

  armed : home_of R.nodes.links x ≡ none → ⊥
  armed e = omega (arith, e, handled.1.armed)

  pub deschedule_framed : Framed R (descheduled R x)
  deschedule_framed =
      record {
        nodes = (free_kept D R.nodes R.clock.free fit x handled.1.after there armed).dead;
        clock = clock_same R.clock _ refl refl refl refl;
      }

  moved_framed : Framed R (moved R x)
  moved_framed =
      record {
        nodes = (move_kept D R.nodes R.clock.free fit x handled.1.after there armed _ (bucket_of_in wheel01 R.clock.reading _)).dead;
        clock = clock_same R.clock _ refl refl refl refl;
      }

  pub reschedule_framed : Framed R (rescheduled R x)
  reschedule_framed = go (has_deadline R x)
    where
      go : (b : Bool) → Framed R (cond b (moved R x) (descheduled R x))
      go true = moved_framed
      go false = deschedule_framed

-- ---- pull
-- a turn: what it leaves of the node records, and that they are fit for the next
record Goes (N M : Nodes) (r : Turn) : Type 0 where
  kept : Kept D N M
  fit : Fit D M r.clock.free

either : (N M M' : Nodes) (r r' : Turn) (b : Bool) → Goes N M r → Goes N M' r' → Goes N (cond b M M') (cond b r r')
either N M M' r r' true p q = p
either N M M' r r' false p q = q

module _ (t : List Bool) (d : List ℕ) (N : Nodes) (c : Clock) (z : Fit D N c.free) where
  abbrev x : ℕ
  x = waiting_at wheel01 N.links.heads c

  -- the node that waits is an armed slot
  module _ (l : x < length N.links.next) where
    slot : x < z.lists.slots
    slot = omega (arith, l, z.rep.next_len)

    real : x ≡ none → ⊥
    real e = omega (arith, slot, z.rep.small, e)

    inside : c.step ≡ 0 → ⊥
    inside e = real (wait_before wheel01 N.links.heads c e)

    other : get_or N.links.heads (stands_in wheel01 c) 0 ≡ stands_in wheel01 c → ⊥
    other e = real (wait_none wheel01 N.links.heads c inside e)

    is_head : get_or N.links.heads (stands_in wheel01 c) 0 ≡ x
    is_head = sym (wait_some wheel01 N.links.heads c inside other)

    in_count : stands_in wheel01 c < z.lists.count
    in_count = omega (arith, bucket_at_in wheel01 c.previous c.level (c.step - 1), z.count)

    member : In x (deq z.lists (stands_in wheel01 c))
    member =
        first_in (deq z.lists (stands_in wheel01 c)) x
        (sym (head_is N.links z.lists [] z.rep (stands_in wheel01 c) in_count) ∙ is_head) real

    home_is : home_of N.links x ≡ stands_in wheel01 c
    home_is = (z.rep.member (stands_in wheel01 c) x in_count member).1

    beyond : D ≤ x
    beyond =
        ⊎_elim (λ (h : x < D). absurd (other (is_head ∙ sym (z.own x h) ∙ home_is))) (λ (h : D ≤ x). h) (below? x D)

    held : home_of N.links x ≡ none → ⊥
    held e = omega (arith, e, home_is, in_count, z.rep.few)

    -- it is freed, or moved
    frees : (r : Turn) → r.clock.free ≡ x → Goes N (freed_from x c.free N) r
    frees r e =
        record {
          kept = free_kept D N c.free z x beyond slot held;
          fit = rw e (free_fit D N c.free z x beyond slot held);
        }

    moves : (b : ℕ) → b < D → (r : Turn) → r.clock.free ≡ c.free → Goes N (moved_to b x N) r
    moves b h r e =
        record {
          kept = move_kept D N c.free z x beyond slot held b h;
          fit = rw e (move_fit D N c.free z x beyond slot held b h);
        }

    pop_goes : Goes N (pop_nodes wheel01 N t d c x) (pop_turn wheel01 N t d c x)
    pop_goes =
        let e : ℕ = get_or N.entry x 0 in
        either N _ _ _ _ (get_or t e false)
        (either N _ _ _ _ (leb (get_or d e 0) c.reading) (frees _ refl) (moves _ (bucket_of_in wheel01 c.reading (get_or d e 0)) _ refl))
        (frees _ refl)

  -- the next bucket is entered, or the advance ends
  on_goes : Goes N (with_links (on_links wheel01 N.links c) N) (on_turn wheel01 c)
  on_goes = go (more (next_position wheel01 c))
    where
      r : Option Position
      r = next_position wheel01 c

      b : ℕ
      b = bucket_at wheel01 c.previous (level_of r) ((step_of r) - 1)

      go : (m : Bool)
          → Goes N (with_links (cond m (turn_to N.links b b) N.links) N) (cond m (goes (standing (level_of r) (step_of r) c)) (stops (ended c) End))
      go true =
          let h : b < D = bucket_at_in wheel01 c.previous (level_of r) ((step_of r) - 1) in
          record { kept = turn_kept D N c.free z b h; fit = turn_fit D N c.free z b h }
      go false = record { kept = kept_same D N; fit = z }

  turn_goes : Goes N (turn_nodes wheel01 N t d c) (turn_turn wheel01 N t d c)
  turn_goes = go (ltb x (length N.links.next)) refl
    where
      go : (b : Bool) → ltb x (length N.links.next) ≡ b
          → Goes N (cond b (pop_nodes wheel01 N t d c x) (with_links (on_links wheel01 N.links c) N)) (cond b (pop_turn wheel01 N t d c x) (on_turn wheel01 c))
      go true e = pop_goes (ltb-true x (length N.links.next) e)
      go false e = on_goes

-- turn after turn
either_kept : (N : Nodes) (s s' : Step) (b : Bool) → Kept D N s.nodes → Kept D N s'.nodes → Kept D N (cond b s s').nodes
either_kept N s s' true p q = p
either_kept N s s' false p q = q

turns_kept : (t : List Bool) (d : List ℕ) (k : ℕ) (N : Nodes) (c : Clock) → Fit D N c.free → Kept D N (turns wheel01 t d k N c).nodes
turns_kept t d zero N c z = kept_same D N
turns_kept t d (suc k) N c z =
    let r : Turn = turn_turn wheel01 N t d c in
    let M : Nodes = turn_nodes wheel01 N t d c in
    let u : Goes N M r = turn_goes t d N c z in
    either_kept N (turns wheel01 t d k M r.clock) (record { nodes = M; turn = r }) (going r)
    (kept_both D N M (turns wheel01 t d k M r.clock).nodes u.kept (turns_kept t d k M r.clock u.fit))
    u.kept

-- the clock of a turn: the advance stays open where the pull goes on, and one that is closed has been ended
record Closes (r : Turn) : Type 0 where
  on : going r ≡ true → r.clock.open ≡ true
  off : r.clock.open ≡ false → (r.clock.previous ≡ 0) × (r.clock.level ≡ 0) × (r.clock.step ≡ 0)

either_closes : (r r' : Turn) (b : Bool) → Closes r → Closes r' → Closes (cond b r r')
either_closes r r' true p q = p
either_closes r r' false p q = q

module _ (t : List Bool) (d : List ℕ) where
  turn_closes : (N : Nodes) (c : Clock) → c.open ≡ true → Closes (turn_turn wheel01 N t d c)
  turn_closes N c o =
      let x : ℕ = waiting_at wheel01 N.links.heads c in
      let e : ℕ = get_or N.entry x 0 in
      either_closes _ _ (ltb x (length N.links.next))
      (either_closes _ _ (get_or t e false) (either_closes _ _ (leb (get_or d e 0) c.reading) (still _ refl) (still _ refl)) (still _ refl))
      (either_closes _ _ (more (next_position wheel01 c)) (still _ refl)
      (record { on = λ i. absurd (false≢true i); off = λ i. (refl, refl, refl) }))
    where
      still : (r : Turn) → r.clock.open ≡ c.open → Closes r
      still r e = record { on = λ i. e ∙ o; off = λ i. absurd (false≢true (sym i ∙ e ∙ o)) }

  turns_closes : (k : ℕ) (N : Nodes) (c : Clock) → c.open ≡ true → Closes (turns wheel01 t d k N c).turn
  turns_closes zero N c o = record { on = λ i. o; off = λ i. absurd (false≢true (sym i ∙ o)) }
  turns_closes (suc k) N c o = go (going r) refl (turns_closes k M r.clock)
    where
      r : Turn
      r = turn_turn wheel01 N t d c

      M : Nodes
      M = turn_nodes wheel01 N t d c

      go : (b : Bool) → going r ≡ b → (r.clock.open ≡ true → Closes (turns wheel01 t d k M r.clock).turn)
          → Closes (cond b (turns wheel01 t d k M r.clock) (record { nodes = M; turn = r })).turn
      go true e more = more ((turn_closes N c o).on e)
      go false e more = turn_closes N c o

pub pull_framed : (R : Records) → open_rows R 0 → Framed R (pulled R)
pull_framed R f =
    let u = open_past R f in
    let t : List Bool = R.entries.dated in
    let d : List ℕ = R.entries.deadline in
    let k : ℕ = suc (turnsLeft wheel01 R.nodes.links.home R.clock) in
    record {
      nodes = (turns_kept t d k R.nodes R.clock (fits R u.0)).dead;
      clock =
          record {
            closes = λ e i. (turns_closes t d k R.nodes R.clock u.1).off i;
            stays = λ e i. absurd (false≢true (sym e ∙ u.1));
          };
    }

-- ---- enable
pub enable_blank : (R : Records) → enable_rows R 0 → Blank (buckets wheel01) (laid_out R).nodes
enable_blank R f =
    let y : Lendable R = (past 3 0 (past 2 0 f (λ i. omega (arith, i))).1 (λ i. omega (arith, i))).0 in
    let b : ℕ = length R.nodes.links.heads in
    let n : ℕ = length R.nodes.links.next in
    let there : (x : ℕ) → x < length (laid_out R).nodes.links.next → x < n = λ x l. rw (bare_next_len b n y.around.ranges.nodes_most) at l in
    record {
      payload = λ x l. rw (get_or-replicate {A = ℕ} n x 0 0 (there x l)) refl;
      prev = λ x l i. bare_prev_at b n x (there x l);
    }
