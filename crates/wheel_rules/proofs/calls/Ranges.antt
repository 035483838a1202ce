-- The clock that a call leaves keeps its number of entries in the range and its level among those that there are.
use Prim.Native.Nat.{ℕ, zero, suc, ◌+◌, ◌≤◌}
use native.Mathlib.Omega.{arith}
use mathlib.Core.Path.{◌≡◌, refl}
use mathlib.Core.Bool.{Bool, true, false, cond, false≢true}
use mathlib.Core.List.{List}
use lib.ListN.{length, get_or}
use lib.Dec.{ltb, leb}
use borrow.Author.Tests.{ltb-true}
use Rattle.rules.specs.Places.{wheel01, place_of, visited_at}
use Rattle.wheel_rules.specs.declared.calls.Clock.{Clock}
use Rattle.wheel_rules.specs.Lent.{Nodes, Records, SoundRecords}
use Rattle.wheel_rules.specs.records.Clocks.{set_free, counted, started, ended, abandoned, standing}
use Rattle.wheel_rules.specs.declared.popping.Turn.{Turn}
use Rattle.wheel_rules.specs.declared.calls.Event.TheVariants.{Expired, Rescheduled, End}
use Rattle.wheel_rules.specs.popping.Position.{at, over, onward, more, level_of, step_of}
use Rattle.wheel_rules.specs.popping.Pop.{goes, stops, waiting_at, next_position, pop_turn, left, going}
use Rattle.wheel_rules.specs.turns.Turns.{on_turn, turn_nodes, turn_turn}
use Rattle.wheel_rules.specs.pull.Pull.{Step, turns, pull_step}
use Rattle.wheel_rules.specs.sound.Sound.{InRange}
use Rattle.wheel_rules.specs.refusals.Refuse.{Lendable}
use Rattle.wheel_rules.specs.calls.Work.{laid_out, moved, descheduled}

pub of_sound : (R : Records) → SoundRecords wheel01 R → InRange wheel01 R.clock
of_sound R s =
    record { some = s.lengths.ranges.some; most = s.lengths.ranges.entries_most; known = λ o. (s.advance.stands o).known }

module _ (c : Clock) (i : InRange wheel01 c) where
  pub freeing : (f : ℕ) → InRange wheel01 (set_free f c)
  freeing f = record { some = i.some; most = i.most; known = i.known }

  pub counting : (f : ℕ) → InRange wheel01 (counted f c)
  counting f = record { some = i.some; most = i.most; known = i.known }

  pub starting : (q : ℕ) → InRange wheel01 (started q c)
  starting q = record { some = i.some; most = i.most; known = λ o. omega arith }

  pub ending : InRange wheel01 (ended c)
  ending = record { some = i.some; most = i.most; known = λ o. absurd (false≢true o) }

  pub abandoning : InRange wheel01 (abandoned c)
  abandoning = record { some = i.some; most = i.most; known = λ o. absurd (false≢true o) }

-- enabled over lent records
pub enabling_range : (R : Records) → Lendable R → InRange wheel01 (laid_out R).clock
enabling_range R l = record { some = l.around.ranges.some; most = l.around.ranges.entries_most; known = λ o. absurd (false≢true o) }

-- moved, or removed
pub moving : (R : Records) (x : ℕ) (b : Bool) → InRange wheel01 R.clock → InRange wheel01 (cond b (moved R x) (descheduled R x)).clock
moving R x true i = i
moving R x false i = freeing R.clock i x

-- ---- a pull
either : (P : Turn → Type 0) (b : Bool) (x y : Turn) → P x → P y → P (cond b x y)
either P true x y p q = p
either P false x y p q = q

-- the next position is on a level that there is
onward_level : (p q l j : ℕ) → l ≤ length wheel01.sizes → level_of (onward wheel01 p q l j) ≤ length wheel01.sizes
onward_level p q l j h = go (ltb j (visited_at wheel01 p q l)) (ltb l (length wheel01.sizes)) refl (ltb 0 (visited_at wheel01 p q (l + 1)))
  where
    go : (a b : Bool) → ltb l (length wheel01.sizes) ≡ b → (d : Bool) → level_of (cond a (at l (j + 1)) (cond b (cond d (at (l + 1) 1) over) over)) ≤ length
        wheel01.sizes
    go true b e d = h
    go false true e true = omega (arith, ltb-true l (length wheel01.sizes) e)
    go false true e false = omega arith
    go false false e d = omega arith

abbrev Fine : Turn → Type 0
Fine r = InRange wheel01 r.clock

on_range : (c : Clock) → InRange wheel01 c → Fine (on_turn wheel01 c)
on_range c i =
    either Fine (more (next_position wheel01 c)) (goes (standing (level_of (next_position wheel01 c)) (step_of (next_position wheel01 c)) c)) (stops (ended c) End)
    (record { some = i.some; most = i.most; known = λ o. onward_level c.previous c.reading c.level c.step (i.known o) })
    (ending c i)

either_step : (b : Bool) (x y : Step) → Fine x.turn → Fine y.turn → Fine (cond b x y).turn
either_step true x y p q = p
either_step false x y p q = q

module _ (t : List Bool) (d : List ℕ) where
  turn_range : (N : Nodes) (c : Clock) → InRange wheel01 c → Fine (turn_turn wheel01 N t d c)
  turn_range N c i =
      let x : ℕ = waiting_at wheel01 N.links.heads c in
      let e : ℕ = get_or N.entry x 0 in
      let n : ℕ = get_or N.serial x 0 in
      either Fine (ltb x (length N.links.next)) (pop_turn wheel01 N t d c x) (on_turn wheel01 c)
      (either Fine (get_or t e false)
      (cond (leb (get_or d e 0) c.reading) (stops (set_free x c) (Expired e n (get_or d e 0)))
      (stops c (Rescheduled e n (place_of wheel01 c.reading (get_or d e 0)))))
      (goes (set_free x c))
      (either Fine (leb (get_or d e 0) c.reading) (stops (set_free x c) (Expired e n (get_or d e 0)))
      (stops c (Rescheduled e n (place_of wheel01 c.reading (get_or d e 0))))
      (freeing c i x) i)
      (freeing c i x))
      (on_range c i)

  turns_range : (k : ℕ) (N : Nodes) (c : Clock) → InRange wheel01 c → Fine (turns wheel01 t d k N c).turn
  turns_range zero N c i = i
  turns_range (suc k) N c i =
      let r : Turn = turn_turn wheel01 N t d c in
      let M : Nodes = turn_nodes wheel01 N t d c in
      either_step (going r) (turns wheel01 t d k M r.clock) (record { nodes = M; turn = r }) (turns_range k M r.clock (turn_range N c i))
      (turn_range N c i)

  pub pulling_range : (N : Nodes) (c : Clock) → InRange wheel01 c → InRange wheel01 (pull_step wheel01 t d N c).turn.clock
  pulling_range N c i = turns_range (suc (left wheel01 N.links.home c)) N c i
