-- One turn is right: its contract holds of some records and some turn, of what they write alone.
use Prim.Native.Nat.{ℕ, ◌-◌, ◌≤◌, ◌<◌}
use mathlib.Core.Path.{◌≡◌, refl}
use mathlib.Core.Logic.{⊎_elim}
use mathlib.Core.Bool.{Bool, true, false}
use mathlib.Core.List.{List}
use lib.ListN.{length, get_or}
use Rattle.std.specs.Prelude.{Option}
use Rattle.deque_rules.specs.Links.{Links}
use Rattle.deque_rules.specs.Change.{turn_to}
use Rattle.deque_rules.proofs.Laws.{turns}
use Rattle.rules.specs.Places.{wheel01, bucket_of, place_of, bucket_at}
use Rattle.numbers.proofs.Cases.{below?}
use Rattle.wheel_rules.specs.popping.Position.{more, level_of, step_of}
use Rattle.wheel_rules.specs.declared.calls.Clock.{Clock}
use Rattle.wheel_rules.specs.Lent.{Nodes}
use Rattle.wheel_rules.specs.records.Records.{with_links}
use Rattle.wheel_rules.specs.records.Clocks.{set_free, ended}
use Rattle.wheel_rules.specs.timers.Change.{freed_from}
use Rattle.wheel_rules.specs.timers.Timers.{Disarms}
use Rattle.wheel_rules.specs.declared.popping.Position.{Position}
use Rattle.wheel_rules.specs.declared.popping.Turn.{Turn}
use Rattle.wheel_rules.specs.popping.Pop.{waiting_at, next_position, TurnReady, PopReady, Pops}
use Rattle.wheel_rules.specs.turns.Turns.{OnReady, Waits, GoesOn, Turned}
use Rattle.wheel_rules.proofs.records.Retiming.{end_does}
use Rattle.wheel_rules.proofs.timers.Doing.{disarms, rearms}
use Rattle.wheel_rules.proofs.popping.Popping.{pop_slot, pop_move, pop_skips, pop_fires, pop_moves}
use Rattle.wheel_rules.proofs.turns.Going.{on_ends, on_goes, enter_asks}
use Rattle.wheel_rules.proofs.turns.Taking.{turn_on, turn_pop, pop_turned, on_turned}

-- ---- the node that waits is popped
module _ (N : Nodes) (t : List Bool) (d : List ℕ) (c : Clock) (x : ℕ) (y : PopReady wheel01 N t d c x) where
  abbrev due : ℕ
  due = get_or d (get_or N.entry x 0) 0

  frees : Disarms wheel01 N c (freed_from x c.free N) (set_free x c) x
  frees = disarms N c x (pop_slot N t d c x y)

  pop_dated_right : get_or t (get_or N.entry x 0) false ≡ true → (N' : Nodes) × (r : Turn) × Pops wheel01 N t d c x N' r
  pop_dated_right h =
      ⊎_elim
      (λ (l : c.reading < due). (
        _,
        _,
        pop_moves N t d c x y _ (record { bucket = bucket_of wheel01 c.reading due; number = place_of wheel01 c.reading due }) h l
            (record { bucket = refl; number = refl }) (rearms N.links c.reading x due (pop_move N t d c x y)),
      ))
      (λ (l : due ≤ c.reading). (_, _, pop_fires N t d c x y _ _ h l frees))
      (below? c.reading due)

  pop_right : (N' : Nodes) × (r : Turn) × Pops wheel01 N t d c x N' r
  pop_right = go (get_or t (get_or N.entry x 0) false) refl
    where
      go : (b : Bool) → get_or t (get_or N.entry x 0) false ≡ b → (N' : Nodes) × (r : Turn) × Pops wheel01 N t d c x N' r
      go true h = pop_dated_right h
      go false h = (_, _, pop_skips N t d c x y _ _ h frees)

-- ---- the next bucket is entered, or the advance ends
module _ (a : Links) (c : Clock) (y : OnReady wheel01 a c) where
  on_right : (a' : Links) × (r : Turn) × GoesOn wheel01 a c a' r
  on_right = go (more (next_position wheel01 c)) refl
    where
      go : (m : Bool) → more (next_position wheel01 c) ≡ m → (a' : Links) × (r : Turn) × GoesOn wheel01 a c a' r
      go true m =
          let r : Option Position = next_position wheel01 c in
          let b : ℕ = bucket_at wheel01 c.previous (level_of r) ((step_of r) - 1) in
          (_, _, on_goes a c y r refl m b refl (turn_to a b b) (turns a b b (enter_asks a c y r refl m b refl)))
      go false m = (a, _, on_ends a c y (next_position wheel01 c) refl (ended c) m (end_does wheel01 c))

-- ---- either
module _ (N : Nodes) (t : List Bool) (d : List ℕ) (c : Clock) (y : TurnReady wheel01 N t d c) where
  abbrev x : ℕ
  x = waiting_at wheel01 N.links.heads c

  abbrev a : Links
  a = N.links

  waits : Waits wheel01 a.heads c x
  waits = record { is = refl }

  pub turn_right : (N' : Nodes) × (r : Turn) × Turned wheel01 N t d c N' r
  turn_right =
      ⊎_elim
      (λ (l : x < length a.next).
      let z = pop_right N t d c x
      (turn_pop a.heads a.tails a.next a.prev a.home N.entry N.generation N.serial t d c y x waits l) in (
        z.0,
        z.1,
        pop_turned a.heads a.tails a.next a.prev a.home N.entry N.generation N.serial t d c y x waits z.0 z.1 l z.2,
      ))
      (λ (l : length a.next ≤ x).
      let z = on_right a c (turn_on a.heads a.tails a.next a.prev a.home N.entry N.generation N.serial t d c y x waits l) in
      let b : Links = z.0 in (
        with_links b N,
        z.1,
        on_turned a.heads a.tails a.next a.prev a.home N.entry N.generation N.serial t d c y x waits
            b.heads b.tails b.next b.prev b.home z.1 l z.2,
      ))
      (below? x (length a.next))
