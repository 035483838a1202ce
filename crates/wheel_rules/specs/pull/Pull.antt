-- inner: a pull on the records: turns, one after another, to its answer.
use Rattle.std.specs.Prelude.{ℕ, zero, suc, Bool, false, cond, List, ◌≡◌}
use Rattle.rules.specs.Calls.{act}
use Rattle.rules.specs.Places.{Geometry}
use Rattle.rules.specs.Sound.{Sound}
use Rattle.rules.specs.Wheel.{Wheel, pull}
use Rattle.wheel_rules.specs.Promise.{told}
use Rattle.wheel_rules.specs.Lent.{Nodes, entries, records, Shows}
use Rattle.wheel_rules.specs.declared.calls.Event.{Event}
use Rattle.wheel_rules.specs.declared.popping.Turn.{Turn}
use Rattle.wheel_rules.specs.declared.calls.Clock.{Clock}
use Rattle.wheel_rules.specs.popping.Pop.{goes, going, event_of, left}
use Rattle.wheel_rules.specs.turns.Turns.{turn_nodes, turn_turn}

-- the node records after so many turns, and the last turn
pub record Step : Type 0 where
  pub nodes : Nodes
  pub turn : Turn

-- turns until the pull has its answer, k at most
abbrev pub turns : Geometry → List Bool → List ℕ → ℕ → Nodes → Clock → Step
turns g t d zero N c = record { nodes = N; turn = goes c }
turns g t d (suc k) N c =
    let r : Turn = turn_turn g N t d c in
    let M : Nodes = turn_nodes g N t d c in
    cond (going r) (turns g t d k M r.clock) (record { nodes = M; turn = r })

-- a pull. So many turns are enough (the law `enough`): each that goes on enters a bucket ahead or frees an armed slot
abbrev pub pull_step : Geometry → List Bool → List ℕ → Nodes → Clock → Step
pull_step g t d N c = turns g t d (suc (left g N.links.home c)) N c

-- "Pull: one event, or End"
pub record Pulls (g : Geometry) (N : Nodes) (t : List Bool) (d : List ℕ) (c : Clock) (N' : Nodes) (c' : Clock) (a : Event) : Type 0 where
  pub is : N' ≡ (pull_step g t d N c).nodes
  pub clock_is : c' ≡ (pull_step g t d N c).turn.clock
  pub event_is : a ≡ event_of (pull_step g t d N c).turn
  -- the turns reached the answer
  pub enough : going (pull_step g t d N c).turn ≡ false
  pub does :
      (ages : List ℕ) (w : Wheel) → Shows g (records N (entries t d ages) c) w → Sound g w →
      ((act g w pull).0 ≡ told a) × Shows g (records N' (entries t d ages) c') (act g w pull).1
