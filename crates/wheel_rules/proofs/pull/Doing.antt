-- The turns of a pull reach its answer: its contract, of what it writes alone.
use Prim.Native.Nat.{ℕ, zero, suc, ◌<◌}
use native.Mathlib.Omega.{arith}
use mathlib.Core.Path.{◌≡◌, refl, subst}
use mathlib.Core.Bool.{Bool, true, false}
use mathlib.Core.List.{List}
use Rattle.rules.specs.Places.{wheel01}
use Rattle.rules.specs.Wheel.{Wheel, pull}
use Rattle.rules.specs.Calls.{act}
use Rattle.rules.specs.Sound.{Sound}
use Rattle.wheel_rules.specs.Promise.{told}
use Rattle.wheel_rules.specs.declared.calls.Clock.{Clock}
use Rattle.wheel_rules.specs.Lent.{Nodes, entries, records, Shows}
use Rattle.wheel_rules.specs.declared.calls.Event.{Event}
use Rattle.wheel_rules.specs.declared.popping.Turn.{Turn}
use Rattle.wheel_rules.specs.popping.Pop.{left, TurnReady, going, event_of}
use Rattle.wheel_rules.specs.turns.Turns.{Turned}
use Rattle.wheel_rules.specs.pull.Pull.{Step, pull_step, Pulls}
use Rattle.wheel_rules.proofs.turns.Doing.{turn_right}
use Rattle.wheel_rules.proofs.pull.Pulling.{Pulling, pull_begins, pull_asks, pull_less, pull_again, pull_ends}

module _ (M : Nodes) (t : List Bool) (d : List ℕ) (k : Clock) (y : TurnReady wheel01 M t d k) where
  abbrev Answered : Type 0
  Answered = (N' : Nodes) × (c' : Clock) × (a : Event) × Pulls wheel01 M t d k N' c' a

  -- turn after turn, fewer than j of which are left
  reaches : (j : ℕ) (N : Nodes) (c : Clock) → Pulling M t d k N c → left wheel01 N.links.home c < j → Answered
  reaches zero N c p l = absurd (omega arith)
  reaches (suc j) N c p l =
      let z = turn_right N t d c (pull_asks M t d k y N c p) in
      go z.0 z.1 z.2 (going z.1) refl (λ N' c' q i. reaches j N' c' q i)
    where
      go : (N' : Nodes) (r : Turn) → Turned wheel01 N t d c N' r → (b : Bool) → going r ≡ b
          → ((N'' : Nodes) (c'' : Clock) → Pulling M t d k N'' c'' → left wheel01 N''.links.home c'' < j → Answered) → Answered
      go N' r u true h more = more N' r.clock (pull_again M t d k y N c p N' r u h) (omega (arith, l, pull_less M t d k y N c p N' r u h))
      go N' r u false h more = (N', r.clock, event_of r, pull_ends M t d k y N c p N' r u h)

  pub pull_right : Answered
  pull_right = reaches (suc (left wheel01 M.links.home k)) M k (pull_begins M t d k y) (omega arith)

  abbrev last : Step
  last = pull_step wheel01 t d M k

  -- what the last turn has written is the rules' pull
  pub pull_does : (ages : List ℕ) (w : Wheel) → Shows wheel01 (records M (entries t d ages) k) w → Sound wheel01 w
      → ((act wheel01 w pull).0 ≡ told (event_of last.turn))
      × Shows wheel01 (records last.nodes (entries t d ages) last.turn.clock) (act wheel01 w pull).1
  pull_does ages w s o =
      let u = pull_right.3 in
      let v = u.does ages w s o in (
        subst (λ (a : Event). (act wheel01 w pull).0 ≡ told a) u.event_is v.0,
        subst (λ (c : Clock). Shows wheel01 (records last.nodes (entries t d ages) c) (act wheel01 w pull).1) u.clock_is
            (subst (λ (N : Nodes). Shows wheel01 (records N (entries t d ages) pull_right.1) (act wheel01 w pull).1) u.is v.1),
      )
