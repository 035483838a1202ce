-- One turn: a node popped, or the next bucket.
use Prim.Native.Nat.{ℕ, ◌≤◌, ◌<◌}
use native.Mathlib.Omega.{arith}
use mathlib.Core.Path.{◌≡◌, ap, ◌∙◌}
use mathlib.Core.Bool.{Bool, true, false}
use mathlib.Core.List.{List}
use lib.ListN.{length}
use lib.Dec.{ltb}
use borrow.Author.Tests.{lt-ltb, le-ltb}
use Rattle.deque_rules.specs.Links.{Links, links}
use Rattle.rules.specs.Places.{wheel01}
use Rattle.wheel_rules.specs.declared.calls.Clock.{Clock}
use Rattle.wheel_rules.specs.Lent.{Nodes, nodes, entries}
use Rattle.wheel_rules.specs.records.Records.{join}
use Rattle.wheel_rules.specs.declared.popping.Turn.{Turn}
use Rattle.wheel_rules.specs.popping.Pop.{waiting_at, pop_nodes, pop_turn, TurnReady, PopReady, Pops}
use Rattle.wheel_rules.specs.turns.Turns.{WaitReady, OnReady, Waits, GoesOn, Turned}

pub turn_waits : (N : Nodes) (t : List Bool) (d : List ℕ) (c : Clock) → TurnReady wheel01 N t d c → WaitReady wheel01 N.links.heads
turn_waits N t d c y =
    let s = y.ready.shows in
    record { total = s.rep.heads_len ∙ s.count }

module _ (h tl n p o e γ s : List ℕ) (t : List Bool) (d : List ℕ) (c : Clock) (y : TurnReady wheel01 (nodes h tl n p o e γ s) t d c) (x : ℕ)
    (k : Waits wheel01 h c x) where
  pub turn_on : length n ≤ x → OnReady wheel01 (links h tl n p o) c
  turn_on l = record { e = e; h = γ; n = s; t = t; d = d; turn = y; front = omega (arith, l, k.is) }

  pub turn_pop : x < length n → PopReady wheel01 (nodes h tl n p o e γ s) t d c x
  turn_pop l = record { turn = y; front = k.is; slot = l }

  pub pop_turned : (N' : Nodes) (r : Turn) → x < length n → Pops wheel01 (nodes h tl n p o e γ s) t d c x N' r → Turned wheel01 (nodes h tl n p o e γ s) t d c
      N' r
  pop_turned N' r l z =
      let f : ltb (waiting_at wheel01 h c) (length n) ≡ true = lt-ltb (waiting_at wheel01 h c) (length n) (omega (arith, l, k.is)) in
      record {
        is = rw f (z.is ∙ ap (pop_nodes wheel01 (nodes h tl n p o e γ s) t d c) k.is);
        turn_is = rw f (z.turn_is ∙ ap (pop_turn wheel01 (nodes h tl n p o e γ s) t d c) k.is);
        nears = z.nears;
        does = z.does;
      }

  pub on_turned : (h' tl' n' p' o' : List ℕ) (r : Turn) → length n ≤ x → GoesOn wheel01 (links h tl n p o) c (links h' tl' n' p' o') r
      → Turned wheel01 (nodes h tl n p o e γ s) t d c (nodes h' tl' n' p' o' e γ s) r
  on_turned h' tl' n' p' o' r l z =
      let f : ltb (waiting_at wheel01 h c) (length n) ≡ false = le-ltb (waiting_at wheel01 h c) (length n) (omega (arith, l, k.is)) in
      record {
        is = rw f (ap (λ (a : Links). join a e γ s) z.is);
        turn_is = rw f z.turn_is;
        nears = z.nears;
        does = λ ages w sh so. z.does e γ s (entries t d ages) w sh so;
      }
