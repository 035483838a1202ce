-- What a call that is not refused may rely on.
use Prim.Native.Nat.{ℕ}
use native.Mathlib.Omega.{arith}
use mathlib.Core.Path.{◌≡◌}
use mathlib.Core.Logic.{◌⊎◌, ⊎_elim}
use Rattle.deque_rules.specs.Links.{listed}
use Rattle.deque_rules.proofs.Laws.{first_in}
use Rattle.deque_rules.specs.Deque.{State}
use Rattle.deque_rules.specs.alone.Refuse.{RefusesDeque, RefusesPush, RefusesNode}
use Rattle.deque_rules.specs.alone.Ready.{DequeReady, PushReady, NodeReady}
use Rattle.deque_rules.proofs.alone.Sounding.{sound_shows}

-- the number is none of the rows', so each row's condition holds
past : {A B : Type 0} (k : ℕ) → ((A → ⊥) × (0 ≡ k)) ⊎ (A × B) → (0 ≡ k → ⊥) → A × B
past k u n = ⊎_elim (λ w. absurd (n w.1)) (λ w. w) u

module _ (a : State) (free d : ℕ) where
  pub deque_ready : RefusesDeque a free d 0 → DequeReady a free d
  deque_ready f =
      let u = past 4 f.by (λ i. omega (arith, i)) in
      let w = past 16 u.1 (λ i. omega (arith, i)) in
      record { v = listed a.links free; shows = sound_shows a free u.0; deque = w.0 }

  pub push_ready : RefusesPush a free d 0 → PushReady a free d
  push_ready f =
      let u = past 4 f.by (λ i. omega (arith, i)) in
      let x = past 10 u.1 (λ i. omega (arith, i)) in
      let w = past 16 x.1 (λ i. omega (arith, i)) in
      let t = sound_shows a free u.0 in
      record {
        v = listed a.links free;
        shows = t;
        slot = (t.rep.spare free (first_in (listed a.links free).free free t.free_is x.0)).0;
        deque = w.0;
      }

  pub node_ready : (s : ℕ) → RefusesNode a free d s 0 → NodeReady a free d s
  node_ready s f =
      let u = past 4 f.by (λ i. omega (arith, i)) in
      let x = past 16 u.1 (λ i. omega (arith, i)) in
      let w = past 17 x.1 (λ i. omega (arith, i)) in
      record { v = listed a.links free; shows = sound_shows a free u.0; slot = w.0.0; deque = x.0; homed = w.0.1 }

pub ruleset ready = (deque_ready, push_ready, node_ready)
