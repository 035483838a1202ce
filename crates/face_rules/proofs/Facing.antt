-- Why a work meets its promise: refused, since too many nodes are lent; and answered by the call over columns.
use Prim.Native.Nat.{ℕ, ◌≤◌, ◌<◌}
use mathlib.Core.Path.{◌≡◌, sym, subst}
use mathlib.Core.List.{List}
use Rattle.rules.specs.Wheel.{Call, Answer, refused}
use Rattle.wheel_rules.specs.declared.calls.Clock.{Clock}
use Rattle.wheel_rules.specs.Lent.{Entries, Records}
use Rattle.wheel_rules.specs.Promise.{Promised}
use Rattle.numbers.specs.Refusals.{number_of}
use Rattle.numbers.specs.declared.refusals.Refusal.{Refusal}
use Rattle.face_rules.specs.nodes.Columns.{Columns, front}
use Rattle.face_rules.specs.Crowded.{crowded_number, OfOne}
use Rattle.face_rules.specs.Works.{Stored, Loaded}
use Rattle.face_rules.proofs.Loading.{held, reads, writes, stays, stays_stored}
use Rattle.face_rules.proofs.Crowding.{crowd_no}

-- the same promise of an answer that says the same
said : (q : Call) (R R' : Records) (a b : Answer) → b ≡ a → Promised q R R' a → Promised q R R' b
said q R R' a b e p = subst (λ (x : Answer). Promised q R R' x) (sym e) p

module _ {q : Call} {k : Columns} {n : ℕ} {c : Clock} {hs ts : List ℕ} {E : Entries} where
  -- ---- works that store the nodes back
  pub stored_crowded : (w : Refusal) {k' : Columns} → OfOne q → 4096 < n → number_of w ≡ crowded_number c
      → Stored q k k' n c c hs ts hs ts E (refused (number_of w))
  stored_crowded w o many z =
      record {
        meets =
            stays_stored (λ R R'. Promised q R R' (refused (number_of w))) k n hs ts E c many
            (λ ns f. crowd_no hs ts ns E.dated E.deadline E.generation c f q o (number_of w) z);
      }

  -- as the call over columns answers a, with the clock b; a' says the same, and c' is that clock
  pub stored_done : {a a' : Answer} {b c' : Clock} {k' j : Columns} {hs' ts' : List ℕ} → n ≤ 4096 → front n k' ≡ j
      → Promised q (held hs ts (front n k) E c) (held hs' ts' j E b) a → a' ≡ a → c' ≡ b → Stored q k k' n c c' hs ts hs' ts' E a'
  stored_done {a} {a'} fits w p e f =
      record { meets = writes (λ R R'. Promised q R R' a') k n hs ts E c fits f w (said q _ _ a a' e p) }

  -- ---- works that do not
  pub loaded_crowded : (w : Refusal) → OfOne q → 4096 < n → number_of w ≡ crowded_number c → Loaded q k n c c hs ts E E (refused (number_of w))
  loaded_crowded w o many z =
      record {
        meets =
            stays (λ R R'. Promised q R R' (refused (number_of w))) k n hs ts E c many
            (λ ns f. crowd_no hs ts ns E.dated E.deadline E.generation c f q o (number_of w) z);
      }

  pub loaded_done : {a a' : Answer} {b c' : Clock} {E' : Entries} → n ≤ 4096
      → Promised q (held hs ts (front n k) E c) (held hs ts (front n k) E' b) a → a' ≡ a → c' ≡ b → Loaded q k n c c' hs ts E E' a'
  loaded_done {a} {a'} fits p e f =
      record { meets = reads (λ R R'. Promised q R R' a') k n hs ts E c fits f (said q _ _ a a' e p) }
