-- What is known when a call is not refused: the test of each of its rows holds.
use Prim.Native.Nat.{ℕ, suc, ◌<◌}
use native.Mathlib.Omega.{arith}
use mathlib.Core.Path.{◌≡◌, refl, sym}
use mathlib.Core.Bool.{Bool, true, false, cond, not}
use mathlib.Core.List.{List, [], ◌∷◌}
use lib.Dec.{eqb, leb}
use borrow.Author.Tests.{eqb-true, leb-false}
use Rattle.rules.specs.Places.{Geometry}
use Rattle.rules.specs.Wheel.{Advance, closed, poised, within, Wheel, reschedule}
use Rattle.rules.specs.Calls.{Row, pick, is_open, is_stale}
use Rattle.rules.specs.Runs.{refusal}
use Rattle.numbers.proofs.Cases.{not_both}

abbrev pub rest : List (Row Bool) → List (Row Bool)
rest [] = []
rest (t ∷ ts) = ts

pub pass : (t : Bool) (k : ℕ) (ts : List (Row Bool)) → pick ((t, suc k) ∷ ts) ≡ 0 → (t ≡ true) × (pick ts ≡ 0)
pass true k ts i = (refl, i)
pass false k ts i = absurd (omega arith)

pub pass_not : (t : Bool) (k : ℕ) (ts : List (Row Bool)) → pick ((not t, suc k) ∷ ts) ≡ 0 → (t ≡ false) × (pick ts ≡ 0)
pass_not true k ts i = absurd (omega arith)
pass_not false k ts i = (refl, i)

-- the calls that 5 refuses: the wheel is enabled, and no advance is open. (The row of 4 has the test true.)
pub ready : (on busy : Bool) (ts : List (Row Bool)) → pick ((on, 1) ∷ (true, 4) ∷ (not busy, 5) ∷ ts) ≡ 0 → (on ≡ true) × (busy ≡ false) × (pick ts ≡ 0)
ready false busy ts z = absurd (omega arith)
ready true true ts z = absurd (omega arith)
ready true false ts z = (refl, refl, z)

-- the calls that 6 refuses
pub running : (on busy : Bool) → pick ((on, 1) ∷ (true, 4) ∷ (busy, 6) ∷ []) ≡ 0 → (on ≡ true) × (busy ≡ true)
running false busy z = absurd (omega arith)
running true false z = absurd (omega arith)
running true true z = (refl, refl)

-- no advance is open
pub shut : (A : Advance) → is_open A ≡ false → A ≡ closed
shut closed i = refl
shut (poised p bs) i = cc
shut (within p c bs) i = cc

-- ---- handles
-- a handle that is not stale: its slot exists, is armed, and has its serial
pub fresh : (w : Wheel) (x n : ℕ) → is_stale w x n ≡ false → (x < w.nodes) × ((w.lists.node x).armed ≡ true) × ((w.lists.node x).serial ≡ n)
fresh w x n i = go (leb w.nodes x) (w.lists.node x).armed (eqb (w.lists.node x).serial n) refl refl refl i
  where
    go : (r s t : Bool) → leb w.nodes x ≡ r → (w.lists.node x).armed ≡ s → eqb (w.lists.node x).serial n ≡ t → cond r true (cond s (not t) true) ≡ false
        → (x < w.nodes) × ((w.lists.node x).armed ≡ true) × ((w.lists.node x).serial ≡ n)
    go true s t a b c k = absurd (not_both (sym k))
    go false true true a b c k = (leb-false w.nodes x a, b, eqb-true (w.lists.node x).serial n c)
    go false true false a b c k = absurd (not_both (sym k))
    go false false t a b c k = absurd (not_both (sym k))

-- reschedule, and deschedule, whose rows are the same
pub handles : (g : Geometry) (w : Wheel) (y m j : ℕ) → refusal g w (reschedule y m j) ≡ 0 → (w.enabled ≡ true) × (is_open w.advance ≡ false) ×
    (is_stale w y m ≡ false)
handles g w y m j z =
    let ts : List (Row Bool) = (not (is_stale w y m), 12) ∷ (eqb (w.lists.node y).generation j, 13) ∷ [] in
    let i = ready w.enabled (is_open w.advance) ts z in
    (i.0, i.1, (pass_not (is_stale w y m) 11 ((eqb (w.lists.node y).generation j, 13) ∷ []) i.2).0)
