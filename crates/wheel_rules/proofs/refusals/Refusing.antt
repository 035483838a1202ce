-- What a call that is not refused may rely on, and enable's refusal by the numbers of what is lent.
use Prim.Native.Nat.{ℕ, ◌<◌}
use native.Mathlib.Omega.{arith}
use mathlib.Core.Path.{◌≡◌}
use mathlib.Core.Logic.{inl, inr}
use mathlib.Core.Bool.{Bool, true, false}
use mathlib.Core.List.{List}
use lib.ListN.{length}
use Rattle.numbers.specs.Shared.{unless, not_refused as answered}
use Rattle.rules.specs.Places.{wheel01}
use Rattle.wheel_rules.specs.declared.calls.Clock.{Clock}
use Rattle.wheel_rules.specs.Lent.{Records, NodesLengths, SoundRecords, lent}
use Rattle.wheel_rules.specs.refusals.Refuse.{making, Lendable, LendableAround, RefusesEnable, RefusesAround, RefusesSet}
use Rattle.wheel_rules.proofs.refusals.Rows.{past, closed_past}

-- ---- set entry, schedule: the entry exists
module _ (R : Records) (e k : ℕ) (f : RefusesSet R e k) (z : k ≡ 0) where
  pub set_past : (R.clock.enabled ≡ true) × SoundRecords wheel01 R × (R.clock.open ≡ false) × (e < R.clock.entries)
  set_past =
      let u = closed_past R (unless (e < R.clock.entries) 7 answered) k f.by z in
      let v = past 7 k u.3 (λ i. omega (arith, z, i)) in
      (u.0, u.1, u.2, v.0)

  pub stamp_at : e < length R.entries.generation
  stamp_at = omega (arith, set_past.3, set_past.1.lengths.entries.generation_len)

  pub dated_at : e < length R.entries.dated
  dated_at = omega (arith, set_past.3, set_past.1.lengths.entries.dated_len)

  pub deadline_at_lem : e < length R.entries.deadline
  deadline_at_lem = omega (arith, set_past.3, set_past.1.lengths.entries.deadline_len)

-- ---- enable: where the node records are of one length, by the numbers alone
module _ (h t n p b e g s : List ℕ) (d : List Bool) (l m : List ℕ) (c : Clock) (k : ℕ)
    (f : RefusesAround c.enabled (length h) (length t) (length n) (length d) (length l) (length m) k) where
  abbrev Given : Records
  Given = lent h t n p b e g s d l m c

  pub enable_around : NodesLengths (length n) (length n) (length p) (length b) (length e) (length g) (length s) → RefusesEnable Given k
  enable_around y = record { by = go f.by }
    where
      go : making c.enabled (LendableAround (length h) (length t) (length n) (length d) (length l) (length m)) answered k → making c.enabled
          (Lendable Given) answered k
      go (inl u) = inl u
      go (inr (i, inl (u, z))) = inr (i, inl ((λ y. u y.around), z))
      go (inr (i, inr (u, z))) = inr (i, inr (record { around = u; nodes = y }, z))
