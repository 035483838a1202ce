-- Where more nodes are lent than a wheel may have, the rows give the number of specs/Crowded.antt.
use Prim.Native.Nat.{ℕ, ◌≤◌, ◌<◌}
use native.Mathlib.Omega.{arith}
use mathlib.Core.Path.{◌≡◌, refl, sym, ◌∙◌, subst}
use mathlib.Core.Logic.{inl, inr}
use mathlib.Core.Bool.{Bool, true, false, cond, false≢true}
use mathlib.Core.List.{List}
use lib.ListN.{length, length-map}
use Rattle.rules.specs.Wheel.{Call, create, enable, set_entry, schedule, reschedule, deschedule, start, pull, abandon, armed_count, next_due, refused}
use Rattle.rules.specs.Calls.{rows}
use Rattle.wheel_rules.specs.declared.calls.Clock.{Clock}
use Rattle.wheel_rules.specs.Lent.{Records}
use Rattle.numbers.specs.Rows.{given}
use Rattle.wheel_rules.specs.refusals.Refuse.{standing, tests_on, rows_on}
use Rattle.wheel_rules.specs.Promise.{Promised}
use Rattle.wheel_rules.proofs.calls.Deciding.{LentTo, later}
use Rattle.wheel_rules.proofs.calls.Calling.{no}
use Rattle.numbers.specs.Refusals.{number_of}
use Rattle.numbers.specs.declared.refusals.Refusal.{Refusal}
use Rattle.numbers.specs.declared.refusals.Refusal.TheVariants.{NotEnabled, NotSound}
use Rattle.face_rules.specs.declared.Node.{Node}
use Rattle.face_rules.specs.Face.{records_of as shown}
use Rattle.face_rules.specs.Crowded.{crowded_number, OfOne}

-- their rows begin with 1 and 4, and no length is given to them
module _ (R : Records) (k : ℕ) (f : (more : ℕ → Type 0) → standing R more k) where
  -- the rows after these
  abbrev more : Call → ℕ → Type 0
  more c = given (later (rows (tests_on R) c))

  stops : (c : Call) → OfOne c → LentTo R c × rows_on R c k
  stops (create n) o = absurd o
  stops (enable m j i) o = absurd o
  stops (set_entry e d h) o = (tt, f (more (set_entry e d h)))
  stops (schedule e h) o = (tt, f (more (schedule e h)))
  stops (reschedule x n h) o = (tt, f (more (reschedule x n h)))
  stops (deschedule x n h) o = (tt, f (more (deschedule x n h)))
  stops (start q) o = (tt, f (more (start q)))
  stops pull o = (tt, f (more pull))
  stops abandon o = (tt, f (more abandon))
  stops armed_count o = (tt, f (more armed_count))
  stops next_due o = (tt, f (more next_due))

-- ---- more nodes than a wheel may have
module _ (h t : List ℕ) (ns : List Node) (d : List Bool) (l m : List ℕ) (c : Clock) (many : 4096 < length ns) where
  abbrev crowd : Records
  crowd = shown h t ns d l m c

  too_many : length crowd.nodes.links.next ≤ 4096 → ⊥
  too_many f = omega (arith, f, many, length-map ns (λ (v : Node). v.next))

  -- they are not sound
  numbered : (more : ℕ → Type 0) (k : ℕ) → k ≡ crowded_number c → standing crowd more k
  numbered more k e = go c.enabled refl e
    where
      go : (b : Bool) → b ≡ c.enabled → k ≡ cond b 4 1 → standing crowd more k
      go true on i =
          inr (sym on, inl ((λ s. too_many (omega (arith, s.lengths.nodes.next_len, s.lengths.ranges.nodes_most))), i))
      go false off i = inl ((λ s. false≢true (off ∙ s)), i)

  -- what the number is, a case of the refusals has
  cased : (b : Bool) → (why : Refusal) × (number_of why ≡ cond b 4 1)
  cased true = (NotSound, refl)
  cased false = (NotEnabled, refl)

  pub crowd_no : (q : Call) → OfOne q → (k : ℕ) → k ≡ crowded_number c → Promised q crowd crowd (refused k)
  crowd_no q o k e =
      let w = cased c.enabled in
      let u = stops crowd (number_of w.0) (λ more. numbered more (number_of w.0) w.1) q o in
      subst (λ (n : ℕ). Promised q crowd crowd (refused n)) (w.1 ∙ sym e) (no q crowd w.0 u.0 u.1)
