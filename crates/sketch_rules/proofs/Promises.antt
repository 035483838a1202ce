-- The rows of refusals, and what a sketch that no row stops is ready for.
use mathlib.Core.Path.{◌≡◌}
use mathlib.Core.Bool.{true}
use mathlib.Core.List.{List}
use Prim.Native.Nat.{ℕ, ◌≤◌, ◌<◌}
use native.Mathlib.Omega.{arith}
use lib.ListN.{length}
use borrow.Author.Tests.{lt-ltb, le-ltb}
use Rattle.sketch_rules.specs.declared.Sketch.{Sketch}
use Rattle.sketch_rules.specs.Sketch.{sound, words_for}
use Rattle.sketch_rules.specs.Sketch.{ensure_refusal, standing}
use Rattle.sketch_rules.specs.Hashes.{InUse}
use Rattle.sketch_rules.specs.Aging.{Ready}
use Rattle.sketch_rules.proofs.Soundness.{sound_in_use}

-- ---- the first row, of all three calls

pub stands : (t : List ℕ) (s : Sketch) → sound (length t) s ≡ true → standing t s ≡ 0
unfolding standing
stands t s e = simp e

pub is_sound_if : (t : List ℕ) (s : Sketch) → 0 ≡ standing t s → sound (length t) s ≡ true
unfolding standing
is_sound_if t s e = grind arith

-- ---- a sound sketch in use is ready for the unchecked work

pub in_use : (t : List ℕ) (s : Sketch) → 0 ≡ standing t s → (s.used ≡ 0 → ⊥) → InUse s.used t
in_use t s e n =
    let u = sound_in_use (length t) s (is_sound_if t s e) n in
    record { power = u.power; some = u.some; most = u.most; inside = u.inside }

pub ready : (t : List ℕ) (s : Sketch) → 0 ≡ standing t s → (s.used ≡ 0 → ⊥) → Ready t s
ready t s e n = record { table = in_use t s e n; size = (sound_in_use (length t) s (is_sound_if t s e) n).size }

-- ---- ensure capacity: the rows of its refusal

module _ (t : List ℕ) (s : Sketch) (capacity : ℕ) where
  pub ensure_too_large : sound (length t) s ≡ true → 65536 < capacity → ensure_refusal t s capacity ≡ 15
  unfolding ensure_refusal
  ensure_too_large e l = simp (e, lt-ltb 65536 capacity l)

  pub ensure_too_short : sound (length t) s ≡ true → capacity ≤ 65536 → s.used < words_for capacity → length t < words_for capacity
      → ensure_refusal t s capacity ≡ 14
  unfolding ensure_refusal
  ensure_too_short e l g h = simp (e, le-ltb 65536 capacity l, lt-ltb s.used (words_for capacity) g, lt-ltb (length t) (words_for capacity) h)

  pub ensure_stays : sound (length t) s ≡ true → capacity ≤ 65536 → words_for capacity ≤ s.used → ensure_refusal t s capacity ≡ 0
  unfolding ensure_refusal
  ensure_stays e l g = simp (e, le-ltb 65536 capacity l, le-ltb s.used (words_for capacity) g)

  pub ensure_grows : sound (length t) s ≡ true → capacity ≤ 65536 → s.used < words_for capacity → words_for capacity ≤ length t
      → ensure_refusal t s capacity ≡ 0
  unfolding ensure_refusal
  ensure_grows e l g h = simp (e, le-ltb 65536 capacity l, lt-ltb s.used (words_for capacity) g, le-ltb (length t) (words_for capacity) h)
