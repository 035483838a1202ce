-- Bytes held in a buffer: one more of them, and the places of an answer.
use Prim.Native.Nat.{ℕ, ◌+◌, ◌≤◌, ◌<◌}
use mathlib.Core.Path.{◌≡◌, refl}
use mathlib.Core.Bool.{Bool, true, false, cond}
use mathlib.Core.List.{List, [], ◌∷◌, ◌++◌, append_assoc, append-nil}
use native.Mathlib.Numerals.{add-one}
use native.Mathlib.Omega.{arith}
use lib.Dec.{leb}
use lib.ListN.{length, take, set, length-take}
use lib.Seq.{paste, length-paste, take_all, take-length, take-append-le, take-suc-set}
use borrow.Author.Tests.{le-leb, lt-leb, leb-true}
use Rattle.lines.specs.Answers.{Appended, place_of}

-- there is room: the byte is stored
pub kept : (line : List ℕ) (n b : ℕ) → n < length line → (rest : List ℕ) → take (n + 1) (set line n b) ++ rest ≡ take n line ++ b ∷ rest
kept line n b h rest = rw (add-one, take-suc-set line n b h, append_assoc)

-- there is none: what is held is the whole buffer, and what follows does not count
pub full : (line : List ℕ) (n : ℕ) → length line ≤ n → (rest : List ℕ) → take (length line) (take n line ++ rest) ≡ line
full line n h rest = rw (take_all n line h, take-append-le (length line) line rest (omega arith), take-length)

-- what is held needs no cut
pub held : (line : List ℕ) (n : ℕ) → take (length line) (take n line ++ []) ≡ take n line
held line n = rw append-nil (take_all (length line) (take n line) (simp length-take (omega arith)))

-- where n bytes go: after those that wait, or at the start
pub place_after : (at n most : ℕ) → at + n ≤ most → place_of at n most ≡ at
place_after at n most h = simp (le-leb (at + n) most h)

pub place_start : (at n most : ℕ) → most < at + n → place_of at n most ≡ 0
place_start at n most h = simp (lt-leb (at + n) most h)

place_fits : (at n most : ℕ) → n ≤ most → place_of at n most + n ≤ most
place_fits at n most h = cases (leb (at + n) most) refl
  where
    cases : (t : Bool) → leb (at + n) most ≡ t → cond t at 0 + n ≤ most
    cases true e = omega (arith, leb-true (at + n) most e)
    cases false e = omega (arith, h)

module _ (out : List ℕ) (at : ℕ) (text : List ℕ) where
  -- the room that a text takes lies within the buffer
  pub place_room : length text ≤ length out → place_of at (length text) (length out) + length text ≤ length out
  place_room h = place_fits at (length text) (length out) h

  pub appended_at : length text ≤ length out
      → Appended out at text (paste out (place_of at (length text) (length out)) text (length text)) (place_of at (length text) (length out) + length text)
  appended_at h =
      let p : length (paste out (place_of at (length text) (length out)) text (length text)) ≡ length out
      = length-paste out (place_of at (length text) (length out)) text (length text) (place_room h) (omega arith) in
      record {
        waits = λ k. refl;
        stands = λ k. refl;
        none_waits = λ k. absurd (omega arith);
        untouched = λ k. absurd (omega arith);
        within = omega (arith, place_room h);
      }

  pub appended_out : length out < length text → Appended out at text out 0
  appended_out h =
      record {
        waits = λ k. absurd (omega arith);
        stands = λ k. absurd (omega arith);
        none_waits = λ k. refl;
        untouched = λ k. refl;
        within = omega arith;
      }
