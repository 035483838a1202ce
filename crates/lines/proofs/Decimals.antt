-- One digit more of a number: what `read_on` is at index i of a text; and a text that is no lone dash.
use Rattle.std.proofs.Common.{◌≡◌, ℕ, suc, ◌+◌, ◌*◌, ◌^◌, ◌≤◌, ◌<◌, Bool, true, false, List, [], ◌∷◌, length, drop, get_or}
use Rattle.std.proofs.Common.{refl, sym, ap, arith, ltb, eqb, ltb-true, ltb-false}
use lib.ListN.{drop_of_length-le}
use borrow.Author.Tests.{eqb-true}
use Rattle.lines.specs.Reading.{digit_of, read_on, number_of, pick_number}
use Rattle.lines.specs.declared.reading.Number.{Number}
use Rattle.lines.specs.declared.reading.Number.TheVariants.{Is, Dash, Other}
use Rattle.lines.proofs.Scans.{dropped}

-- the byte is a digit, and the number with it fits
abbrev pub Digit : ℕ → ℕ → Type 0
Digit n b = (digit_of b ≤ 9) × (n * 10 + digit_of b < 2 ^ 64)

-- what is read on from a digit b
step : (n b : ℕ) (more : Number) → Digit n b → more ≡ pick_number (ltb 9 (digit_of b)) Other (pick_number (ltb (n * 10 + digit_of b) (2 ^ 64)) more Other)
step n b more k = cases (ltb 9 (digit_of b)) (ltb (n * 10 + digit_of b) (2 ^ 64)) refl refl
  where
    cases : (s t : Bool) → ltb 9 (digit_of b) ≡ s → ltb (n * 10 + digit_of b) (2 ^ 64) ≡ t → more ≡ pick_number s Other (pick_number t more Other)
    cases true t e f = absurd (omega (arith, ltb-true 9 (digit_of b) e))
    cases false true e f = refl
    cases false false e f = absurd (omega (arith, ltb-false (n * 10 + digit_of b) (2 ^ 64) f))

stop : (n b : ℕ) (more : Number) → (Digit n b → ⊥) → Other ≡ pick_number (ltb 9 (digit_of b)) Other (pick_number (ltb (n * 10 + digit_of b) (2 ^ 64)) more Other)
stop n b more k = cases (ltb 9 (digit_of b)) (ltb (n * 10 + digit_of b) (2 ^ 64)) refl refl
  where
    cases : (s t : Bool) → ltb 9 (digit_of b) ≡ s → ltb (n * 10 + digit_of b) (2 ^ 64) ≡ t → Other ≡ pick_number s Other (pick_number t more Other)
    cases true t e f = refl
    cases false true e f = absurd (k (ltb-false 9 (digit_of b) e, ltb-true (n * 10 + digit_of b) (2 ^ 64) f))
    cases false false e f = refl

module _ (n : ℕ) (l : List ℕ) (i : ℕ) (h : i < length l) where
  pub read_stop : (Digit n (get_or l i 0) → ⊥) → Other ≡ read_on n (drop i l)
  unfolding read_on
  read_stop k = rw (dropped l i h) (stop n (get_or l i 0) _ k)

  pub read_more : (m : ℕ) → Digit n (get_or l i 0) × (m ≡ n * 10 + digit_of (get_or l i 0)) → read_on m (drop (i + 1) l) ≡ read_on n (drop i l)
  unfolding read_on
  read_more m k = rw (dropped l i h, k.1) (step n (get_or l i 0) _ k.0)

pub read_end : (n : ℕ) (l : List ℕ) (i : ℕ) → length l ≤ i → Is n ≡ read_on n (drop i l)
unfolding read_on
read_end n l i h = ap (read_on n) (sym (drop_of_length-le l h))

dashed : (b : ℕ) (l : List ℕ) → b ≡ 45 → read_on 0 (b ∷ l) ≡ Other
unfolding read_on
dashed b l e = rw e refl

-- a text that is neither empty nor a lone dash is read digit by digit
pub all_digits : (l : List ℕ) → 0 < length l → (l ≡ 45 ∷ [] → ⊥) → read_on 0 l ≡ number_of l
all_digits [] h k = absurd (omega arith)
all_digits (b ∷ l) h k = cases (eqb (suc (length l)) 0) (eqb b 45) (eqb (suc (length l)) 1) refl refl refl
  where
    alone : (m : List ℕ) → length m ≡ 0 → m ≡ []
    alone [] z = refl
    alone (x ∷ m) z = absurd (omega arith)

    cases : (r s t : Bool) → eqb (suc (length l)) 0 ≡ r → eqb b 45 ≡ s → eqb (suc (length l)) 1 ≡ t →
        read_on 0 (b ∷ l) ≡ pick_number r Other (pick_number s (pick_number t Dash Other) (read_on 0 (b ∷ l)))
    cases true s t d e f = absurd (omega (arith, eqb-true _ _ d))
    cases false true true d e f = absurd (k (rw (eqb-true _ _ e, alone l (omega (arith, eqb-true _ _ f))) refl))
    cases false true false d e f = dashed b l (eqb-true _ _ e)
    cases false false t d e f = refl
