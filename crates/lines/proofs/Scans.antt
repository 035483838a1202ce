-- The parts of a line by the words of the library: what `before`, `after`, `skipped`, `count_of` and `alike` are; and
-- one byte more of a scan.
use Rattle.std.proofs.Common.{◌≡◌, ℕ, zero, suc, ◌+◌, ◌-◌, ◌<◌, ◌≤◌, Bool, true, false, cond, not, ◌&&◌, eqb, Some, None, List, [], ◌∷◌}
use Rattle.std.proofs.Common.{length, take, drop, get_or, refl, sym, ap, ◌∙◌, subst, arith, add-one, drop-cons, eq-eqb, ne_eqb, ltb-false}
use lib.ListN.{drop_of_length-le}
use lib.Seq.{take_all}
use Rattle.std.specs.List.{position, position_or_len, count_by}
use Rattle.std.specs.Str.{bytes_eq}
use Rattle.std.proofs.lemmas.List.Sums.{sum_by-cons}
use Rattle.lines.specs.Parts.{before, after, skipped, count_of, alike, space}

pub dropped : (l : List ℕ) (i : ℕ) → i < length l → drop i l ≡ get_or l i 0 ∷ drop (i + 1) l
dropped l i h = rw (add-one, drop-cons l i 0)

-- ---- before

before_first : (b x : ℕ) (l : List ℕ) → x ≡ b → before b (x ∷ l) ≡ []
unfolding before
before_first b x l e = simp (eq-eqb x b e)

before_later : (b x : ℕ) (l : List ℕ) → (x ≡ b → ⊥) → before b (x ∷ l) ≡ x ∷ before b l
unfolding before
before_later b x l n = simp (ne_eqb x b n)

pub before_stop : (b : ℕ) (l : List ℕ) (i : ℕ) → i < length l → get_or l i 0 ≡ b → before b (drop i l) ≡ []
before_stop b l i h e = ap (before b) (dropped l i h) ∙ before_first b (get_or l i 0) (drop (i + 1) l) e

pub before_on : (b : ℕ) (l : List ℕ) (i : ℕ) → i < length l → (get_or l i 0 ≡ b → ⊥) → before b (drop i l) ≡ get_or l i 0 ∷ before b (drop (i + 1) l)
before_on b l i h n = ap (before b) (dropped l i h) ∙ before_later b (get_or l i 0) (drop (i + 1) l) n

pub before_end : (b : ℕ) (l : List ℕ) (i : ℕ) → length l ≤ i → before b (drop i l) ≡ []
unfolding before
before_end b l i h = ap (before b) (drop_of_length-le l h)

-- ---- cut at the first space

abbrev is_space : ℕ → Bool
is_space x = eqb x space

front : (l : List ℕ) → take (position_or_len is_space l) l ≡ before space l
unfolding before
front [] = refl
front (x ∷ l) = cases (eqb x space) (position_or_len is_space l) (front l)
  where
    cases : (t : Bool) (n : ℕ) → take n l ≡ before space l → take (cond (not t) (1 + n) 0) (x ∷ l) ≡ cond t [] (x ∷ before space l)
    cases true n e = refl
    cases false n e = let p : 1 + n ≡ suc n = omega arith in ap (λ (m : ℕ). take m (x ∷ l)) p ∙ ap (λ (r : List ℕ). x ∷ r) e

back : (l : List ℕ) → drop (position_or_len is_space l + 1) l ≡ after space l
unfolding after
back [] = refl
back (x ∷ l) = cases (eqb x space) (position_or_len is_space l) (back l)
  where
    cases : (t : Bool) (n : ℕ) → drop (n + 1) l ≡ after space l → drop (cond (not t) (1 + n) 0 + 1) (x ∷ l) ≡ cond t l (after space l)
    cases true n e = refl
    cases false n e = let p : 1 + n + 1 ≡ suc (n + 1) = omega arith in ap (λ (m : ℕ). drop m (x ∷ l)) p ∙ e

found : (b : Bool) (m i : ℕ) → cond b (Some m) None ≡ Some i → (b ≡ true) × (m ≡ i)
found true m i e = (refl, (cc))
found false m i e = absurd (cc)

missed : (b : Bool) (m : ℕ) → cond b (Some m) None ≡ None → b ≡ false
missed true m e = absurd (cc)
missed false m e = refl

pub cut_at : (l : List ℕ) (i : ℕ) → position is_space l ≡ Some i → (take i l ≡ before space l) × (drop (i + 1) l ≡ after space l)
cut_at l i e =
    let m = (found _ _ _ e).1 in
    (subst (λ (n : ℕ). take n l ≡ before space l) m (front l), subst (λ (n : ℕ). drop (n + 1) l ≡ after space l) m (back l))

pub no_cut : (l : List ℕ) → position is_space l ≡ None → (l ≡ before space l) × (◌≡◌ {A = List ℕ} [] (after space l))
no_cut l e =
    let n : length l ≤ position_or_len is_space l = ltb-false _ _ (missed _ _ e) in
    (sym (take_all _ l n) ∙ front l, sym (drop_of_length-le l (omega arith)) ∙ back l)

-- ---- skipped

skipped_none : (k : ℕ) → skipped k [] ≡ []
unfolding skipped after
skipped_none zero = refl
skipped_none (suc k) = skipped_none k

-- where nothing is left, every part that follows is empty
pub none_left : (k : ℕ) (l : List ℕ) → length l ≡ 0 → l ≡ before space (skipped k l)
unfolding before
none_left k [] h = ap (before space) (sym (skipped_none k))
none_left k (x ∷ l) h = absurd (omega arith)

pub skipped_on : (k i : ℕ) (l : List ℕ) → i < k → skipped (k - i) l ≡ skipped (k - (i + 1)) (after space l)
unfolding skipped
skipped_on k i l h = let e : k - i ≡ suc (k - (i + 1)) = omega arith in ap (λ (n : ℕ). skipped n l) e

-- ---- count_of

pub count_is : (l : List ℕ) → count_by is_space l + 1 ≡ count_of l
unfolding count_of
count_is [] = refl
count_is (x ∷ l) = rw (sum_by-cons (λ y. cond (is_space y) 1 0) x l) (cases (eqb x space) (count_is l))
  where
    cases : (t : Bool) → count_by is_space l + 1 ≡ count_of l → cond t 1 0 + count_by is_space l + 1 ≡ cond t (count_of l + 1) (count_of l)
    cases true e = omega arith
    cases false e = omega arith

-- ---- alike

pub alike_is : (t w : List ℕ) → bytes_eq t w ≡ alike t w
unfolding alike
alike_is [] [] = refl
alike_is [] (y ∷ w) = refl
alike_is (x ∷ t) [] = refl
alike_is (x ∷ t) (y ∷ w) = cases (eqb x y) (alike_is t w)
  where
    cases : (b : Bool) → bytes_eq t w ≡ alike t w → (b && bytes_eq t w) ≡ cond b (alike t w) false
    cases true e = e
    cases false e = refl
