-- Lists with no number twice: how long they are, and that one of n numbers below n has them all.
use Rattle.std.proofs.Common.{◌≡◌, ℕ, zero, suc, ◌+◌, ◌<◌, ◌≤◌, List, [], ◌∷◌, ◌++◌, length, get_or, refl, ap, inl, inr, ⊎_elim, arith, length-append}
use Rattle.numbers.specs.Lists.{remove}
use Rattle.numbers.specs.Shared.{In, Once, up_from}
use Rattle.numbers.proofs.Cases.{same?}
use Rattle.numbers.proofs.Members.{in?, in-at, kept, length_remove, in_app, app_left, app_right, once_app}

-- a list with no number twice is no longer than one that has all of its numbers
pub fit : (xs ys : List ℕ) → Once xs → ((x : ℕ) → In x xs → In x ys) → length xs ≤ length ys
fit [] ys o h = omega arith
fit (x ∷ xs) ys o h =
    omega (
      arith,
      fit xs (remove x ys) o.1 (λ z m. kept ys z x (λ e. o.0 (in-at xs e m)) (h z (inr m))),
      length_remove ys x (h x (inl refl)),
    )

-- ---- the numbers from i upwards
pub length_up : (k i : ℕ) → length (up_from k i) ≡ k
length_up zero i = refl
length_up (suc k) i = ap suc (length_up k (suc i))

pub up_range : (k i x : ℕ) → In x (up_from k i) → (i ≤ x) × (x < i + k)
up_range (suc k) i x (inl e) = (omega arith, omega arith)
up_range (suc k) i x (inr m) = let u = up_range k (suc i) x m in (omega (arith, u.0), omega (arith, u.1))
up_range zero i x x3 = elim x3 [ ]

pub range_up : (k i x : ℕ) → i ≤ x → x < i + k → In x (up_from k i)
range_up zero i x h l = absurd (omega (arith, h, l))
range_up (suc k) i x h l = ⊎_elim (λ e. inl e) (λ (n : x ≡ i → ⊥). inr (range_up k (suc i) x (omega (arith, h, n)) (omega (arith, l)))) (same? x i)

pub once_up : (k i : ℕ) → Once (up_from k i)
once_up zero i = tt
once_up (suc k) i = ((λ m. omega (arith, (up_range k (suc i) i m).0)), once_up k (suc i))

module _ (n : ℕ) (xs : List ℕ) where
  pub at_most : Once xs → ((x : ℕ) → In x xs → x < n) → length xs ≤ n
  at_most o h = omega (arith, fit xs (up_from n 0) o (λ x m. range_up n 0 x (omega arith) (omega (arith, h x m))), length_up n 0)

  pub at_least : ((x : ℕ) → x < n → In x xs) → n ≤ length xs
  at_least h = omega (arith, fit (up_from n 0) xs (once_up n 0) (λ x m. h x (omega (arith, (up_range n 0 x m).1))), length_up n 0)

-- n numbers below n, none twice, are all
pub all_there : (n : ℕ) (xs : List ℕ) → Once xs → ((x : ℕ) → In x xs → x < n) → n ≤ length xs → (x : ℕ) → x < n → In x xs
all_there n xs o h e x i =
    ⊎_elim
    (λ m. m)
    (λ (k : In x xs → ⊥).
    absurd (omega (arith, at_most n (x ∷ xs) (k, o) (λ z w. ⊎_elim (λ (j : z ≡ x). rw j i) (λ m. h z m) w))))
    (in? x xs)

-- ---- all the numbers of a list of lists
abbrev pub flat : List (List ℕ) → List ℕ
flat [] = []
flat (q ∷ qs) = q ++ flat qs

pub flat_at : (qs : List (List ℕ)) (x : ℕ) → In x (flat qs) → (i : ℕ) × (i < length qs) × In x (get_or qs i [])
flat_at (q ∷ qs) x m =
    ⊎_elim
    (λ k. (0, omega arith, k))
    (λ k. let u = flat_at qs x k in (suc u.0, omega (arith, u.1), u.2))
    (in_app q (flat qs) x m)
flat_at [] x m = elim m [ ]

pub at_flat : (qs : List (List ℕ)) (i x : ℕ) → In x (get_or qs i []) → In x (flat qs)
at_flat [] i x m = m
at_flat (q ∷ qs) zero x m = app_left q (flat qs) x m
at_flat (q ∷ qs) (suc i) x m = app_right q (flat qs) x (at_flat qs i x m)

pub flat_back : (qs : List (List ℕ)) (xs : List ℕ) → length (flat (qs ++ (xs ∷ []))) ≡ length (flat qs) + length xs
flat_back [] xs = simp length-append (omega arith)
flat_back (q ∷ qs) xs = simp length-append (omega (arith, flat_back qs xs))

-- lists that are apart by a number of each member, its home, have no number twice
pub once_flat : (home : ℕ → ℕ) (o : ℕ) (qs : List (List ℕ)) → ((i : ℕ) → i < length qs → Once (get_or qs i [])) →
    ((i x : ℕ) → i < length qs → In x (get_or qs i []) → home x ≡ o + i) → Once (flat qs)
once_flat home o [] p h = tt
once_flat home o (q ∷ qs) p h =
    once_app q (flat qs) (p 0 (omega arith))
    (once_flat home (suc o) qs (λ i l. p (suc i) (omega arith)) (λ i x l m. omega (arith, h (suc i) x (omega arith) m)))
    (λ x m k.
    let u = flat_at qs x k in
    omega (arith, h 0 x (omega arith) m, h (suc u.0) x (omega (arith, u.1)) u.2))
