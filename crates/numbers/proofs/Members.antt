-- Laws of lists of numbers: membership, removal, what stands before and after a member.
use Rattle.std.proofs.Common.{◌≡◌, ℕ, suc, ◌⊎◌, List, [], ◌∷◌, ◌++◌, length, sym, refl, ap, ◌∙◌, subst, inl, inr, ⊎_elim, eq-eqb, ne_eqb}
use Rattle.numbers.specs.Lists.{last_or, remove}
use Rattle.numbers.specs.Shared.{In, Once, before_in as before, after_in as after}
use Rattle.numbers.proofs.Cases.{same?}

pub in? : (x : ℕ) (ys : List ℕ) → In x ys ⊎ (In x ys → ⊥)
in? x [] = inr (λ m. m)
in? x (y ∷ ys) =
    ⊎_elim
    (λ e. inl (inl e))
    (λ (n : x ≡ y → ⊥). ⊎_elim (λ m. inl (inr m)) (λ (k : In x ys → ⊥). inr (λ w. ⊎_elim n k w)) (in? x ys))
    (same? x y)

-- membership goes along an equation
pub in-at : {x y : ℕ} (xs : List ℕ) → x ≡ y → In x xs → In y xs
in-at xs e m = subst (λ (z : ℕ). In z xs) e m

pub in-same : (x : ℕ) {xs ys : List ℕ} → xs ≡ ys → In x xs → In x ys
in-same x e m = subst (λ (zs : List ℕ). In x zs) e m

-- ---- joined lists
pub in_app : (xs ys : List ℕ) (x : ℕ) → In x (xs ++ ys) → In x xs ⊎ In x ys
in_app [] ys x m = inr m
in_app (y ∷ xs) ys x (inl e) = inl (inl e)
in_app (y ∷ xs) ys x (inr m) = ⊎_elim (λ k. inl (inr k)) (λ k. inr k) (in_app xs ys x m)

pub app_left : (xs ys : List ℕ) (x : ℕ) → In x xs → In x (xs ++ ys)
app_left (y ∷ xs) ys x (inl e) = inl e
app_left (y ∷ xs) ys x (inr m) = inr (app_left xs ys x m)
app_left [] ys x x3 = elim x3 [ ]

pub app_right : (xs ys : List ℕ) (x : ℕ) → In x ys → In x (xs ++ ys)
app_right [] ys x m = m
app_right (y ∷ xs) ys x m = inr (app_right xs ys x m)

pub once_app : (xs ys : List ℕ) → Once xs → Once ys → ((x : ℕ) → In x xs → In x ys → ⊥) → Once (xs ++ ys)
once_app [] ys o p d = p
once_app (x ∷ xs) ys o p d =
    ((λ m. ⊎_elim o.0 (λ k. d x (inl refl) k) (in_app xs ys x m)), once_app xs ys o.1 p (λ z i j. d z (inr i) j))

pub once_left : (xs ys : List ℕ) → Once (xs ++ ys) → (x : ℕ) → In x xs → In x ys → ⊥
once_left (y ∷ xs) ys o x (inl e) k = o.0 (in-at (xs ++ ys) e (app_right xs ys x k))
once_left (y ∷ xs) ys o x (inr m) k = once_left xs ys o.1 x m k
once_left [] ys o x x5 k = elim x5 [ ]

pub once_right : (xs ys : List ℕ) → Once (xs ++ ys) → Once ys
once_right [] ys o = o
once_right (x ∷ xs) ys o = once_right xs ys o.1

-- ---- s at the back
pub in-back : (xs : List ℕ) (x s : ℕ) → In x (xs ++ (s ∷ [])) → In x xs ⊎ (x ≡ s)
in-back xs x s m = ⊎_elim (λ k. inl k) (λ w. ⊎_elim (λ e. inr e) (λ k. absurd k) w) (in_app xs (s ∷ []) x m)

pub back_old : (xs : List ℕ) (x s : ℕ) → In x xs → In x (xs ++ (s ∷ []))
back_old xs x s m = app_left xs (s ∷ []) x m

pub back_new : (xs : List ℕ) (s : ℕ) → In s (xs ++ (s ∷ []))
back_new xs s = app_right xs (s ∷ []) s (inl refl)

pub last_back : (xs : List ℕ) (b s : ℕ) → last_or b (xs ++ (s ∷ [])) ≡ s
last_back [] b s = refl
last_back (x ∷ xs) b s = last_back xs x s

-- ---- s removed
pub removed : (xs : List ℕ) (x s : ℕ) → In x (remove s xs) → In x xs
removed (y ∷ ys) x s m =
    ⊎_elim
    (λ (e : s ≡ y). inr (simp (eq-eqb s y e) at m))
    (λ (n : s ≡ y → ⊥). ⊎_elim (λ h. inl h) (λ h. inr (removed ys x s h)) (simp (ne_eqb s y n) at m))
    (same? s y)
removed [] x s m = elim m [ ]

pub kept : (xs : List ℕ) (x s : ℕ) → (x ≡ s → ⊥) → In x xs → In x (remove s xs)
kept (y ∷ ys) x s d (inl h) = simp (ne_eqb s y (λ (e : s ≡ y). d (h ∙ sym e))) (inl h)
kept (y ∷ ys) x s d (inr h) =
    ⊎_elim
    (λ (e : s ≡ y). simp (eq-eqb s y e) h)
    (λ (n : s ≡ y → ⊥). simp (ne_eqb s y n) (inr (kept ys x s d h)))
    (same? s y)
kept [] x s d x4 = elim x4 [ ]

pub gone : (xs : List ℕ) (s : ℕ) → Once xs → In s (remove s xs) → ⊥
gone (x ∷ xs) s o m =
    ⊎_elim
    (λ (e : s ≡ x). o.0 (in-at xs e (simp (eq-eqb s x e) at m)))
    (λ (n : s ≡ x → ⊥). ⊎_elim n (λ k. gone xs s o.1 k) (simp (ne_eqb s x n) at m))
    (same? s x)
gone [] s o m = elim m [ ]

pub length_remove : (ys : List ℕ) (x : ℕ) → In x ys → suc (length (remove x ys)) ≡ length ys
length_remove (y ∷ ys) x m =
    ⊎_elim
    (λ (e : x ≡ y). simp (eq-eqb x y e))
    (λ (n : x ≡ y → ⊥). simp (ne_eqb x y n) (ap suc (length_remove ys x (⊎_elim (λ k. absurd (n k)) (λ k. k) m))))
    (same? x y)
length_remove [] x m = elim m [ ]

-- the first taken out leaves the rest
pub remove_first : (x : ℕ) (xs : List ℕ) → remove x (x ∷ xs) ≡ xs
remove_first x xs = simp (eq-eqb x x refl)

-- ---- what stands before and after a member
pub split : (xs : List ℕ) (s : ℕ) → In s xs → xs ≡ before s xs ++ (s ∷ after s xs)
split (x ∷ xs) s m =
    ⊎_elim
    (λ (e : s ≡ x). simp (eq-eqb s x e) (ap (λ (y : ℕ). y ∷ xs) (sym e)))
    (λ (n : s ≡ x → ⊥). simp (ne_eqb s x n) (ap (λ (ys : List ℕ). x ∷ ys) (split xs s (⊎_elim (λ k. absurd (n k)) (λ k. k) m))))
    (same? s x)
split [] s m = elim m [ ]

pub split_at : (us ws : List ℕ) (s : ℕ) → (In s us → ⊥) → (before s (us ++ (s ∷ ws)) ≡ us) × (after s (us ++ (s ∷ ws)) ≡ ws)
split_at [] ws s n = (simp (eq-eqb s s refl), simp (eq-eqb s s refl))
split_at (u ∷ us) ws s n =
    let k : s ≡ u → ⊥ = λ e. n (inl e) in
    let r = split_at us ws s (λ m. n (inr m)) in
    (simp (ne_eqb s u k) (ap (λ (ys : List ℕ). u ∷ ys) r.0), simp (ne_eqb s u k) r.1)

pub before_in_lem : (xs : List ℕ) (s x : ℕ) → In x (before s xs) → In x xs
before_in_lem (y ∷ ys) s x m =
    ⊎_elim
    (λ (e : s ≡ y). absurd (simp (eq-eqb s y e) at m))
    (λ (n : s ≡ y → ⊥). ⊎_elim (λ h. inl h) (λ h. inr (before_in_lem ys s x h)) (simp (ne_eqb s y n) at m))
    (same? s y)
before_in_lem [] s x m = elim m [ ]

pub after_in_lem : (xs : List ℕ) (s x : ℕ) → In x (after s xs) → In x xs
after_in_lem (y ∷ ys) s x m =
    ⊎_elim
    (λ (e : s ≡ y). inr (simp (eq-eqb s y e) at m))
    (λ (n : s ≡ y → ⊥). inr (after_in_lem ys s x (simp (ne_eqb s y n) at m)))
    (same? s y)
after_in_lem [] s x m = elim m [ ]

-- ---- the last of a list
pub last_in : (xs : List ℕ) (b s : ℕ) → last_or b xs ≡ s → (s ≡ b → ⊥) → In s xs
last_in [] b s e n = absurd (n (sym e))
last_in (x ∷ xs) b s e n = ⊎_elim (λ k. inl k) (λ k. inr (last_in xs x s e k)) (same? s x)
