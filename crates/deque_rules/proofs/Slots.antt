-- Laws of a deque's list of slots: it is turned, and the first of it.
use Prim.Native.Nat.{ℕ}
use mathlib.Core.Path.{◌≡◌, refl, sym, ap}
use mathlib.Core.Logic.{inl, ⊎_elim}
use mathlib.Core.List.{List, [], ◌∷◌, ◌++◌}
use Rattle.numbers.proofs.Members.{in-at, in-same, in_app, app_left, app_right, in-back, back_old, back_new, before_in_lem, after_in_lem, split}
use Rattle.deque_rules.specs.Chain.{turned}
use Rattle.deque_rules.specs.Links.{first}
use Rattle.numbers.specs.Lists.{rest}
use Rattle.numbers.specs.Shared.{no_slot as none, In, before_in as before, after_in as after}

-- a turned list has the same members
pub in-turned : (xs : List ℕ) (s x : ℕ) → In s xs → In x (turned s xs) → In x xs
in-turned xs s x i m =
    ⊎_elim
    (λ k. after_in_lem xs s x k)
    (λ w. ⊎_elim (λ k. before_in_lem xs s x k) (λ e. in-at xs (sym e) i) (in-back (before s xs) x s w))
    (in_app (after s xs) (before s xs ++ (s ∷ [])) x m)

pub turned_in : (xs : List ℕ) (s x : ℕ) → In s xs → In x xs → In x (turned s xs)
turned_in xs s x i m =
    ⊎_elim
    (λ k. app_right (after s xs) (before s xs ++ (s ∷ [])) x (back_old (before s xs) x s k))
    (λ w.
    ⊎_elim
    (λ (e : x ≡ s). app_right (after s xs) (before s xs ++ (s ∷ [])) x (in-at (before s xs ++ (s ∷ [])) (sym e) (back_new (before s xs) s)))
    (λ k. app_left (after s xs) (before s xs ++ (s ∷ [])) x k)
    w)
    (in_app (before s xs) (s ∷ after s xs) x (in-same x (split xs s i) m))

-- ---- the first of a list
pub none_first : (xs : List ℕ) → ((x : ℕ) → In x xs → x ≡ none → ⊥) → first xs ≡ none → xs ≡ []
none_first [] p e = refl
none_first (x ∷ xs) p e = absurd (p x (inl refl) e)

pub some_first : (xs : List ℕ) (s : ℕ) → first xs ≡ s → (s ≡ none → ⊥) → xs ≡ s ∷ rest xs
some_first [] s e n = absurd (n (sym e))
some_first (x ∷ xs) s e n = ap (λ (y : ℕ). y ∷ xs) e

pub first_in : (xs : List ℕ) (s : ℕ) → first xs ≡ s → (s ≡ none → ⊥) → In s xs
first_in [] s e n = absurd (n (sym e))
first_in (x ∷ xs) s e n = inl (sym e)
