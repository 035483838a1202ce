-- A list that is written from the front, one element a turn: what a loop `while i < n { xs[i] = f(i); i += 1 }` makes
-- of it.
--     fills f xs i     xs with f 0 … f (i − 1) at its first i places
--     length_fills     it is as long as xs
--     fills_all        once all are written: f 0, f 1 and so on, as many as xs has
--     fills_field      a field of all of xs, once each is written with one that has the field from a longer ys
use mathlib.Core.Path.{◌≡◌, refl, ◌∙◌, ap}
use Prim.Native.Nat.{ℕ, zero, suc, ◌≤◌}
use native.Mathlib.Nat.{le_of_suc-le-suc, not-suc-le-zero}
use mathlib.Core.List.{List, [], ◌∷◌, map}
use Rattle.numbers.specs.Shared.{up_from}
use lib.ListN.{length, get_or, set, take, length-set}

abbrev pub fills : {X : Type 0} → (ℕ → X) → List X → ℕ → List X
fills f xs zero = xs
fills f xs (suc i) = set (fills f xs i) i (f i)

pub length_fills : {X : Type 0} (f : ℕ → X) (xs : List X) (i : ℕ) → length (fills f xs i) ≡ length xs
length_fills f xs zero = refl
length_fills f xs (suc i) = length-set (fills f xs i) i (f i) ∙ length_fills f xs i

shift : {X : Type 0} (f : ℕ → X) (x : X) (xs : List X) (i : ℕ) → fills f (x ∷ xs) (suc i) ≡ f zero ∷ fills (λ k. f (suc k)) xs i
shift f x xs zero = refl
shift f x xs (suc i) = ap (λ l. set l (suc i) (f (suc i))) (shift f x xs i)

up_one : {X : Type 0} (f : ℕ → X) (n i : ℕ) → map (λ k. f (suc k)) (up_from n i) ≡ map f (up_from n (suc i))
up_one f zero i = refl
up_one f (suc n) i = ap (λ l. f (suc i) ∷ l) (up_one f n (suc i))

pub fills_all : {X : Type 0} (f : ℕ → X) (xs : List X) → fills f xs (length xs) ≡ map f (up_from (length xs) 0)
fills_all f [] = refl
fills_all f (x ∷ xs) = shift f x xs (length xs) ∙ ap (λ l. f zero ∷ l) (fills_all (λ k. f (suc k)) xs ∙ up_one f (length xs) 0)

pub fills_field : {A X : Type 0} (g : A → X) (f : ℕ → A) (d : X) (ys : List X) (xs : List A) → ((i : ℕ) → g (f i) ≡ get_or ys i d) → length xs ≤ length ys → map
    g (fills f xs (length xs)) ≡ take (length xs) ys
fills_field g f d [] [] h l = refl
fills_field g f d (y ∷ ys) [] h l = refl
fills_field g f d [] (x ∷ xs) h l = absurd (not-suc-le-zero l)
fills_field g f d (y ∷ ys) (x ∷ xs) h l =
    ap (map g) (shift f x xs (length xs)) ∙ ap (λ z. z ∷ map g (fills (λ k. f (suc k)) xs (length xs))) (h zero) ∙ ap (λ l. y ∷ l)
    (fills_field g (λ k. f (suc k)) d ys xs (λ i. h (suc i)) (le_of_suc-le-suc l))
