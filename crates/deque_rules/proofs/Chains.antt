-- Laws of chains: that a chain determines its list, and what it links once a slot goes in at the back, is taken out, or
-- the ring is turned.
use Prim.Native.Nat.{ℕ, ◌<◌}
use native.Mathlib.Omega.{arith}
use mathlib.Core.Path.{◌≡◌, refl, sym, ap, ◌∙◌, subst}
use mathlib.Core.Logic.{◌⊎◌, inl, inr, ⊎_elim}
use mathlib.Core.List.{List, [], ◌∷◌, ◌++◌}
use lib.ListN.{length}
use borrow.Author.Tests.{eq-eqb, ne_eqb}
use Rattle.deque_rules.specs.Links.{Chain, first, Path}
use Rattle.numbers.specs.Lists.{last_or, remove}
use Rattle.numbers.specs.Shared.{no_slot as none, In, Once}
use Rattle.numbers.proofs.Cases.{same?}
use Rattle.numbers.proofs.Members.{in-at}

-- no member is z
abbrev pub Real : ℕ → List ℕ → Type 0
Real z xs = (x : ℕ) → In x xs → x ≡ z → ⊥

-- f leads from b through xs to z
abbrev pub Way : ℕ → (ℕ → ℕ) → ℕ → List ℕ → Type 0
Way z f b [] = f b ≡ z
Way z f b (x ∷ xs) = (f b ≡ x) × Way z f x xs

module _ (z : ℕ) (f : ℕ → ℕ) where
  -- from one slot f leads through one list only
  pub alike : (b : ℕ) (xs ys : List ℕ) → Real z xs → Real z ys → Way z f b xs → Way z f b ys → xs ≡ ys
  alike b [] [] p q h k = refl
  alike b [] (y ∷ ys) p q h k = absurd (q y (inl refl) (sym k.0 ∙ h))
  alike b (x ∷ xs) [] p q h k = absurd (p x (inl refl) (sym h.0 ∙ k))
  alike b (x ∷ xs) (y ∷ ys) p q h k =
      let e : y ≡ x = sym k.0 ∙ h.0 in
      let i : xs ≡ ys = alike x xs ys (λ v m. p v (inr m)) (λ v m. q v (inr m)) h.1 (rw e at k.1) in
      cc

  -- from a member on the way is shorter
  shorter : (b : ℕ) (xs : List ℕ) → Way z f b xs → (y : ℕ) → In y xs → (ys : List ℕ) × Way z f y ys × (length ys < length xs) × ((x : ℕ) → In x ys → In x xs)
  shorter b (x ∷ xs) h y (inl e) = (xs, rw e h.1, omega arith, λ v m. inr m)
  shorter b (x ∷ xs) h y (inr m) =
      let r = shorter x xs h.1 y m in
      (r.0, r.1, omega arith, λ v k. inr (r.3 v k))
  shorter b [] h y x'' = elim x'' [ ]

  -- so no slot stands twice
  pub way_apart : (b : ℕ) (xs : List ℕ) → Way z f b xs → Real z xs → In b xs → ⊥
  way_apart b xs h p m =
      let r = shorter b xs h b m in
      let e : length xs ≡ length r.0 = ap length (alike b xs r.0 p (λ v k. p v (r.3 v k)) h r.1) in
      omega (arith, r.2, e)

  pub way_once : (b : ℕ) (xs : List ℕ) → Way z f b xs → Real z xs → Once xs
  way_once b [] h p = tt
  way_once b (x ∷ xs) h p = (way_apart x xs h.1 (λ v m. p v (inr m)), way_once x xs h.1 (λ v m. p v (inr m)))

module _ (f : ℕ → ℕ) where
  pub path_way : (x : ℕ) (xs : List ℕ) → Path f (x ∷ xs) → Way none f x xs
  path_way x [] h = h.0
  path_way x (y ∷ ys) h = (h.0, path_way y ys h.1)

  pub path_alike : (xs ys : List ℕ) → Real none xs → Real none ys → first xs ≡ first ys → Path f xs → Path f ys → xs ≡ ys
  path_alike [] [] p q e h k = refl
  path_alike [] (y ∷ ys) p q e h k = absurd (q y (inl refl) (sym e))
  path_alike (x ∷ xs) [] p q e h k = absurd (p x (inl refl) e)
  path_alike (x ∷ xs) (y ∷ ys) p q e h k =
      let i : xs ≡ ys = path_alike xs ys (λ v m. p v (inr m)) (λ v m. q v (inr m)) (sym h.0 ∙ ap f e ∙ k.0) h.1 k.1 in
      cc

  pub path_once : (xs : List ℕ) → Path f xs → Real none xs → Once xs
  path_once [] h p = tt
  path_once (x ∷ xs) h p =
      let w = path_way x xs h in
      (way_apart none f x xs w (λ v m. p v (inr m)), way_once none f x xs w (λ v m. p v (inr m)))

pub path_agree : (f f' : ℕ → ℕ) (xs : List ℕ) → ((x : ℕ) → In x xs → f' x ≡ f x) → Path f xs → Path f' xs
path_agree f f' [] p h = tt
path_agree f f' (x ∷ xs) p h = (p x (inl refl) ∙ h.0, path_agree f f' xs (λ y m. p y (inr m)) h.1)

module _ (z : ℕ) (f g : ℕ → ℕ) where
  pub chain_way : (b : ℕ) (xs : List ℕ) → Chain z f g b xs → Way z f b xs
  chain_way b [] h = h.0
  chain_way b (x ∷ xs) h = (h.0, chain_way x xs h.2)

  pub chain_apart : (b : ℕ) (xs : List ℕ) → Chain z f g b xs → Real z xs → In b xs → ⊥
  chain_apart b xs h p m = way_apart z f b xs (chain_way b xs h) p m

  pub chain_once : (b : ℕ) (xs : List ℕ) → Chain z f g b xs → Real z xs → Once xs
  chain_once b xs h p = way_once z f b xs (chain_way b xs h) p

  -- f leads to the first, or to z where there is none
  pub chain_start : (b : ℕ) (xs : List ℕ) → Chain z f g b xs → (f b ≡ z) ⊎ In (f b) xs
  chain_start b [] h = inl h.0
  chain_start b (x ∷ xs) h = inr (inl h.0)

  -- g leads from z to the last
  pub chain_last : (b : ℕ) (xs : List ℕ) → Chain z f g b xs → g z ≡ last_or b xs
  chain_last b [] h = h.1
  chain_last b (x ∷ xs) h = chain_last x xs h.2

  pub chain_end : (b : ℕ) (xs : List ℕ) → Chain z f g b xs → (g z ≡ b) ⊎ In (g z) xs
  chain_end b [] h = inl h.1
  chain_end b (x ∷ xs) h = ⊎_elim (λ e. inr (inl e)) (λ m. inr (inr m)) (chain_end x xs h.2)

  -- f and g undo one another at the start, at a member, and at z
  pub undo_start : (b : ℕ) (xs : List ℕ) → Chain z f g b xs → g (f b) ≡ b
  undo_start b [] h = ap g h.0 ∙ h.1
  undo_start b (x ∷ xs) h = ap g h.0 ∙ h.1

  pub undo : (b : ℕ) (xs : List ℕ) → Chain z f g b xs → (s : ℕ) → In s xs → (f (g s) ≡ s) × (g (f s) ≡ s)
  undo b (x ∷ xs) h s (inl e) = (rw e (ap f h.1 ∙ h.0), rw e (undo_start x xs h.2))
  undo b (x ∷ xs) h s (inr m) = undo x xs h.2 s m
  undo b [] h s x'' = elim x'' [ ]

  pub undo_end : (b : ℕ) (xs : List ℕ) → Chain z f g b xs → f (g z) ≡ z
  undo_end b [] h = ap f h.1 ∙ h.0
  undo_end b (x ∷ xs) h = undo_end x xs h.2

  -- the slot before a member is b or a member, the slot after it z or a member
  pub prev_in : (b : ℕ) (xs : List ℕ) → Chain z f g b xs → (s : ℕ) → In s xs → (g s ≡ b) ⊎ In (g s) xs
  prev_in b (x ∷ xs) h s (inl e) = inl (ap g e ∙ h.1)
  prev_in b (x ∷ xs) h s (inr m) = ⊎_elim (λ e. inr (inl e)) (λ k. inr (inr k)) (prev_in x xs h.2 s m)
  prev_in b [] h s x'' = elim x'' [ ]

  pub next_in : (b : ℕ) (xs : List ℕ) → Chain z f g b xs → (s : ℕ) → In s xs → (f s ≡ z) ⊎ In (f s) xs
  next_in b (x ∷ xs) h s (inl e) = ⊎_elim (λ k. inl (ap f e ∙ k)) (λ k. inr (inr (subst (λ y. In (f y) xs) (sym e) k))) (chain_start x xs h.2)
  next_in b (x ∷ xs) h s (inr m) = ⊎_elim (λ e. inl e) (λ k. inr (inr k)) (next_in x xs h.2 s m)
  next_in b [] h s x'' = elim x'' [ ]

  -- a chain through s is one up to s and one from s on
  pub parts : (b : ℕ) (us : List ℕ) (s : ℕ) (ws : List ℕ) → Chain z f g b (us ++ (s ∷ ws)) → Chain s f g b us × Chain z f g s ws
  parts b [] s ws h = ((h.0, h.1), h.2)
  parts b (u ∷ us) s ws h = let r = parts u us s ws h.2 in ((h.0, h.1, r.0), r.1)

  pub joined : (b : ℕ) (us : List ℕ) (s : ℕ) (ws : List ℕ) → Chain s f g b us → Chain z f g s ws → Chain z f g b (us ++ (s ∷ ws))
  joined b [] s ws h k = (h.0, h.1, k)
  joined b (u ∷ us) s ws h k = (h.0, h.1, joined u us s ws h.2 k)

-- two functions that agree with f and g where a chain looks link the same chain
pub agree : (z : ℕ) (f g f' g' : ℕ → ℕ) (b : ℕ) (xs : List ℕ) → f' b ≡ f b → ((x : ℕ) → In x xs → (f' x ≡ f x) × (g' x ≡ g x)) → g' z ≡ g z → Chain z f g b xs
    → Chain z f' g' b xs
agree z f g f' g' b [] p q r h = (p ∙ h.0, r ∙ h.1)
agree z f g f' g' b (x ∷ xs) p q r h =
    (p ∙ h.0, (q x (inl refl)).1 ∙ h.1, agree z f g f' g' x xs (q x (inl refl)).0 (λ y m. q y (inr m)) r h.2)

-- two chains over the same list agree at its members
pub agreed : (z : ℕ) (f g f' g' : ℕ → ℕ) (b : ℕ) (xs : List ℕ) → Chain z f g b xs → Chain z f' g' b xs → (f' b ≡ f b) ×
    ((x : ℕ) → In x xs → (f' x ≡ f x) × (g' x ≡ g x)) × (g' z ≡ g z)
agreed z f g f' g' b [] h k = (k.0 ∙ sym h.0, (λ x m. absurd m), k.1 ∙ sym h.1)
agreed z f g f' g' b (y ∷ ys) h k =
    let r = agreed z f g f' g' y ys h.2 k.2 in (
      k.0 ∙ sym h.0,
      (λ x m.
          ⊎_elim
          (λ (e : x ≡ y). (ap f' e ∙ r.0 ∙ ap f (sym e), ap g' e ∙ k.1 ∙ sym h.1 ∙ ap g (sym e)))
          (λ i. r.1 x i)
          m),
      r.2,
    )

-- a chain that ends elsewhere: only the last slot's next is another
pub bend : (z z' : ℕ) (f g f' g' : ℕ → ℕ) (b : ℕ) (xs : List ℕ) → Real z xs → f' (g z) ≡ z' → g' z' ≡ g z →
    ((x : ℕ) → (x ≡ b) ⊎ In x xs → (x ≡ g z → ⊥) → f' x ≡ f x) → ((x : ℕ) → In x xs → g' x ≡ g x) → Chain z f g b xs → Chain z' f' g' b xs
bend z z' f g f' g' b [] p a c i j h = (ap f' (sym h.1) ∙ a, c ∙ h.1)
bend z z' f g f' g' b (x ∷ xs) p a c i j h = (
  i b (inl refl) (λ e. p x (inl refl) (sym h.0 ∙ ap f e ∙ undo_end z f g b (x ∷ xs) h)) ∙ h.0,
  j x (inl refl) ∙ h.1,
  bend z z' f g f' g' x xs (λ v m. p v (inr m)) a c (λ v m. i v (inr m)) (λ v m. j v (inr m)) h.2,
)

-- s goes in at the back
module _ (z : ℕ) (f g f' g' : ℕ → ℕ) (s : ℕ) (f-last : f' (g z) ≡ s) (f-new : f' s ≡ z) (g-new : g' s ≡ g z) (g-z : g' z ≡ s)
    (f-other : (x : ℕ) → (x ≡ g z → ⊥) → (x ≡ s → ⊥) → f' x ≡ f x) (g-other : (x : ℕ) → (x ≡ z → ⊥) → (x ≡ s → ⊥) → g' x ≡ g x) where
  pub snoc : (b : ℕ) (xs : List ℕ) → (b ≡ s → ⊥) → (In s xs → ⊥) → Real z xs → Chain z f g b xs → Chain z f' g' b (xs ++ (s ∷ []))
  snoc b xs n m p h =
      joined z f' g' b xs s []
      (bend z s f g f' g' b xs p f-last g-new
      (λ x w k. f-other x k (λ e. ⊎_elim (λ (i : x ≡ b). n (sym i ∙ e)) (λ i. m (in-at xs e i)) w))
      (λ x i. g-other x (p x i) (λ e. m (in-at xs e i)))
      h)
      (f-new, g-z)

-- s is taken out
module _ (z : ℕ) (f g f' g' : ℕ → ℕ) (s : ℕ) (f-at : f' (g s) ≡ f s) (g-at : g' (f s) ≡ g s)
    (f-other : (x : ℕ) → (x ≡ g s → ⊥) → f' x ≡ f x) (g-other : (x : ℕ) → (x ≡ f s → ⊥) → g' x ≡ g x) where
  -- where s comes next, after b
  cut_here : (b : ℕ) (xs : List ℕ) → Real z xs → f b ≡ s → g s ≡ b → (In b xs → ⊥) → Chain z f g s xs → Chain z f' g' b xs
  cut_here b [] p q r m h = (ap f' (sym r) ∙ f-at ∙ h.0, ap g' (sym h.0) ∙ g-at ∙ r)
  cut_here b (v ∷ w) p q r m h =
      let a : In v w → ⊥ = chain_apart z f g v w h.2 (λ v k. p v (inr k)) in (
        ap f' (sym r) ∙ f-at ∙ h.0,
        ap g' (sym h.0) ∙ g-at ∙ r,
        agree z f g f' g' v w
            (f-other v (λ k. m (inl (sym (k ∙ r)))))
            (λ y i. (f-other y (λ k. m (inr (in-at w (k ∙ r) i))), g-other y (λ k. a (in-at w (k ∙ h.0) i))))
            (g-other z (λ k. p v (inl refl) (sym (k ∙ h.0))))
            h.2,
      )

  pub cut : (b : ℕ) (xs : List ℕ) → Real z xs → (b ≡ s → ⊥) → In s xs → Chain z f g b xs → Chain z f' g' b (remove s xs)
  cut b (x ∷ xs) p n m h =
      let a : In b (x ∷ xs) → ⊥ = chain_apart z f g b (x ∷ xs) h p in
      let u : (f (g s) ≡ s) × (g (f s) ≡ s) = undo z f g b (x ∷ xs) h s m in
      ⊎_elim
      (λ (e : s ≡ x). simp (eq-eqb s x e) (cut_here b xs (λ v k. p v (inr k)) (h.0 ∙ sym e) (ap g e ∙ h.1) (λ k. a (inr k)) (rw e h.2)))
      (λ (d : s ≡ x → ⊥).
      simp (ne_eqb s x d) (
        f-other b (λ k. d (sym u.0 ∙ ap f (sym k) ∙ h.0)) ∙ h.0,
        g-other x (λ k. n (sym h.1 ∙ ap g k ∙ u.1)) ∙ h.1,
        cut x xs (λ v k. p v (inr k)) (λ k. d (sym k)) (⊎_elim (λ k. absurd (d k)) (λ k. k) m) h.2,
      ))
      (same? s x)
  cut b [] p n m h = elim m [ ]
