-- Armed count and next due.
use Prim.Native.Nat.{ℕ, zero, suc, ◌+◌, ◌-◌, ◌≤◌, ◌<◌, min}
use native.Mathlib.Omega.{arith}
use mathlib.Core.Path.{◌≡◌, refl, sym, ap, subst, ◌∙◌}
use mathlib.Core.Logic.{⊎_elim}
use mathlib.Core.Bool.{Bool, true, false, cond}
use mathlib.Core.Option.{Option, none, some}
use mathlib.Core.List.{List, [], ◌∷◌}
use lib.ListN.{length}
use borrow.Author.Tests.{lt-ltb, le-ltb}
use Rattle.rules.specs.Places.{Geometry, buckets}
use Rattle.rules.specs.Wheel.{Lists, count, Wheel}
use Rattle.rules.specs.Calls.{armed_below, sooner, key_of, least_key}
use Rattle.rules.specs.Sound.{spare, SoundLists, Sound}
use Rattle.numbers.proofs.Cases.{below?, same?}
use Rattle.rules.proofs.Counting.{hit_is, hit_not}
use Rattle.rules.proofs.SoundLists.{spare_some}

-- ---- armed count: every slot after the sentinels is armed or free, so the armed and the free ones together are all of
-- them
-- how often the slots below k stand in a list, together
abbrev sum_below : List ℕ → ℕ → ℕ
sum_below xs zero = 0
sum_below xs (suc k) = count k xs + sum_below xs k

sum_nil : (k : ℕ) → sum_below [] k ≡ 0
sum_nil zero = refl
sum_nil (suc k) = omega (arith, sum_nil k)

sum_none : (x : ℕ) (xs : List ℕ) (k : ℕ) → k ≤ x → sum_below (x ∷ xs) k ≡ sum_below xs k
sum_none x xs zero h = refl
sum_none x xs (suc k) h = omega (arith, sum_none x xs k (omega arith), hit_not k x (λ e. omega arith))

sum_cons : (x : ℕ) (xs : List ℕ) (k : ℕ) → x < k → sum_below (x ∷ xs) k ≡ suc (sum_below xs k)
sum_cons x xs zero h = absurd (omega arith)
sum_cons x xs (suc k) h =
    ⊎_elim
    (λ (e : k ≡ x). omega (arith, hit_is k x e, sum_none x xs k (omega arith)))
    (λ (n : k ≡ x → ⊥). omega (arith, hit_not k x n, sum_cons x xs k (below_one n)))
    (same? k x)
  where
    below_one : (k ≡ x → ⊥) → x < k
    below_one n = ⊎_elim (λ (i : x < k). i) (λ (i : k ≤ x). absurd (n (omega arith))) (below? x k)

-- a list of slots below k is as long as that
length_sum : (xs : List ℕ) (k : ℕ) → ((y : ℕ) → 0 < count y xs → y < k) → length xs ≡ sum_below xs k
length_sum [] k h = sym (sum_nil k)
length_sum (x ∷ xs) k h =
    omega (arith, sum_cons x xs k (h x (omega (arith, hit_is x x refl))), length_sum xs k (λ y i. h y (omega arith)))

module _ (D nodes entries next : ℕ) (L : Lists) (s : SoundLists D nodes entries next L) where
  armed_and_free : (k : ℕ) → k ≤ nodes → armed_below L.node k + sum_below L.free k ≡ k - D
  armed_and_free zero h = omega arith
  armed_and_free (suc k) h =
      ⊎_elim
      (λ (i : k < D). omega (arith, armed_and_free k (omega arith), s.free k, sentinel i))
      (λ (i : D ≤ k). omega (arith, armed_and_free k (omega arith), s.free k, one_kind i (L.node k).armed refl))
      (below? k D)
    where
      -- a sentinel is neither
      sentinel : k < D → cond (L.node k).armed 1 0 + spare D nodes L.node k ≡ 0
      sentinel i = simp (lt-ltb k D i) (go (L.node k).armed refl)
        where
          go : (b : Bool) → (L.node k).armed ≡ b → cond b 1 0 + 0 ≡ 0
          go true e = absurd (omega (arith, (s.slot k e).0))
          go false e = refl

      -- any other slot is just one of the two
      one_kind : D ≤ k → (b : Bool) → (L.node k).armed ≡ b → cond (L.node k).armed 1 0 + spare D nodes L.node k ≡ 1
      one_kind i true e = simp (le-ltb k D i, lt-ltb k nodes (omega arith), e)
      one_kind i false e = simp (le-ltb k D i, lt-ltb k nodes (omega arith), e)

-- "an invented armed count: it equals the number of armed slots". All armed slots are among those counted, and with the
-- free slots they are all slots after the sentinels.
pub record ArmedCount (g : Geometry) (w : Wheel) (k : ℕ) : Type 0 where
  pub is : k ≡ armed_below w.lists.node w.nodes
  pub all : (y : ℕ) → (w.lists.node y).armed ≡ true → y < w.nodes
  pub rest : k + length w.lists.free ≡ w.nodes - buckets g

pub armed_count_lem : (g : Geometry) (w : Wheel) → Sound g w → ArmedCount g w (armed_below w.lists.node w.nodes)
armed_count_lem g w s =
    record {
      is = refl;
      all = λ y h. (s.lists.slot y h).1;
      rest =
          ap (λ (m : ℕ). armed_below w.lists.node w.nodes + m)
          (length_sum w.lists.free w.nodes (λ y h. (spare_some (buckets g) w.nodes w.lists.node y (omega (arith, s.lists.free y))).1))
          ∙ armed_and_free (buckets g) w.nodes w.entries w.next w.lists s.lists w.nodes (omega arith);
    }

-- ---- next due: the least key among the armed slots, or none
-- o is the least of the keys f y of the slots below k, those that have one
abbrev pub LeastOf : (ℕ → Option ℕ) → ℕ → Option ℕ → Type 0
LeastOf f k none = (y : ℕ) → y < k → f y ≡ none
LeastOf f k (some d) = ((y : ℕ) × (y < k) × (f y ≡ some d)) × ((y c : ℕ) → y < k → f y ≡ some c → d ≤ c)

-- one slot more
more : (f : ℕ → Option ℕ) (k : ℕ) (a o : Option ℕ) → f k ≡ a → LeastOf f k o → LeastOf f (suc k) (sooner a o)
more f k none none e h = λ y i. ⊎_elim (λ (j : y < k). h y j) (λ (j : k ≤ y). subst (λ (z : ℕ). f z ≡ none) (omega arith) e) (below? y k)
more f k none (some d) e h = (
  (h.0.0, omega (arith, h.0.1), h.0.2),
  λ y c i u. ⊎_elim (λ (j : y < k). h.1 y c j u) (λ (j : k ≤ y). clash (subst (λ (z : ℕ). f z ≡ none) (omega arith) e) u) (below? y k),
)
  where
    clash : {A : Type 0} {o : Option ℕ} {c : ℕ} → o ≡ none → o ≡ some c → A
    clash a b = absurd (let z : ◌≡◌ {A = ℕ} 0 1 = cc in omega arith)
more f k (some d) none e h = (
  (k, omega arith, e),
  λ y c i u. ⊎_elim (λ (j : y < k). clash (h y j) u) (λ (j : k ≤ y). same (subst (λ (z : ℕ). f z ≡ some d) (omega arith) e) u) (below? y k),
)
  where
    clash : {A : Type 0} {o : Option ℕ} {c : ℕ} → o ≡ none → o ≡ some c → A
    clash a b = absurd (let z : ◌≡◌ {A = ℕ} 0 1 = cc in omega arith)

    same : {o : Option ℕ} {c : ℕ} → o ≡ some d → o ≡ some c → d ≤ c
    same {c = c} a b = let z : d ≡ c = cc in omega arith
more f k (some d) (some b) e h =
    ⊎_elim
    (λ (i : d < b).
    let z : min d b ≡ d = omega arith in
    rw z (
      (k, omega arith, e),
      λ y c j u. ⊎_elim (λ (l : y < k). omega (arith, h.1 y c l u))
          (λ (l : k ≤ y). same (subst (λ (z : ℕ). f z ≡ some d) (omega arith) e) u) (below? y k),
    ))
    (λ (i : b ≤ d).
    let z : min d b ≡ b = omega arith in
    rw z (
      (h.0.0, omega (arith, h.0.1), h.0.2),
      λ y c j u. ⊎_elim (λ (l : y < k). h.1 y c l u) (λ (l : k ≤ y). omega (arith, same (subst (λ (z : ℕ). f z ≡ some d) (omega arith) e) u)) (below? y k),
    ))
    (below? d b)
  where
    same : {o : Option ℕ} {c : ℕ} → o ≡ some d → o ≡ some c → d ≤ c
    same {c = c} a b = let z : d ≡ c = cc in omega arith

least : (g : Geometry) (w : Wheel) (k : ℕ) → LeastOf (key_of g w) k (least_key g w k)
least g w zero = λ y h. absurd (omega arith)
least g w (suc k) = more (key_of g w) k (key_of g w k) (least_key g w k) refl (least g w k)

-- "Next due: the smallest deadline among armed timers, or none": y's key is the deadline that its entry holds, if it is
-- armed
pub key_armed : (g : Geometry) (w : Wheel) (y : ℕ) → (w.lists.node y).armed ≡ true → key_of g w y ≡ (w.entry (w.lists.node y).entry).deadline
key_armed g w y h = simp h

pub key_other : (g : Geometry) (w : Wheel) (y : ℕ) → (w.lists.node y).armed ≡ false → key_of g w y ≡ none
key_other g w y h = simp h

pub next_due_lem : (g : Geometry) (w : Wheel) → LeastOf (key_of g w) w.nodes (least_key g w w.nodes)
next_due_lem g w = least g w w.nodes
