-- What the loop of `walk_free` keeps, and what follows where it stops.
use Prim.Native.Nat.{ℕ, suc, ◌+◌, ◌≤◌, ◌<◌}
use native.Mathlib.Omega.{arith}
use mathlib.Core.Path.{◌≡◌, refl, sym}
use mathlib.Core.Logic.{inl, inr, ⊎_elim}
use mathlib.Core.List.{List, [], ◌∷◌}
use lib.ListN.{length, get_or}
use Rattle.numbers.specs.Shared.{no_slot as none, In}
use Rattle.deque_rules.specs.Sound.{Spares, WalkedFree, SizesFree}
use Rattle.deque_rules.proofs.Chains.{path_once}
use Rattle.numbers.proofs.Counting.{at_most}

-- x is the slot to be passed next, and k have been passed
pub record GoingFree (next home : List ℕ) (free x k : ℕ) : Type 0 where
  pub few : k ≤ length next
  pub whole : (ys : List ℕ) → Spares next home x ys → (xs : List ℕ) × Spares next home free xs × (length xs ≡ k + length ys)
  pub ahead : (xs : List ℕ) → Spares next home free xs → (ys : List ℕ) × Spares next home x ys × (length xs ≡ k + length ys)

module _ (next home : List ℕ) (free : ℕ) (z : SizesFree next home) where
  real : (b : ℕ) (xs : List ℕ) → Spares next home b xs → (y : ℕ) → In y xs → y ≡ none → ⊥
  real b xs h y m e = omega (arith, (h.2 y m).0, z.small, e)

  short : (b : ℕ) (xs : List ℕ) → Spares next home b xs → length xs ≤ length next
  short b xs h = at_most (length next) xs (path_once _ xs h.1 (real b xs h)) (λ y m. (h.2 y m).0)

  module _ (x k : ℕ) (g : GoingFree next home free x k) where
    passed : (x ≡ none → ⊥) → (ys : List ℕ) → Spares next home x ys → (zs : List ℕ) × Spares next home (get_or next x 0) zs × (length ys ≡ suc (length zs)) ×
        (x < length next) × (get_or home x 0 ≡ none)
    passed n [] h = absurd (n (sym h.0))
    passed n (y ∷ zs) h =
        let e : x ≡ y = sym h.0 in
        (zs, (rw e (sym h.1.0), h.1.1, λ v m. h.2 v (inr m)), refl, rw e (h.2 y (inl refl)).0, rw e (h.2 y (inl refl)).1)

    stuck : ((ys : List ℕ) → Spares next home x ys → ⊥) → WalkedFree next home free 4097
    stuck n = record { found = λ i. absurd (omega (arith, i)); bad = λ _ xs h. n (g.ahead xs h).0 (g.ahead xs h).1 }

    pub full : (x ≡ none → ⊥) → length next ≤ k → WalkedFree next home free 4097
    full n e =
        stuck (λ ys h.
        let u = passed n ys h in
        let w = g.whole ys h in
        omega (arith, short free w.0 w.1, w.2, u.2, e))

    pub beyond : (x ≡ none → ⊥) → length next ≤ x → WalkedFree next home free 4097
    beyond n e = stuck (λ ys h. omega (arith, (passed n ys h).3, e))

    pub homed : (x ≡ none → ⊥) → (get_or home x 0 ≡ none → ⊥) → WalkedFree next home free 4097
    homed n e = stuck (λ ys h. e (passed n ys h).4)

    pub goes : (x ≡ none → ⊥) → k < length next → x < length next → get_or home x 0 ≡ none → GoingFree next home free (get_or next x 0) (k + 1)
    goes n l i o =
        record {
          few = omega (arith, g.few, l);
          whole = λ ys h.
              let w = g.whole (x ∷ ys) (refl, (sym h.0, h.1), λ v m. ⊎_elim (λ (e : v ≡ x). (rw e i, rw e o)) (λ j. h.2 v j) m) in
              (w.0, w.1, omega (arith, w.2));
          ahead = λ xs h.
              let w = g.ahead xs h in
              let u = passed n w.0 w.1 in
              (u.0, u.1, omega (arith, w.2, u.2));
        }

    pub done : x ≡ none → WalkedFree next home free k
    done e =
        record {
          found = λ _. let w = g.whole [] (sym e, tt, λ v m. absurd m) in (w.0, w.1, omega (arith, w.2));
          bad = λ i xs h. omega (arith, g.few, z.small, i);
        }

-- the laws of the ways out
pub ruleset exits = (full, beyond, homed, done)
