-- What the loop of `walk` keeps, and what follows where it stops.
use Prim.Native.Nat.{ℕ, suc, ◌+◌, ◌≤◌, ◌<◌}
use native.Mathlib.Omega.{arith}
use mathlib.Core.Path.{◌≡◌, refl, sym, ap, ◌∙◌}
use mathlib.Core.Logic.{inl, inr, ⊎_elim}
use mathlib.Core.List.{List, [], ◌∷◌}
use lib.ListN.{length, get_or}
use Rattle.numbers.specs.Shared.{no_slot as none, In}
use Rattle.deque_rules.specs.Links.{Links, slot_after as step, home_of}
use Rattle.deque_rules.specs.Layout.{Sizes}
use Rattle.deque_rules.specs.Sound.{Runs, Walked}
use Rattle.deque_rules.proofs.Chains.{chain_once}
use Rattle.deque_rules.proofs.Arrays.{step_slot}
use Rattle.numbers.proofs.Counting.{at_most}

-- b is the slot passed last, x the one after it, and k have been passed: the lists that the records link from the start
-- on are those from b on, k longer
pub record Going (a : Links) (d b x k : ℕ) : Type 0 where
  pub here : step a.heads a.next d b ≡ x
  pub few : k ≤ length a.next
  pub whole : (ys : List ℕ) → Runs a d b ys → (xs : List ℕ) × Runs a d none xs × (length xs ≡ k + length ys)
  pub ahead : (xs : List ℕ) → Runs a d none xs → (ys : List ℕ) × Runs a d b ys × (length xs ≡ k + length ys)

module _ (a : Links) (d : ℕ) (z : Sizes a × (d < length a.heads)) where
  real : (b : ℕ) (xs : List ℕ) → Runs a d b xs → (y : ℕ) → In y xs → y ≡ none → ⊥
  real b xs h y m e = omega (arith, (h.1 y m).0, z.0.small, e)

  short : (b : ℕ) (xs : List ℕ) → Runs a d b xs → length xs ≤ length a.next
  short b xs h = at_most (length a.next) xs (chain_once none (step a.heads a.next d) (step a.tails a.prev d) b xs h.0 (real b xs h)) (λ y m. (h.1 y m).0)

  module _ (b x k : ℕ) (g : Going a d b x k) where
    -- what a list from b on says of x
    passed : (x ≡ none → ⊥) → (ys : List ℕ) → Runs a d b ys → (zs : List ℕ) × Runs a d x zs × (length ys ≡ suc (length zs)) × (x < length a.next) ×
        (home_of a x ≡ d) × (get_or a.prev x 0 ≡ b)
    passed n [] h = absurd (n (sym g.here ∙ h.0.0))
    passed n (y ∷ zs) h =
        let e : x ≡ y = sym g.here ∙ h.0.0 in (
          zs,
          (rw e h.0.2, λ v m. h.1 v (inr m)),
          refl,
          rw e (h.1 y (inl refl)).0,
          rw e (h.1 y (inl refl)).1,
          sym (step_slot a.tails a.prev d x n) ∙ ap (step a.tails a.prev d) e ∙ h.0.1,
        )

    -- where there is no list from b on there is none from the start on
    stuck : ((ys : List ℕ) → Runs a d b ys → ⊥) → Walked a d 4097
    stuck n = record { found = λ i. absurd (omega (arith, i)); bad = λ _ xs h. n (g.ahead xs h).0 (g.ahead xs h).1 }

    pub full : (x ≡ none → ⊥) → length a.next ≤ k → Walked a d 4097
    full n e =
        stuck (λ ys h.
        let u = passed n ys h in
        let w = g.whole ys h in
        omega (arith, short none w.0 w.1, w.2, u.2, e))

    pub beyond : (x ≡ none → ⊥) → length a.next ≤ x → Walked a d 4097
    beyond n e = stuck (λ ys h. omega (arith, (passed n ys h).3, e))

    pub unlinked : (x ≡ none → ⊥) → (get_or a.prev x 0 ≡ b → ⊥) → Walked a d 4097
    unlinked n e = stuck (λ ys h. e (passed n ys h).5)

    pub stranger : (x ≡ none → ⊥) → (get_or a.home x 0 ≡ d → ⊥) → Walked a d 4097
    stranger n e = stuck (λ ys h. e (passed n ys h).4)

    pub goes : (x ≡ none → ⊥) → k < length a.next → x < length a.next → get_or a.prev x 0 ≡ b → get_or a.home x 0 ≡ d → Going a d x
        (get_or a.next x 0) (k + 1)
    goes n l i p o =
        record {
          here = step_slot a.heads a.next d x n;
          few = omega (arith, g.few, l);
          whole = λ ys h.
              let w =
              g.whole (x ∷ ys) (
                (g.here, step_slot a.tails a.prev d x n ∙ p, h.0),
                λ v m. ⊎_elim (λ (e : v ≡ x). (rw e i, rw e o)) (λ j. h.1 v j) m,
              )
              in
              (w.0, w.1, omega (arith, w.2));
          ahead = λ xs h.
              let w = g.ahead xs h in
              let u = passed n w.0 w.1 in
              (u.0, u.1, omega (arith, w.2, u.2));
        }

    pub done : x ≡ none → get_or a.tails d 0 ≡ b → Walked a d k
    done e t =
        record {
          found = λ _. let w = g.whole [] ((g.here ∙ e, t), λ v m. absurd m) in (w.0, w.1, omega (arith, w.2));
          bad = λ i xs h. omega (arith, g.few, z.0.small, i);
        }

    ended : (ys : List ℕ) → x ≡ none → Runs a d b ys → get_or a.tails d 0 ≡ b
    ended [] e h = h.0.1
    ended (y ∷ ys) e h = absurd (real b (y ∷ ys) h y (inl refl) (sym h.0.0 ∙ g.here ∙ e))

    pub other_tail : x ≡ none → (get_or a.tails d 0 ≡ b → ⊥) → Walked a d 4097
    other_tail e t = stuck (λ ys h. t (ended ys e h))

-- the laws of the ways out
pub ruleset exits = (full, beyond, unlinked, stranger, other_tail, done)
