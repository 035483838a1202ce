-- A serial that is gone: a pull does not hand it out, nor bring it back.
use Prim.Native.Nat.{ℕ, ◌≤◌, ◌<◌}
use native.Mathlib.Omega.{arith}
use mathlib.Core.Path.{◌≡◌, refl, sym, ap, ◌∙◌}
use mathlib.Core.Logic.{⊎_elim}
use mathlib.Core.Option.{Option, none, some}
use mathlib.Core.List.{List, [], ◌∷◌}
use borrow.Author.Tests.{le-leb, lt-leb}
use Rattle.rules.specs.Places.{Geometry, bucket_of}
use Rattle.rules.specs.Wheel.{Slot as Node, Lists, placed_in, count, link, release, enter, pop, Entry, Advance, closed, poised, within, Answer, hands_out}
use Rattle.rules.specs.Calls.{Found, dealt, emptied, AfterPull as Pulled, stopped, swept, pulled}
use Rattle.numbers.proofs.Cases.{below?}
use Rattle.rules.proofs.Counting.{hit_is, hit_not}
use Rattle.rules.proofs.Standing.{Gone, bearers_enter, bearers_else, pop_release, pop_link, serial_freed, serial_linked, early_pop}

module _ (g : Geometry) (E : ℕ → Entry) (n p q : ℕ) where
  abbrev Silent : Option Answer → Lists → Type 0
  Silent none L = Gone n L
  Silent (some a) L = (hands_out n a ≡ 0) × Gone n L

  freed_gone : (c y : ℕ) (xs : List ℕ) (L : Lists) → (L.bucket c).early ≡ y ∷ xs → Gone n L → Gone n (release y (pop c xs L))
  freed_gone c y xs L i w =
      bearers_else n (λ (z : ℕ). ⊥) y L (release y (pop c xs L)) w (pop_release y L c xs i)
      (λ k. w.standing c y (omega (arith, ap (count y) i, hit_is y y refl)) (sym (serial_freed y (pop c xs L)) ∙ k))

  dealt_gone : (c y : ℕ) (xs : List ℕ) (L : Lists) (o : Option ℕ) (r : Found) → (L.bucket c).early ≡ y ∷ xs → Gone n L → Silent r.0 r.1
      → Silent (dealt g q y o (pop c xs L) r).0 (dealt g q y o (pop c xs L) r).1
  dealt_gone c y xs L none r i w k = k
  dealt_gone c y xs L (some j) r i w k =
      let other : (L.node y).serial ≡ n → ⊥ = λ m. w.standing c y (omega (arith, ap (count y) i, hit_is y y refl)) m in
      let b : ℕ = bucket_of g q j in
      let v : Node = placed_in b (L.node y) in
      ⊎_elim
      (λ (m : q < j).
      simp (lt-leb j q m)
      (refl, bearers_else n (λ (z : ℕ). ⊥) y L (link b y v (pop c xs L)) w (pop_link y L c xs i b v) (λ z. other (sym (serial_linked y b v (pop c xs L)) ∙ z))))
      (λ (m : j ≤ q). simp (le-leb j q m) (hit_not n (L.node y).serial (λ z. other (sym z)), freed_gone c y xs L i w))
      (below? q j)

  emptied_gone : (c : ℕ) (xs : List ℕ) (L : Lists) → (L.bucket c).early ≡ xs → Gone n L → Silent (emptied g E q c xs L).0 (emptied g E q c xs L).1
  emptied_gone c [] L i w = w
  emptied_gone c (y ∷ xs) L i w =
      dealt_gone c y xs L (E (L.node y).entry).deadline (emptied g E q c xs (release y (pop c xs L))) i w
      (emptied_gone c xs (release y (pop c xs L)) (early_pop c xs L) (freed_gone c y xs L i w))

  abbrev SilentOf : Pulled → Type 0
  SilentOf r = (hands_out n r.answer ≡ 0) × Gone n r.lists

  stopped_gone : (c : ℕ) (bs : List ℕ) (o : Option Answer) (L : Lists) (r : Pulled) → Silent o L → (Gone n L → SilentOf r) → SilentOf (stopped p c bs o L r)
  stopped_gone c bs none L r w k = k w
  stopped_gone c bs (some a) L r w k = w

  swept_gone : (bs : List ℕ) (L : Lists) → Gone n L → SilentOf (swept g E p q bs L)
  swept_gone [] L w = (refl, w)
  swept_gone (c ∷ bs) L w =
      let r : Found = emptied g E q c ((enter c L).bucket c).early (enter c L) in
      stopped_gone c bs r.0 r.1 (swept g E p q bs r.1)
      (emptied_gone c ((enter c L).bucket c).early (enter c L) refl (bearers_enter n (λ (z : ℕ). ⊥) c L w))
      (λ i. swept_gone bs r.1 i)

  within_gone : (c : ℕ) (bs : List ℕ) (L : Lists) → Gone n L → SilentOf (pulled g E q (within p c bs) L)
  within_gone c bs L w =
      let r : Found = emptied g E q c (L.bucket c).early L in
      stopped_gone c bs r.0 r.1 (swept g E p q bs r.1) (emptied_gone c (L.bucket c).early L refl w) (λ i. swept_gone bs r.1 i)

pub pulled_gone : (g : Geometry) (E : ℕ → Entry) (n q : ℕ) (A : Advance) (L : Lists) → Gone n L
    → (hands_out n (pulled g E q A L).answer ≡ 0) × Gone n (pulled g E q A L).lists
pulled_gone g E n q closed L w = (refl, w)
pulled_gone g E n q (poised p bs) L w = swept_gone g E n p q bs L w
pulled_gone g E n q (within p c bs) L w = within_gone g E n p q c bs L w
