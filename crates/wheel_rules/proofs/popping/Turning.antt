-- A pull on lists as a loop: what is left to do is the same after each turn.
use Prim.Native.Nat.{ℕ, ◌≤◌, ◌<◌}
use native.Mathlib.Omega.{arith}
use mathlib.Core.Path.{◌≡◌, refl, sym, ap, ◌∙◌}
use mathlib.Core.Logic.{⊎_elim}
use mathlib.Core.Bool.{true}
use mathlib.Core.Option.{none, some}
use mathlib.Core.List.{List, [], ◌∷◌}
use borrow.Author.Tests.{le-leb, lt-leb, ne_eqb, eq-eqb}
use Rattle.rules.specs.Places.{Geometry, bucket_of, place_of}
use Rattle.rules.specs.Lists.{times}
use Rattle.rules.specs.Wheel.{Bucket, Lists, placed_in, update, without, count, taken, unlink, link, release, shortened, pop, Entry, within, Wheel, Answer}
use Rattle.rules.specs.Wheel.{expired, rescheduled}
use Rattle.rules.specs.Calls.{emptied, AfterPull as Pulled, stopped, swept, pulled, with_lists, with_clock}
use Rattle.rules.specs.Sound.{SoundLists}
use Rattle.numbers.proofs.Cases.{same?}
use Rattle.rules.proofs.Counting.{hit_is, hit_most, hit_same}
use Rattle.rules.proofs.Standing.{unlink_own, unlink_release, early_pop}
use Rattle.rules.proofs.SoundLists.{at_of, sound_freed}

-- what a pull makes of what it pulled
abbrev pub after : Wheel → Pulled → Answer × Wheel
after w r = (r.answer, with_lists r.lists (with_clock w.reading r.advance w))

module _ (g : Geometry) (E : ℕ → Entry) (p q : ℕ) where
  -- what is left to do in the bucket b with the slots ys before its sentinel, and after it
  abbrev left : ℕ → List ℕ → List ℕ → Lists → Pulled
  left b bs ys L = stopped p b bs (emptied g E q b ys L).0 (emptied g E q b ys L).1 (swept g E p q bs (emptied g E q b ys L).1)

  module _ (b : ℕ) (bs : List ℕ) (L : Lists) where
    -- nothing stands before the sentinel: the buckets ahead are entered
    pub turn_done : (L.bucket b).early ≡ [] → pulled g E q (within p b bs) L ≡ swept g E p q bs L
    turn_done f = ap (λ (ys : List ℕ). left b bs ys L) f

    module _ (x : ℕ) (xs : List ℕ) (f : (L.bucket b).early ≡ x ∷ xs) where
      -- a slot without a deadline
      pub turn_skip : (E (L.node x).entry).deadline ≡ none → pulled g E q (within p b bs) (release x (pop b xs L)) ≡ pulled g E q (within p b bs) L
      turn_skip o =
          sym (ap (λ (ys : List ℕ). left b bs ys L) f ∙ skipped ∙ sym (ap (λ (ys : List ℕ). left b bs ys (release x (pop b xs L))) (early_pop b xs L)))
        where
          skipped : left b bs (x ∷ xs) L ≡ left b bs xs (release x (pop b xs L))
          skipped = rw o

      pub turn_expire : (d : ℕ) → (E (L.node x).entry).deadline ≡ some d → d ≤ q
          → pulled g E q (within p b bs) L ≡ record {
            answer = expired (L.node x).entry (L.node x).serial d;
            advance = within p b bs;
            lists = release x
                (pop b xs L);
          }
      turn_expire d o i = rw (f, o, le-leb d q i)

      pub turn_move : (d : ℕ) → (E (L.node x).entry).deadline ≡ some d → q < d
          → pulled g E q (within p b bs) L
          ≡ record {
            answer = rescheduled (L.node x).entry (L.node x).serial (place_of g q d);
            advance = within p b bs;
            lists = link (bucket_of g q d) x (placed_in (bucket_of g q d) (L.node x)) (pop b xs L);
          }
      turn_move d o i = rw (f, o, lt-leb d q i)

-- ---- the first before the sentinel is popped: it is unlinked
without_none : (x : ℕ) (xs : List ℕ) → count x xs ≡ 0 → without x xs ≡ xs
without_none x [] h = refl
without_none x (y ∷ xs) h =
    ⊎_elim
    (λ (e : x ≡ y). absurd (omega (arith, hit_is x y e)))
    (λ (n : x ≡ y → ⊥). simp (ne_eqb x y n) (ap (λ (l : List ℕ). y ∷ l) (without_none x xs (omega arith))))
    (same? x y)

module _ (D m entries next b x : ℕ) (xs : List ℕ) (L : Lists) (s : SoundLists D m entries next L) (f : (L.bucket b).early ≡ x ∷ xs) where
  here : 0 < times x (L.bucket b)
  here = omega (arith, ap (count x) f, hit_is x x refl)

  pub popped_armed : (L.node x).armed ≡ true
  popped_armed = s.member b x here

  home_is : (L.node x).bucket ≡ b
  home_is = hit_same (L.node x).bucket b (omega (arith, here, s.stands x popped_armed b))

  bucket_is : taken x (L.bucket b) ≡ shortened xs (L.bucket b)
  bucket_is =
      let z : count x (L.bucket b).late ≡ 0 =
      omega (arith, s.stands x popped_armed b, hit_most (L.node x).bucket b, ap (count x) f, hit_is x x refl) in
      let first : without x (L.bucket b).early ≡ xs = ap (without x) f ∙ simp (eq-eqb x x refl) in
      rw (first, without_none x (L.bucket b).late z) refl

  pub unlink_pop : unlink x L ≡ pop b xs L
  unlink_pop =
      ap (λ (k : ℕ). record { bucket = update L.bucket k (taken x (L.bucket k)); free = L.free; node = L.node }) home_is
      ∙ ap (λ (B : Bucket). record { bucket = update L.bucket b B; free = L.free; node = L.node }) bucket_is

  -- unlinked and freed, it leaves the lists sound
  pub freed_sound : SoundLists D m entries next (release x (unlink x L))
  freed_sound =
      sound_freed D m entries next x L s (unlink x L) (L.node x)
      (unlink_own x (L.node x) L (L.node x).bucket refl (at_of D m entries next x L s popped_armed)) (unlink_release x L) popped_armed
