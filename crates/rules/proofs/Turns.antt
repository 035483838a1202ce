-- A pull as a loop: after each turn, what is left to do gives the same result.
use Prim.Native.Nat.{ℕ, ◌≤◌, ◌<◌}
use mathlib.Core.Path.{◌≡◌, refl, sym, ap, ◌∙◌}
use mathlib.Core.Option.{none, some}
use mathlib.Core.List.{List, [], ◌∷◌}
use borrow.Author.Tests.{le-leb, lt-leb}
use Rattle.rules.specs.Places.{Geometry, bucket_of, place_of}
use Rattle.rules.specs.Wheel.{Lists, placed_in, link, release, enter, pop, Entry, closed, poised, within, end, expired, rescheduled}
use Rattle.rules.specs.Calls.{emptied, AfterPull as Pulled, stopped, swept, pulled}
use Rattle.rules.proofs.Standing.{early_pop}

module _ (g : Geometry) (E : ℕ → Entry) (p q : ℕ) where
  -- the first bucket is entered
  pub turn_first : (b : ℕ) (bs : List ℕ) (L : Lists) → pulled g E q (poised p (b ∷ bs)) L ≡ pulled g E q (within p b bs) (enter b L)
  turn_first b bs L = refl

  -- what is left to do in the bucket c, with ys before its sentinel, and after it
  abbrev left : ℕ → List ℕ → List ℕ → Lists → Pulled
  left c bs ys L = stopped p c bs (emptied g E q c ys L).0 (emptied g E q c ys L).1 (swept g E p q bs (emptied g E q c ys L).1)

  module _ (c : ℕ) (L : Lists) where
    -- nothing is left before the sentinel of the last bucket: it is the end
    pub turn_end : (L.bucket c).early ≡ [] → pulled g E q (within p c []) L ≡ record { answer = end; advance = closed; lists = L }
    turn_end f = rw f

    module _ (bs : List ℕ) (x : ℕ) (xs : List ℕ) (f : (L.bucket c).early ≡ x ∷ xs) where
      -- "No deadline: slot freed, no event."
      pub turn_skip : (E (L.node x).entry).deadline ≡ none → pulled g E q (within p c bs) L ≡ pulled g E q (within p c bs) (release x (pop c xs L))
      turn_skip o =
          ap (λ (ys : List ℕ). left c bs ys L) f ∙ skipped ∙ sym (ap (λ (ys : List ℕ). left c bs ys (release x (pop c xs L))) (early_pop c xs L))
        where
          skipped : left c bs (x ∷ xs) L ≡ left c bs xs (release x (pop c xs L))
          skipped = rw o

      -- "Deadline at most q: freed, Expired(entry, serial, deadline)."
      pub turn_expire : (d : ℕ) → (E (L.node x).entry).deadline ≡ some d → d ≤ q
          → pulled g E q (within p c bs) L ≡ record {
            answer = expired (L.node x).entry (L.node x).serial d;
            advance = within p c bs;
            lists = release x
                (pop c xs L);
          }
      turn_expire d o i = rw (f, o, le-leb d q i)

      -- "Otherwise placed anew with reading q, at the back: Rescheduled(entry, serial, new place)."
      pub turn_move : (d : ℕ) → (E (L.node x).entry).deadline ≡ some d → q < d
          → pulled g E q (within p c bs) L
          ≡ record {
            answer = rescheduled (L.node x).entry (L.node x).serial (place_of g q d);
            advance = within p c bs;
            lists = link (bucket_of g q d) x (placed_in (bucket_of g q d) (L.node x)) (pop c xs L);
          }
      turn_move d o i = rw (f, o, lt-leb d q i)
