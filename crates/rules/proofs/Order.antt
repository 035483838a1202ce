-- The order of a bucket: what is placed goes to the back, entering turns the bucket as 01 says, and what came first is
-- popped first.
use Prim.Native.Nat.{ℕ, zero, suc, ◌<◌}
use native.Mathlib.Omega.{arith}
use mathlib.Core.Path.{◌≡◌, refl, sym, ap, subst, ◌∙◌}
use mathlib.Core.Bool.{false}
use mathlib.Core.Option.{Option, none, some}
use mathlib.Core.List.{List, [], ◌∷◌, ◌++◌, append_assoc, append-nil}
use lib.ListN.{length, length-append}
use borrow.Author.Tests.{eq-eqb, ne_eqb}
use Rattle.rules.specs.Places.{Geometry, bucket_of}
use Rattle.rules.specs.Lists.{times}
use Rattle.rules.specs.Wheel.{Bucket, Slot as Node, Lists, whole, new_node, placed_in, count, at_back as pushed, link, unlink, claim, turned, Wheel, schedule}
use Rattle.rules.specs.Wheel.{reschedule, handle, ok}
use Rattle.rules.specs.Runs.{refusal, step}
use Rattle.rules.specs.Calls.{armed, rearmed, act, judged}
use Rattle.rules.specs.Order.{is_last, turn_until_last}
use Rattle.rules.proofs.Counting.{hit_is, count_app, update_is, update_not}

-- ---- "at the back"
pub whole_pushed : (z x : ℕ) (B : Bucket) → whole z (pushed x B) ≡ whole z B ++ (x ∷ [])
whole_pushed z x B = sym (append_assoc B.early (z ∷ B.late) (x ∷ []))

-- M is L but that the slot x stands at the back of the bucket b
pub record AtBack (x b : ℕ) (L M : Lists) : Type 0 where
  pub back : whole b (M.bucket b) ≡ whole b (L.bucket b) ++ (x ∷ [])
  pub others : (c : ℕ) → (b ≡ c → ⊥) → M.bucket c ≡ L.bucket c

pub link_at_back : (b x : ℕ) (v : Node) (L : Lists) → AtBack x b L (link b x v L)
link_at_back b x v L =
    record {
      back = ap (whole b) (update_is L.bucket b b (pushed x (L.bucket b)) refl) ∙ whole_pushed b x (L.bucket b);
      others = λ c ne. update_not L.bucket b c (pushed x (L.bucket b)) ne;
    }

-- "Schedule(entry, generation): puts a new node at the back of its bucket, answers its handle": the slot is the first
-- free one, the serial the next
pub record Scheduled (g : Geometry) (w : Wheel) (e h d x n : ℕ) (u : Wheel) : Type 0 where
  pub slot : (fs : List ℕ) × (w.lists.free ≡ x ∷ fs) × (u.lists.free ≡ fs)
  pub serial : n ≡ w.next
  pub counts : u.next ≡ suc w.next
  pub back : AtBack x (bucket_of g w.reading d) w.lists u.lists
  pub node : u.lists.node x ≡ new_node (bucket_of g w.reading d) e h n

pub schedule_at_back : (g : Geometry) (w : Wheel) (e h d x n : ℕ) → (step g w (schedule e h)).0 ≡ handle x n → (w.entry e).deadline ≡ some d
    → Scheduled g w e h d x n (step g w (schedule e h)).1
schedule_at_back g w e h d x n a dated = go (refusal g w (schedule e h)) a
  where
    arm : (o : Option ℕ) (fs : List ℕ) → o ≡ some d → w.lists.free ≡ fs → (armed g w e h o fs).0 ≡ handle x n → Scheduled g w e h d x n (armed g w e h o fs).1
    arm none fs i f a = absurd (let z : ◌≡◌ {A = ℕ} 0 1 = cc in omega arith)
    arm (some c) [] i f a = absurd (let z : ◌≡◌ {A = ℕ} 0 1 = cc in omega arith)
    arm (some c) (y ∷ fs) i f a =
        let j : y ≡ x = cc in
        let k : w.next ≡ n = cc in
        let l : c ≡ d = cc in
        let b : ℕ = bucket_of g w.reading c in
        let u : Wheel = (armed g w e h (some c) (y ∷ fs)).1 in
        record {
          slot = (fs, f ∙ ap (λ (m : ℕ). m ∷ fs) j, refl);
          serial = sym k;
          counts = refl;
          back = subst (λ (m : ℕ). AtBack x (bucket_of g w.reading m) w.lists u.lists) l
              (subst (λ (m : ℕ). AtBack m b w.lists u.lists) j
              (record {
                back = (link_at_back b y (new_node b e h w.next) (claim fs w.lists)).back;
                others = (link_at_back b y (new_node b e h w.next) (claim fs w.lists)).others;
              }));
          node = update_is w.lists.node y x (new_node b e h w.next) j ∙ ap (new_node b e h) k ∙ ap (λ (m : ℕ). new_node (bucket_of g w.reading m) e h n)
              l;
        }

    go : (k : ℕ) → (judged k (act g w (schedule e h)) w).0 ≡ handle x n → Scheduled g w e h d x n (judged k (act g w (schedule e h)) w).1
    go zero a = arm (w.entry e).deadline w.lists.free dated refl a
    go (suc k) a = absurd (let z : ◌≡◌ {A = ℕ} 0 1 = cc in omega arith)

-- "Reschedule .. unlinks, places by the deadline now held, at the back .. Serial and stored generation stay."
pub record Rescheduled (g : Geometry) (w : Wheel) (d x : ℕ) (u : Wheel) : Type 0 where
  pub back : AtBack x (bucket_of g w.reading d) (unlink x w.lists) u.lists
  pub entry : (u.lists.node x).entry ≡ (w.lists.node x).entry
  pub generation : (u.lists.node x).generation ≡ (w.lists.node x).generation
  pub serial : (u.lists.node x).serial ≡ (w.lists.node x).serial

pub reschedule_at_back : (g : Geometry) (w : Wheel) (x n h d : ℕ) → (step g w (reschedule x n h)).0 ≡ ok
    → (w.entry (w.lists.node x).entry).deadline ≡ some d → Rescheduled g w d x (step g w (reschedule x n h)).1
reschedule_at_back g w x n h d a dated = go (refusal g w (reschedule x n h)) a
  where
    again : Rescheduled g w d x (rearmed g w x (some d)).1
    again =
        let b : ℕ = bucket_of g w.reading d in
        let L : Lists = unlink x w.lists in
        let v : Node = placed_in b (w.lists.node x) in
        let i : (link b x v L).node x ≡ v = update_is L.node x x v refl in
        record {
          back = link_at_back b x v L;
          entry = ap (λ (u : Node). u.entry) i;
          generation = ap (λ (u : Node). u.generation) i;
          serial = ap (λ (u : Node). u.serial) i;
        }

    go : (k : ℕ) → (judged k (act g w (reschedule x n h)) w).0 ≡ ok → Rescheduled g w d x (judged k (act g w (reschedule x n h)) w).1
    go zero a = rw dated again
    go (suc k) a = absurd (let z : ◌≡◌ {A = ℕ} 0 1 = cc in omega arith)

-- ---- "On entering a bucket, nodes go front to back until the sentinel is last"
last_app : (z : ℕ) (xs : List ℕ) (y : ℕ) (ys : List ℕ) → is_last z (xs ++ (y ∷ ys)) ≡ is_last z (y ∷ ys)
last_app z [] y ys = refl
last_app z (x ∷ []) y ys = refl
last_app z (x ∷ x' ∷ xs) y ys = last_app z (x' ∷ xs) y ys

last_not : (z : ℕ) (x : ℕ) (xs : List ℕ) → count z (x ∷ xs) ≡ 0 → is_last z (x ∷ xs) ≡ false
last_not z x [] h = ne_eqb z x (λ e. omega (arith, hit_is z x e))
last_not z x (y ∷ ys) h = last_not z y ys (omega arith)

-- part of the way: `seen` has gone to the back, `rest` is left before the sentinel
turning : (z : ℕ) (rest : List ℕ) (y : ℕ) (late seen : List ℕ) (k : ℕ) → count z (y ∷ (late ++ seen)) ≡ 0 → count z rest ≡ 0 → length rest < k
    → turn_until_last z k (rest ++ (z ∷ y ∷ (late ++ seen))) ≡ ((y ∷ late) ++ (seen ++ rest)) ++ (z ∷ [])
turning z rest y late seen zero h r l = absurd (omega arith)
turning z [] y late seen (suc k) h r l =
    rw (last_not z y (late ++ seen) h)
    (done k ∙ ap (λ (xs : List ℕ). ((y ∷ late) ++ xs) ++ (z ∷ [])) (sym (append-nil seen)))
  where
    done : (k : ℕ) → turn_until_last z k ((y ∷ (late ++ seen)) ++ (z ∷ [])) ≡ (y ∷ (late ++ seen)) ++ (z ∷ [])
    done zero = refl
    done (suc k) = rw (last_app z (y ∷ (late ++ seen)) z [] ∙ eq-eqb z z refl)
turning z (x ∷ rest) y late seen (suc k) h r l =
    rw (last_app z (x ∷ rest) z (y ∷ (late ++ seen)) ∙ last_not z y (late ++ seen) h)
    (ap (turn_until_last z k) (append_assoc rest (z ∷ y ∷ (late ++ seen)) (x ∷ []) ∙ ap (λ (xs : List ℕ). rest ++ (z ∷ y ∷ xs)) (append_assoc late seen (x ∷ [])))
    ∙ turning z rest y late (seen ++ (x ∷ [])) k more (omega arith) (omega arith)
    ∙ ap (λ (xs : List ℕ). ((y ∷ late) ++ xs) ++ (z ∷ [])) (append_assoc seen (x ∷ []) rest))
  where
    more : count z (y ∷ (late ++ (seen ++ (x ∷ [])))) ≡ 0
    more = omega (arith, h, r, count_app z late seen, count_app z late (seen ++ (x ∷ [])), count_app z seen (x ∷ []))

-- the sentinel z stands in its bucket once: then the turn is 01's, in as many moves as there are slots
pub turned_by_moves : (z : ℕ) (B : Bucket) → times z B ≡ 0 → turn_until_last z (length (whole z B)) (whole z B) ≡ whole z (turned B)
turned_by_moves z B h = go B.early B.late (omega arith) (omega arith)
  where
    go : (early late : List ℕ) → count z early ≡ 0 → count z late ≡ 0
        → turn_until_last z (length (early ++ (z ∷ late))) (early ++ (z ∷ late)) ≡ (late ++ early) ++ (z ∷ [])
    go early [] i j = stops (length (early ++ (z ∷ [])))
      where
        stops : (k : ℕ) → turn_until_last z k (early ++ (z ∷ [])) ≡ early ++ (z ∷ [])
        stops zero = refl
        stops (suc k) = rw (last_app z early z [] ∙ eq-eqb z z refl)
    go early (y ∷ late) i j =
        ap (λ (xs : List ℕ). turn_until_last z (length (early ++ (z ∷ y ∷ late))) (early ++ (z ∷ y ∷ xs))) (sym (append-nil late))
        ∙ turning z early y late [] (length (early ++ (z ∷ y ∷ late))) (omega (arith, count_app z late [])) i
        (omega (arith, length-append early (z ∷ y ∷ late)))

-- ---- "First in, first out inside a bucket"
-- Where nothing stands before the sentinel, as it is in a bucket that was emptied or never entered, the slots are
-- popped in the order in which they were placed: what
-- is placed last comes last. (Slots before the sentinel, left there by an abandoned advance, come after those placed
-- later: the D, B, C case of proofs/Worked.antt.)
pub first_in_first_out : (x : ℕ) (B : Bucket) → B.early ≡ [] → (turned (pushed x B)).early ≡ (turned B).early ++ (x ∷ [])
first_in_first_out x B h = rw h (append-nil (B.late ++ (x ∷ [])) ∙ ap (λ (xs : List ℕ). xs ++ (x ∷ [])) (sym (append-nil B.late)))
