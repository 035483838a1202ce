-- Every call, refused or not, leaves a sound wheel: "each slot of one kind", "each armed slot in exactly one bucket",
-- and the rest of 01's "Sound means".
-- So refusal 4 does not arise in a run (`sound_created`): it is for records that something else has written.
use Prim.Native.Nat.{ℕ, zero, suc, ◌≤◌, ◌<◌}
use native.Mathlib.Omega.{arith}
use mathlib.Core.Path.{◌≡◌, refl, sym, ap, ◌∙◌}
use mathlib.Core.Logic.{⊎_elim}
use mathlib.Core.Bool.{Bool, true, false, ◌&&◌}
use mathlib.Core.Option.{Option, none, some}
use mathlib.Core.List.{List, [], ◌∷◌}
use lib.Dec.{leb, ltb}
use borrow.Author.Tests.{le-leb, lt-leb, ltb-true}
use Rattle.rules.specs.Places.{Geometry, buckets, bucket_of, ahead}
use Rattle.rules.specs.Wheel.{Lists, new_node, placed_in, count, unlink, release, claim, enter, pop, Entry, Advance, closed, poised, within, Wheel}
use Rattle.rules.specs.Wheel.{Call, create, enable, set_entry, schedule, reschedule, deschedule, start, pull, abandon, armed_count, next_due, Answer}
use Rattle.rules.specs.Calls.{Row, is_open, in_range, rows, tests_of, Found, dealt, emptied, AfterPull as Pulled, stopped, swept, pulled, armed, rearmed}
use Rattle.rules.specs.Calls.{act, judged}
use Rattle.rules.specs.Runs.{refusal, step, Run, next, after}
use Rattle.rules.specs.Sound.{SoundLists, SoundAdvance, Sound, SoundIfEnabled}
use Rattle.numbers.proofs.Cases.{below?, not_both}
use Rattle.rules.proofs.Counting.{hit_is}
use Rattle.rules.proofs.Placing.{bucket_of_in}
use Rattle.rules.proofs.Positions.{NextAt, ahead_start, ahead_next}
use Rattle.rules.proofs.Standing.{pop_release, pop_link, unlink_release, unlink_link, claim_link, At, nowhere, pop_own, unlink_own, early_pop}
use Rattle.rules.proofs.Passing.{rest, pass, pass_not, ready, fresh, handles}
use Rattle.rules.proofs.SoundLists.{at_of, first_free, free_nowhere, sound_freed, sound_placed, sound_enter, sound_bare}

-- ---- a pull: the lists
module _ (g : Geometry) (E : ℕ → Entry) (nodes entries next p q : ℕ) where
  abbrev S : Lists → Type 0
  S L = SoundLists (buckets g) nodes entries next L

  module _ (c y : ℕ) (xs : List ℕ) (L : Lists) (f : (L.bucket c).early ≡ y ∷ xs) (s : SoundLists (buckets g) nodes entries next L) where
    alive : (L.node y).armed ≡ true
    alive = s.member c y (omega (arith, ap (count y) f, hit_is y y refl))

    nowhere_now : At y (L.node y) nowhere (pop c xs L)
    nowhere_now = pop_own y (L.node y) L (L.node y).bucket c xs (at_of (buckets g) nodes entries next y L s alive) f

    pop_freed : SoundLists (buckets g) nodes entries next (release y (pop c xs L))
    pop_freed = sound_freed (buckets g) nodes entries next y L s (pop c xs L) (L.node y) nowhere_now (pop_release y L c xs f) alive

    dealt_sound : (o : Option ℕ) (r : Found) → S r.1 → S (dealt g q y o (pop c xs L) r).1
    dealt_sound none r k = k
    dealt_sound (some j) r k =
        let b : ℕ = bucket_of g q j in
        ⊎_elim
        (λ (i : q < j).
        simp (lt-leb j q i)
        (sound_placed (buckets g) nodes entries next y L s next (omega arith) (pop c xs L) (L.node y) b (placed_in b (L.node y)) refl refl nowhere_now
        (pop_link y L c xs f b (placed_in b (L.node y))) (s.slot y alive) (bucket_of_in g q j) (s.entry y alive) (s.below y alive)
        (λ z ne l e. ne (s.differ z y l alive e))))
        (λ (i : j ≤ q). simp (le-leb j q i) pop_freed)
        (below? q j)

  emptied_sound : (c : ℕ) (xs : List ℕ) (L : Lists) → (L.bucket c).early ≡ xs → S L → S (emptied g E q c xs L).1
  emptied_sound c [] L f s = s
  emptied_sound c (y ∷ xs) L f s =
      dealt_sound c y xs L f s (E (L.node y).entry).deadline (emptied g E q c xs (release y (pop c xs L)))
      (emptied_sound c xs (release y (pop c xs L)) (early_pop c xs L) (pop_freed c y xs L f s))

  stopped_sound : (c : ℕ) (bs : List ℕ) (o : Option Answer) (L : Lists) (r : Pulled) → S L → (S L → S r.lists) → S (stopped p c bs o L r).lists
  stopped_sound c bs none L r s k = k s
  stopped_sound c bs (some a) L r s k = s

  swept_sound : (bs : List ℕ) (L : Lists) → S L → S (swept g E p q bs L).lists
  swept_sound [] L s = s
  swept_sound (c ∷ bs) L s =
      let r : Found = emptied g E q c ((enter c L).bucket c).early (enter c L) in
      stopped_sound c bs r.0 r.1 (swept g E p q bs r.1)
      (emptied_sound c ((enter c L).bucket c).early (enter c L) refl (sound_enter (buckets g) nodes entries next c L s))
      (λ i. swept_sound bs r.1 i)

  within_sound : (c : ℕ) (bs : List ℕ) (L : Lists) → S L → S (pulled g E q (within p c bs) L).lists
  within_sound c bs L s =
      let r : Found = emptied g E q c (L.bucket c).early L in
      stopped_sound c bs r.0 r.1 (swept g E p q bs r.1) (emptied_sound c (L.bucket c).early L refl s) (λ i. swept_sound bs r.1 i)

pub pulled_sound : (g : Geometry) (E : ℕ → Entry) (nodes entries next q : ℕ) (A : Advance) (L : Lists) → SoundLists (buckets g) nodes entries next L
    → SoundLists (buckets g) nodes entries next (pulled g E q A L).lists
pulled_sound g E nodes entries next q closed L s = s
pulled_sound g E nodes entries next q (poised p bs) L s = swept_sound g E nodes entries next p q bs L s
pulled_sound g E nodes entries next q (within p c bs) L s = within_sound g E nodes entries next p q c bs L s

-- ---- a pull: the advance stands in a bucket that it visits, or is closed
module _ (g : Geometry) (E : ℕ → Entry) (p q : ℕ) where
  abbrev A? : Pulled → Type 0
  A? r = SoundAdvance g q r.advance

  stopped_at : (c : ℕ) (bs : List ℕ) (o : Option Answer) (L : Lists) (r : Pulled) → SoundAdvance g q (within p c bs) → A? r → A? (stopped p c bs o L r)
  stopped_at c bs none L r s k = k
  stopped_at c bs (some a) L r s k = s

  swept_at : (l j : ℕ) (bs : List ℕ) (L : Lists) → ahead g p q l j ≡ bs → A? (swept g E p q bs L)
  swept_at l j [] L h = tt
  swept_at l j (c ∷ bs) L h =
      let r : Found = emptied g E q c ((enter c L).bucket c).early (enter c L) in
      let k : NextAt g p q c bs = ahead_next g p q l j c bs h in
      stopped_at c bs r.0 r.1 (swept g E p q bs r.1) (k.level, k.done, k.visits, k.is, k.rest)
      (swept_at k.level (suc k.done) bs r.1 (sym k.rest))

pub pulled_at : (g : Geometry) (E : ℕ → Entry) (q : ℕ) (A : Advance) (L : Lists) → SoundAdvance g q A → SoundAdvance g q (pulled g E q A L).advance
pulled_at g E q closed L s = tt
pulled_at g E q (poised p bs) L s = swept_at g E p q 0 0 bs L (ahead_start g.shift g.sizes 0 p q ∙ sym s)
pulled_at g E q (within p c bs) L s =
    let r : Found = emptied g E q c (L.bucket c).early L in
    stopped_at g E p q c bs r.0 r.1 (swept g E p q bs r.1) s (swept_at g E p q s.0 (suc s.1) bs r.1 (sym s.4))

-- ---- the other calls
module _ (g : Geometry) (w : Wheel) (s : Sound g w) where
  abbrev D : ℕ
  D = buckets g

  pub arms : (e h : ℕ) (o : Option ℕ) (fs : List ℕ) → w.lists.free ≡ fs → e < w.entries → Sound g (armed g w e h o fs).1
  arms e h none fs f i = s
  arms e h (some d) [] f i = s
  arms e h (some d) (y ∷ fs) f i =
      let L : Lists = w.lists in
      let b : ℕ = bucket_of g w.reading d in
      let v = first_free D w.nodes w.entries w.next y L s.lists fs f in
      record {
        lists = sound_placed D w.nodes w.entries w.next y L s.lists (suc w.next) (omega arith) (claim fs L) (L.node y) b
            (new_node b e h w.next) refl refl
            (free_nowhere D w.nodes w.entries w.next y L s.lists fs f) (claim_link y L fs f b (new_node b e h w.next)) (v.0, v.1)
            (bucket_of_in g w.reading d) i (omega arith) (λ z ne l k. omega (arith, s.lists.below z l));
        advance = s.advance;
      }

  module _ (y : ℕ) (l : (w.lists.node y).armed ≡ true) where
    out : At y (w.lists.node y) nowhere (unlink y w.lists)
    out =
        unlink_own y (w.lists.node y) w.lists (w.lists.node y).bucket refl
        (at_of (buckets g) w.nodes w.entries w.next y w.lists s.lists l)

    pub drops : SoundLists (buckets g) w.nodes w.entries w.next (release y (unlink y w.lists))
    drops = sound_freed (buckets g) w.nodes w.entries w.next y w.lists s.lists (unlink y w.lists) (w.lists.node y) out
        (unlink_release y w.lists) l

    rearms : (o : Option ℕ) → Sound g (rearmed g w y o).1
    rearms none = record { lists = drops; advance = s.advance }
    rearms (some d) =
        let L : Lists = w.lists in
        let b : ℕ = bucket_of g w.reading d in
        record {
          lists = sound_placed D w.nodes w.entries w.next y L s.lists w.next (omega arith) (unlink y L) (L.node y) b (placed_in b (L.node y))
              refl refl out
              (unlink_link y L b (placed_in b (L.node y))) (s.lists.slot y l) (bucket_of_in g w.reading d) (s.lists.entry y l) (s.lists.below y l)
              (λ z ne k e. ne (s.lists.differ z y k l e));
          advance = s.advance;
        }

-- lent lengths in the range leave room for the sentinels
in-range : (g : Geometry) (m k : ℕ) (fits : Bool) → in_range g m k fits ≡ true → buckets g ≤ m
in-range g m k fits i = go fits (ltb (buckets g) m) (leb m 4096 && (ltb 0 k && leb k 4096)) refl i
  where
    go : (f r t : Bool) → ltb (buckets g) m ≡ r → f && (r && t) ≡ true → buckets g ≤ m
    go true true t e j = omega (arith, ltb-true (buckets g) m e)
    go true false t e j = absurd (not_both j)
    go false r t e j = absurd (not_both j)

module _ (g : Geometry) (w : Wheel) (s : SoundIfEnabled g w) where
  refused_sound : (j : ℕ) (r : Answer × Wheel) → (j ≡ 0 → SoundIfEnabled g r.1) → SoundIfEnabled g (judged j r w).1
  refused_sound zero r f = f refl
  refused_sound (suc j) r f = s

  -- every call
  pub sound_step : (c : Call) → SoundIfEnabled g (step g w c).1
  sound_step (create m) = λ i. absurd (not_both i)
  sound_step (enable m j b) =
      refused_sound (refusal g w (enable m j b)) (act g w (enable m j b))
      (λ z i.
      let ts : List (Row Bool) = (in_range g m j b, 3) ∷ [] in
      record { lists = sound_bare (buckets g) m j w.next (in-range g m j b (pass (in_range g m j b) 2 [] (pass_not w.enabled 1 ts z).1).0); advance = tt })
  sound_step (set_entry i o m) =
      refused_sound (refusal g w (set_entry i o m)) (act g w (set_entry i o m)) (λ z u. record { lists = (s u).lists; advance = (s u).advance })
  sound_step (schedule i m) =
      refused_sound (refusal g w (schedule i m)) (act g w (schedule i m))
      (λ z u.
      let ts : List (Row Bool) = rest (rest (rest (rows (tests_of g true w) (schedule i m)))) in
      let r = ready w.enabled (is_open w.advance) ts z in
      arms g w (s r.0) i m (w.entry i).deadline w.lists.free refl (ltb-true i w.entries (pass (ltb i w.entries) 6 (rest ts) r.2).0))
  sound_step (reschedule y m j) =
      refused_sound (refusal g w (reschedule y m j)) (act g w (reschedule y m j))
      (λ z u.
      let i = handles g w y m j z in
      rearms g w (s i.0) y (fresh w y m i.2).1 (w.entry (w.lists.node y).entry).deadline)
  sound_step (deschedule y m j) =
      refused_sound (refusal g w (deschedule y m j)) (act g w (deschedule y m j))
      (λ z u.
      let i = handles g w y m j z in
      record { lists = drops g w (s i.0) y (fresh w y m i.2).1; advance = (s i.0).advance })
  sound_step (start q) =
      refused_sound (refusal g w (start q)) (act g w (start q)) (λ z u. record { lists = (s u).lists; advance = refl })
  sound_step pull =
      refused_sound (refusal g w pull) (act g w pull)
      (λ z i.
      record {
        lists = pulled_sound g w.entry w.nodes w.entries w.next w.reading w.advance w.lists (s i).lists;
        advance = pulled_at g w.entry w.reading w.advance w.lists (s i).advance;
      })
  sound_step abandon =
      refused_sound (refusal g w abandon) (act g w abandon) (λ z u. record { lists = (s u).lists; advance = tt })
  sound_step armed_count = refused_sound (refusal g w armed_count) (act g w armed_count) (λ z. s)
  sound_step next_due = refused_sound (refusal g w next_due) (act g w next_due) (λ z. s)

-- every list of calls
pub sound_after : (g : Geometry) (R : Run) (cs : List Call) → SoundIfEnabled g R.wheel → SoundIfEnabled g (after g R cs).wheel
sound_after g R [] s = s
sound_after g R (c ∷ cs) s = sound_after g (next g R c) cs (sound_step g R.wheel s c)

-- from a create on, whatever stood there before
pub sound_created : (g : Geometry) (R : Run) (first : ℕ) (cs : List Call) → SoundIfEnabled g (after g R (create first ∷ cs)).wheel
sound_created g R first cs = sound_after g (next g R (create first)) cs (λ i. absurd (not_both i))
