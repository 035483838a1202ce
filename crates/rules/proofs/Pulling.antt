-- What a pull does to a waiting timer: it stays and waits, or it is handed out.
use Prim.Native.Nat.{ℕ, ◌≤◌, ◌<◌}
use native.Mathlib.Omega.{arith}
use mathlib.Core.Path.{◌≡◌, refl, sym, ap, subst, ◌∙◌}
use mathlib.Core.Logic.{◌⊎◌, inl, inr, ⊎_elim}
use mathlib.Core.Option.{Option, none, some}
use mathlib.Core.List.{List, [], ◌∷◌}
use borrow.Author.Tests.{eq-eqb, le-leb, lt-leb}
use Rattle.rules.specs.Places.{Geometry, bucket_of}
use Rattle.rules.specs.Place.{effective}
use Rattle.rules.specs.Lists.{times}
use Rattle.rules.specs.Wheel.{Slot as Node, Lists, new_node, placed_in, hit, count, link, release, enter, pop, Entry, Advance, poised, within, pull, Answer}
use Rattle.rules.specs.Wheel.{expired, Later, hands_out}
use Rattle.rules.specs.Calls.{Found, dealt, emptied, AfterPull as Pulled, stopped, swept, pulled}
use Rattle.rules.specs.Runs.{placing, noted}
use Rattle.numbers.proofs.Cases.{below?, same?}
use Rattle.rules.proofs.Counting.{hit_is, hit_not, update_is, update_not}
use Rattle.rules.proofs.Ticks.{tick_mono}
use Rattle.rules.proofs.Placing.{Mem, in-time-back}
use Rattle.rules.proofs.Effective.{effective_late, effective_placed}
use Rattle.rules.proofs.Standing.{enter_same, pop_release, pop_link, At, Gone, at_same, bearers_enter, bearers_else, nowhere, pop_own, link_own}
use Rattle.rules.proofs.Standing.{gone, serial_freed, serial_linked, early_link, early_pop}
use Rattle.rules.proofs.Timers.{Due, Settled, Stage, Timer, timer_else, Ends}

-- the timer x of the entry e, with the deadline d, in an advance from p to q; f holds the readings at last placings
-- before the pull
module _ (g : Geometry) (E : ℕ → Entry) (x e h n d p q : ℕ) (f : ℕ → ℕ) (dated : (E e).deadline ≡ some d) where
  -- its effective time, before the pull and after an answer
  abbrev now : ℕ
  now = effective (f n) d

  abbrev pub then : Answer → ℕ
  then a = effective (noted (placing pull a) q f n) d

  pub record Stays (a : Answer) (A : Advance) (L : Lists) : Type 0 where
    pub b : ℕ
    pub timer : Timer x e h n b L
    pub stage : Stage g x (then a) b q L A
    pub quiet : hands_out n a ≡ 0
    pub late : Ends a → Later g p q → q < then a

  pub record Leaves (a : Answer) (L : Lists) : Type 0 where
    pub is : a ≡ expired e n d
    pub due : d ≤ q
    pub later : Later g p q
    pub gone : Gone n L

  abbrev pub Fate : Answer → Advance → Lists → Type 0
  Fate a A L = Stays a A L ⊎ Leaves a L

  -- after the slots before the sentinel of c: an event and the fate that it brings, or none
  abbrev Emptied : ℕ → List ℕ → Option Answer → Lists → Type 0
  Emptied c bs none L = (b : ℕ) × Timer x e h n b L × Due g p now b × (Mem b bs ⊎ Settled g p q now b)
  Emptied c bs (some a) L = Fate a (within p c bs) L

  -- x itself is popped
  own : (b c : ℕ) (bs xs : List ℕ) (L : Lists) (r : Found) → (L.bucket c).early ≡ x ∷ xs → Timer x e h n b L → Later g p q
      → Emptied c bs (dealt g q x (E (L.node x).entry).deadline (pop c xs L) r).0 (dealt g q x (E (L.node x).entry).deadline (pop c xs L) r).1
  own b c bs xs L r i t l =
      let k : (E (L.node x).entry).deadline ≡ some d = ap (λ (v : Node). (E v.entry).deadline) t.at.says ∙ dated in
      let a : At x (new_node b e h n) nowhere (pop c xs L) = pop_own x (new_node b e h n) L b c xs t.at i in
      rw k
      (⊎_elim
      (λ (j : d ≤ q).
      simp (le-leb d q j)
      (inr (record {
        is = ap (λ (v : Node). expired v.entry v.serial d) t.at.says;
        due = j;
        later = l;
        gone = gone n x (new_node b e h n) L (pop c xs L) t.only (pop_release x L c xs i) a;
      })))
      (λ (j : q < d).
      let c' : ℕ = bucket_of g q d in
      let v : Node = placed_in c' (L.node x) in
      let m : At x v (hit c') (link c' x v (pop c xs L)) = link_own x (new_node b e h n) (pop c xs L) c' v a in
      let t' : ℕ = effective q d in
      let z : Due g q t' c' = effective_placed g q d (tick_mono g.shift q d (omega arith)) in
      let u : t' ≡ effective (noted (some (L.node x).serial) q f n) d =
      ap (λ (k : ℕ). effective k d) (sym (update_is f (L.node x).serial n q (ap (λ (v : Node). v.serial) t.at.says))) in
      simp (lt-leb d q j)
      (inl (record {
        b = c';
        timer = record {
          at = record { stands = m.stands; spare = m.spare; says = m.says ∙ ap (placed_in c') t.at.says };
          only = bearers_else n (λ (y : ℕ). y ≡ x) x L (link c' x v (pop c xs L)) t.only (pop_link x L c xs i c' v) (λ k. refl);
        };
        stage = subst (λ (k : ℕ). Stage g x k c' q (link c' x v (pop c xs L)) (within p c bs)) u
            (in-time-back 0 g.shift g.sizes 0 q p t' c' (omega arith) z, l, inr (record { due = z; later = λ k. omega (arith, effective_late q d) }));
        quiet = refl;
        late = λ k. absurd k;
      })))
      (⊎_elim (λ (j : q < d). inr j) (λ (j : d ≤ q). inl j) (below? q d)))

  module _ (b c : ℕ) (bs xs : List ℕ) (y : ℕ) (L : Lists) (i : (L.bucket c).early ≡ y ∷ xs) (t : Timer x e h n b L) (u : Due g p (effective (f n) d) b)
      (l : Later g p q)
      (ne : x ≡ y → ⊥) (s : (Mem b bs ⊎ (0 < count x xs)) ⊎ Settled g p q (effective (f n) d) b) where
    -- the slot popped has another serial
    other_serial : (L.node y).serial ≡ n → ⊥
    other_serial j = ne (sym (t.only.standing c y (omega (arith, ap (count y) i, hit_is y y refl)) j))

    -- x stands before the sentinel as it did
    stage_kept : (N : Lists) → (N.bucket c).early ≡ xs → Stage g x (effective (f n) d) b q N (within p c bs)
    stage_kept N j = (u, l, ⊎_elim (λ k. inl (⊎_elim (λ m. inl m) (λ (m : 0 < count x xs). inr (omega (arith, ap (count x) j))) k)) (λ k. inr k) s)

    timer_freed : Timer x e h n b (release y (pop c xs L))
    timer_freed =
        timer_else x e h n b y L (release y (pop c xs L)) t (pop_release y L c xs i) ne (λ j. other_serial (sym (serial_freed y (pop c xs L)) ∙ j))

    -- another slot y is popped
    other : (o : Option ℕ) (r : Found) → Emptied c bs r.0 r.1 → Emptied c bs (dealt g q y o (pop c xs L) r).0 (dealt g q y o (pop c xs L) r).1
    other none r w = w
    other (some j) r w =
        ⊎_elim
        (λ (k : j ≤ q).
        simp (le-leb j q k)
        (inl (record {
          b = b;
          timer = timer_freed;
          stage = stage_kept (release y (pop c xs L)) (early_pop c xs L);
          quiet = hit_not n (L.node y).serial (λ m. other_serial (sym m));
          late = λ m. absurd m;
        })))
        (λ (k : q < j).
        let c' : ℕ = bucket_of g q j in
        let v : Node = placed_in c' (L.node y) in
        let N : Lists = link c' y v (pop c xs L) in
        simp (lt-leb j q k)
        (inl (record {
          b = b;
          timer = timer_else x e h n b y L N t (pop_link y L c xs i c' v) ne (λ m. other_serial (sym (serial_linked y c' v (pop c xs L)) ∙ m));
          stage = subst (λ (m : ℕ). Stage g x (effective m d) b q N (within p c bs)) (sym (update_not f (L.node y).serial n q other_serial))
              (stage_kept N (early_link c' y c v (pop c xs L) ∙ early_pop c xs L));
          quiet = refl;
          late = λ m. absurd m;
        })))
        (⊎_elim (λ (k : q < j). inr k) (λ (k : j ≤ q). inl k) (below? q j))

  -- the slots xs before the sentinel of c
  emptied_fate : (b c : ℕ) (bs xs : List ℕ) (L : Lists) → (L.bucket c).early ≡ xs → Timer x e h n b L → Due g p now b → Later g p q
      → (Mem b bs ⊎ (0 < count x xs)) ⊎ Settled g p q now b → Emptied c bs (emptied g E q c xs L).0 (emptied g E q c xs L).1
  emptied_fate b c bs [] L i t u l s =
      (b, t, u, ⊎_elim (λ k. ⊎_elim (λ m. inl m) (λ (m : 0 < 0). absurd (omega arith)) k) (λ k. inr k) s)
  emptied_fate b c bs (y ∷ xs) L i t u l s =
      ⊎_elim
      (λ (j : x ≡ y).
      subst
      (λ (z : ℕ).
      Emptied c bs (dealt g q z (E (L.node z).entry).deadline (pop c xs L) (emptied g E q c xs (release y (pop c xs L)))).0
      (dealt g q z (E (L.node z).entry).deadline (pop c xs L) (emptied g E q c xs (release y (pop c xs L)))).1)
      j
      (own b c bs xs L (emptied g E q c xs (release y (pop c xs L))) (i ∙ ap (λ (z : ℕ). z ∷ xs) (sym j)) t l))
      (λ (ne : x ≡ y → ⊥).
      let s' : (Mem b bs ⊎ (0 < count x xs)) ⊎ Settled g p q now b =
      ⊎_elim (λ k. inl (⊎_elim (λ m. inl m) (λ (m : 0 < count x (y ∷ xs)). inr (omega (arith, hit_not x y ne))) k)) (λ k. inr k) s in
      other b c bs xs y L i t u l ne s' (E (L.node y).entry).deadline (emptied g E q c xs (release y (pop c xs L)))
      (emptied_fate b c bs xs (release y (pop c xs L)) (early_pop c xs L) (timer_freed b c bs xs y L i t u l ne s') u l s'))
      (same? x y)

  -- ---- the buckets that are yet to be entered
  abbrev pub FateOf : Pulled → Type 0
  FateOf r = Fate r.answer r.advance r.lists

  stopped_fate : (c : ℕ) (bs : List ℕ) (o : Option Answer) (L : Lists) (r : Pulled) → Emptied c bs o L → (Emptied c bs none L → FateOf r) → FateOf
      (stopped p c bs o L r)
  stopped_fate c bs none L r w k = k w
  stopped_fate c bs (some a) L r w k = w

  swept_fate : (b : ℕ) (bs : List ℕ) (L : Lists) → Timer x e h n b L → Due g p now b → ((c : ℕ) → Mem c bs → Later g p q) → Mem b bs ⊎ Settled g p q now b →
      FateOf (swept g E p q bs L)
  swept_fate b [] L t u l s =
      ⊎_elim (λ (k : ⊥). absurd k) (λ (k : Settled g p q now b). inl (record { b = b; timer = t; stage = k.due; quiet = refl; late = λ i. k.later })) s
  swept_fate b (c ∷ bs) L t u l s =
      let t' : Timer x e h n b (enter c L) =
      record { at = at_same x (new_node b e h n) (hit b) L (enter c L) t.at (enter_same x c L); only = bearers_enter n (λ (y : ℕ). y ≡ x) c L t.only } in
      let s' : (Mem b bs ⊎ (0 < count x ((enter c L).bucket c).early)) ⊎ Settled g p q now b =
      ⊎_elim
      (λ (k : (b ≡ c) ⊎ Mem b bs).
      inl (⊎_elim (λ (i : b ≡ c). inr (all_early t'.at i)) (λ (i : Mem b bs). inl i) k))
      (λ (k : Settled g p q now b). inr k) s in
      let r : Found = emptied g E q c ((enter c L).bucket c).early (enter c L) in
      stopped_fate c bs r.0 r.1 (swept g E p q bs r.1)
      (emptied_fate b c bs ((enter c L).bucket c).early (enter c L) refl t' u (l c (inl refl)) s')
      (λ w. swept_fate w.0 bs r.1 w.1 w.2 (λ i m. l i (inr m)) w.3)
    where
      -- on entering its bucket, the timer stands before the sentinel
      all_early : At x (new_node b e h n) (hit b) (enter c L) → b ≡ c → 0 < count x ((enter c L).bucket c).early
      all_early a i =
          let z : times x ((enter c L).bucket c) ≡ count x ((enter c L).bucket c).early = rw (eq-eqb c c refl) (omega arith) in
          omega (arith, a.stands c, hit_is b c i)

  -- a pull, from before the first bucket and from within one
  pub pulled_poised : (b : ℕ) (L : Lists) (bs : List ℕ) → Timer x e h n b L → Stage g x (effective (f n) d) b q L (poised p bs) → FateOf
      (pulled g E q (poised p bs) L)
  pulled_poised b L bs t s = swept_fate b bs L t s.0 s.1 s.2

  pub pulled_within : (b : ℕ) (L : Lists) (c : ℕ) (bs : List ℕ) → Timer x e h n b L → Stage g x (effective (f n) d) b q L (within p c bs) → FateOf
      (pulled g E q (within p c bs) L)
  pulled_within b L c bs t s =
      let r : Found = emptied g E q c (L.bucket c).early L in
      stopped_fate c bs r.0 r.1 (swept g E p q bs r.1)
      (emptied_fate b c bs (L.bucket c).early L refl t s.0 s.1 s.2)
      (λ w. swept_fate w.0 bs r.1 w.1 w.2 (λ i m. s.1) w.3)
