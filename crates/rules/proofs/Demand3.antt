-- Demand 3, proved: over every geometry, every run and every list of calls. The statement is specs/Demand3.antt.
use Prim.Native.Nat.{ℕ, ◌+◌, ◌≤◌, ◌<◌}
use native.Mathlib.Omega.{arith}
use mathlib.Core.Path.{◌≡◌, refl, sym, ap, subst, ◌∙◌}
use mathlib.Core.Logic.{◌⊎◌, inl, inr, ⊎_elim}
use mathlib.Core.Bool.{true, false}
use mathlib.Core.List.{List, [], ◌∷◌, ◌++◌, append_assoc}
use Rattle.rules.specs.Places.{Geometry}
use Rattle.rules.specs.Place.{effective}
use Rattle.rules.specs.Wheel.{Slot as Node, Advance, closed, poised, within, Wheel, Call, create, start, pull, ok, end, expired, Timely, Changes, hands_out}
use Rattle.rules.specs.Wheel.{handed, Later}
use Rattle.rules.specs.Calls.{is_open, origin}
use Rattle.rules.specs.Runs.{refusal, step, Run, answer, next, answers, after}
use Rattle.rules.specs.Demand3.{Arms, Unchanged, NotYet, InOneBucket, StaysOpen, Advancing, Full, NoneBefore, AbandonedOneHad, Demand3}
use Rattle.numbers.proofs.Cases.{below?, not_both}
use Rattle.rules.proofs.Counting.{hit_is}
use Rattle.rules.proofs.Effective.{effective_deadline}
use Rattle.rules.proofs.Timers.{stage_in, Ends, Waiting, Past}
use Rattle.rules.proofs.WaitingCalls.{Waits, Goes, each_call}
use Rattle.rules.proofs.PastCalls.{each_call_past}
use Rattle.rules.proofs.SoundCalls.{sound_created}
use Rattle.rules.proofs.Arming.{Armed, arms_waiting}
use Rattle.rules.proofs.Advances.{Stays, while_open_lem, start_taken, after_app, stays_last, stays_app, stays_prefix, stays_first, advancing_clock}
use Rattle.rules.proofs.Advances.{Opened, opened_by, Closed, closed_by}

-- ---- lists of calls
handed_app : (g : Geometry) (n : ℕ) (R : Run) (cs ds : List Call) → handed n (answers g R (cs ++ ds)) ≡ handed n (answers g R cs) + handed n
    (answers g (after g R cs) ds)
handed_app g n R [] ds = omega arith
handed_app g n R (c ∷ cs) ds = omega (arith, handed_app g n (next g R c) cs ds)

module _ (g : Geometry) (x n e d : ℕ) where
  unchanged_app : (R : Run) (cs ds : List Call) → Unchanged g x n e d R (cs ++ ds) → Unchanged g x n e d R cs × Unchanged g x n e d (after g R cs) ds
  unchanged_app R [] ds u = (tt, u)
  unchanged_app R (c ∷ cs) ds u =
      let r = unchanged_app (next g R c) cs ds u.1 in
      ((u.0, r.0), r.1)

-- the call among them that hands the timer out
record Located (g : Geometry) (n : ℕ) (R : Run) (cs : List Call) : Type 0 where
  bs : List Call
  c : Call
  rest : List Call
  is : cs ≡ bs ++ (c ∷ rest)
  hands : 0 < hands_out n (answer g (after g R bs) c)

located : (g : Geometry) (n : ℕ) (R : Run) (cs : List Call) → 0 < handed n (answers g R cs) → Located g n R cs
located g n R [] h = absurd (omega arith)
located g n R (c ∷ cs) h =
    ⊎_elim
    (λ (i : 0 < hands_out n (answer g R c)). record { bs = []; c = c; rest = cs; is = refl; hands = i })
    (λ (i : hands_out n (answer g R c) ≤ 0).
    let k : Located g n (next g R c) cs = located g n (next g R c) cs (omega arith) in
    record { bs = c ∷ k.bs; c = k.c; rest = k.rest; is = ap (λ (l : List Call). c ∷ l) k.is; hands = k.hands })
    (below? 0 (hands_out n (answer g R c)))

-- nothing more after it has been handed out
silent : (g : Geometry) (x n e d : ℕ) (R : Run) (cs : List Call) → Past n R → Unchanged g x n e d R cs → (handed n (answers g R cs) ≡ 0) × Past n (after g R cs)
silent g x n e d R [] k u = (refl, k)
silent g x n e d R (c ∷ cs) k u =
    let i = each_call_past g n R k x e d c u.0 in
    let j = silent g x n e d (next g R c) cs i.1 u.1 in
    (omega (arith, i.0, j.0), j.1)

module _ (g : Geometry) (x n e d h : ℕ) where
  -- where a list of calls leads: the timer waits and was not handed out, or it was handed out once
  abbrev Led : Run → List Call → Type 0
  Led R cs = ((handed n (answers g R cs) ≡ 0) × Waiting g x e h n d (after g R cs)) ⊎ ((handed n (answers g R cs) ≡ 1) × Past n (after g R cs))

  led_by : (R : Run) (cs : List Call) → Waiting g x e h n d R → Unchanged g x n e d R cs → Led R cs
  led_by R [] k u = inl (refl, k)
  led_by R (c ∷ cs) k u =
      ⊎_elim
      (λ (i : Waits g x e h n d R c (step g R.wheel c)).
      ⊎_elim
      (λ j. inl (omega (arith, i.quiet, j.0), j.1))
      (λ j. inr (omega (arith, i.quiet, j.0), j.1))
      (led_by (next g R c) cs i.waiting u.1))
      (λ (i : Goes g e n d R c (step g R.wheel c)).
      let j = silent g x n e d (next g R c) cs i.past u.1 in
      inr (omega (arith, ap (hands_out n) i.is, hit_is n n refl, j.0), j.1))
      (each_call g x e h n d R k c u.0)

  module _ (R : Run) (k : Waiting g x e h n d R) (shut : is_open R.wheel.advance ≡ false) where
    -- the wheel stays enabled
    enabled_after : (cs : List Call) → Unchanged g x n e d R cs → (after g R cs).wheel.enabled ≡ true
    enabled_after cs u = ⊎_elim (λ j. j.1.on) (λ j. j.1.on) (led_by R cs k u)

    -- ---- the parts
    one_bucket_lem : (cs : List Call) → Unchanged g x n e d R cs → NotYet g n R cs → InOneBucket g x n e (after g R cs).wheel
    one_bucket_lem cs u z =
        let w : Wheel = (after g R cs).wheel in
        ⊎_elim
        (λ j.
        let says = j.1.timer.at.says in (
          ap (λ (v : Node). v.armed) says,
          ap (λ (v : Node). v.serial) says,
          ap (λ (v : Node). v.entry) says,
          (
            j.1.b,
            stage_in g x (effective ((after g R cs).placed n) d) j.1.b w.reading w.lists w.advance j.1.stage,
            j.1.timer.at.stands,
          ),
        ))
        (λ j. absurd (omega (arith, j.0, z)))
        (led_by R cs k u)

    at_most_once_lem : (cs : List Call) → Unchanged g x n e d R cs → handed n (answers g R cs) ≤ 1
    at_most_once_lem cs u = ⊎_elim (λ j. omega (arith, j.0)) (λ j. omega (arith, j.0)) (led_by R cs k u)

    abbrev Said : Run → Call → Type 0
    Said S c = (answer g S c ≡ expired e n d) × (d ≤ S.wheel.reading) × Later g (origin S.wheel.advance S.wheel.reading) S.wheel.reading

    what_it_says : (cs : List Call) (c : Call) → Unchanged g x n e d R cs → (Changes x n e d c → refusal g (after g R cs).wheel c ≡ 0 → ⊥)
        → 0 < hands_out n (answer g (after g R cs) c) → Said (after g R cs) c
    what_it_says cs c u f o =
        let S : Run = after g R cs in
        ⊎_elim
        (λ j.
        ⊎_elim
        (λ (i : Waits g x e h n d S c (step g S.wheel c)). absurd (omega (arith, i.quiet, o)))
        (λ (i : Goes g e n d S c (step g S.wheel c)). (i.is, i.due, i.later))
        (each_call g x e h n d S j.1 c f))
        (λ j. absurd (omega (arith, (each_call_past g n S j.1 x e d c f).0, o)))
        (led_by R cs k u)

    says_so : (cs : List Call) (c : Call) → Unchanged g x n e d R (cs ++ (c ∷ [])) → 0 < hands_out n (answer g (after g R cs) c) → Said (after g R cs) c
    says_so cs c u o =
        let v = unchanged_app g x n e d R cs (c ∷ []) u in
        what_it_says cs c v.0 v.1.0 o

    -- at the end of an advance that goes to the deadline or later and enters a later tick
    at_the_end : (cs : List Call) → Unchanged g x n e d R cs → answer g (after g R cs) pull ≡ end → d ≤ (after g R cs).wheel.reading
        → Later g (origin (after g R cs).wheel.advance (after g R cs).wheel.reading) (after g R cs).wheel.reading → handed n (answers g R cs) ≡ 1
    at_the_end cs u a r l =
        let S : Run = after g R cs in
        ⊎_elim
        (λ j.
        absurd (⊎_elim
        (λ (i : Waits g x e h n d S pull (step g S.wheel pull)).
        omega (arith, i.late (subst Ends (sym a) tt) l, r, effective_deadline ((next g S pull).placed n) d))
        (λ (i : Goes g e n d S pull (step g S.wheel pull)). subst Ends (sym a ∙ i.is) tt)
        (each_call g x e h n d S j.1 pull (λ z. absurd z))))
        (λ j. j.0)
        (led_by R cs k u)

    by_then_lem : (cs : List Call) (q : ℕ) (ps : List Call) → Unchanged g x n e d R (cs ++ (start q ∷ ps)) → Full g d (after g R cs) q ps
        → handed n (answers g R (cs ++ (start q ∷ ps))) ≡ 1
    by_then_lem cs q ps u f =
        let S : Run = after g R (cs ++ (start q ∷ ps)) in
        let i : S ≡ after g (after g R cs) (start q ∷ ps) = after_app g R cs (start q ∷ ps) in
        let r = advancing_clock g (after g R cs) q ps f.0.0 in
        at_the_end (cs ++ (start q ∷ ps)) u (ap (λ (T : Run). answer g T pull) i ∙ f.0.1)
        (omega (arith, f.1, ap (λ (T : Run). T.wheel.reading) i, r.0))
        (later i r)
      where
        later : after g R (cs ++ (start q ∷ ps)) ≡ after g (after g R cs) (start q ∷ ps)
            → ((after g (after g R cs) (start q ∷ ps)).wheel.reading ≡ q) ×
            (origin (after g (after g R cs) (start q ∷ ps)).wheel.advance (after g (after g R cs) (start q ∷ ps)).wheel.reading ≡ (after g R cs).wheel.reading)
            → Later g (origin (after g R (cs ++ (start q ∷ ps))).wheel.advance (after g R (cs ++ (start q ∷ ps))).wheel.reading)
            (after g R (cs ++ (start q ∷ ps))).wheel.reading
        later i r =
            subst (λ (T : Run). Later g (origin T.wheel.advance T.wheel.reading) T.wheel.reading) (sym i)
            (subst (λ (m : ℕ). Later g m (after g (after g R cs) (start q ∷ ps)).wheel.reading) (sym r.1)
            (subst (λ (m : ℕ). Later g (after g R cs).wheel.reading m) (sym r.0) f.2))

    -- "No advance to a reading before the deadline hands it out."
    not_early_lem : (cs : List Call) (q : ℕ) (ps : List Call) → Unchanged g x n e d R (cs ++ (start q ∷ ps)) → Advancing g (after g R cs) q ps → q < d
        → handed n (answers g (after g R cs) (start q ∷ ps)) ≡ 0
    not_early_lem cs q ps u a h =
        ⊎_elim
        (λ (i : 0 < handed n (answers g S ps)). absurd (never (located g n S ps i)))
        (λ (i : handed n (answers g S ps) ≤ 0). omega (arith, ap (hands_out n) a.taken))
        (below? 0 (handed n (answers g S ps)))
      where
        S : Run
        S = next g (after g R cs) (start q)

        never : Located g n S ps → ⊥
        never l =
            let m : cs ++ (start q ∷ ps) ≡ (cs ++ (start q ∷ l.bs)) ++ (l.c ∷ l.rest) =
            ap (λ (z : List Call). cs ++ (start q ∷ z)) l.is ∙ sym (append_assoc cs (start q ∷ l.bs) (l.c ∷ l.rest)) in
            let v = unchanged_app g x n e d R (cs ++ (start q ∷ l.bs)) (l.c ∷ l.rest) (subst (Unchanged g x n e d R) m u) in
            let i : after g R (cs ++ (start q ∷ l.bs)) ≡ after g S l.bs = after_app g R cs (start q ∷ l.bs) in
            let y = what_it_says (cs ++ (start q ∷ l.bs)) l.c v.0 v.1.0 (subst (λ (T : Run). 0 < hands_out n (answer g T l.c)) (sym i) l.hands)
            in
            let b : Advancing g (after g R cs) q l.bs =
            record { taken = a.taken; stays = stays_prefix g S l.bs (l.c ∷ l.rest) (subst (StaysOpen g S) l.is a.stays) } in
            omega (arith, y.1, ap (λ (T : Run). T.wheel.reading) i, (advancing_clock g (after g R cs) q l.bs b).0)

    -- ---- "hands it out once, unless an abandoned one already had"
    -- a call that hands it out finds an advance open, and leaves it open
    finds_open : (S : Run) (c : Call) → Said S c → is_open S.wheel.advance ≡ true
    finds_open S c y = go S.wheel.advance y.2
      where
        go : (A : Advance) → Later g (origin A S.wheel.reading) S.wheel.reading → is_open A ≡ true
        go closed l = absurd (omega arith)
        go (poised p bs) l = refl
        go (within p c bs) l = refl

    leaves_open : (S : Run) (c : Call) → S.wheel.enabled ≡ true → Said S c → is_open (next g S c).wheel.advance ≡ true
    leaves_open S c on y =
        ⊎_elim
        (λ (i : Stays S.wheel (step g S.wheel c).1). i.busy)
        (λ i. absurd (⊎_elim (λ j. other j.1) (λ j. ⊎_elim (λ m. not_ok m.1) (λ m. created m.0 m.1) j) i.1))
        (while_open_lem g S.wheel on (finds_open S c y) c)
      where
        other : answer g S c ≡ end → ⊥
        other i = let z : expired e n d ≡ end = sym y.0 ∙ i in let u : ◌≡◌ {A = ℕ} 0 1 = cc in omega arith

        not_ok : answer g S c ≡ ok → ⊥
        not_ok i = let z : expired e n d ≡ ok = sym y.0 ∙ i in let u : ◌≡◌ {A = ℕ} 0 1 = cc in omega arith

        created : (m : ℕ) → c ≡ create m → ⊥
        created m i = not_ok (ap (answer g S) i)

    -- it was handed out among the calls cs, after which no advance is open: by an advance that goes to the deadline or
    -- later, enters a later tick, and was abandoned or read to its end
    earlier : (cs : List Call) → Unchanged g x n e d R cs → 0 < handed n (answers g R cs) → is_open (after g R cs).wheel.advance ≡ false
        → NoneBefore g d R cs → AbandonedOneHad g n R cs
    earlier cs u o end-shut none =
        let l : Located g n R cs = located g n R cs o in
        let S : Run = after g R l.bs in
        let v = unchanged_app g x n e d R l.bs (l.c ∷ l.rest) (subst (Unchanged g x n e d R) l.is u) in
        let y : Said S l.c = what_it_says l.bs l.c v.0 v.1.0 l.hands in
        let on : S.wheel.enabled ≡ true = enabled_after l.bs v.0 in
        ⊎_elim
        (λ (s : StaysOpen g R l.bs). absurd (not_both (sym shut ∙ stays_first g R l.bs s)))
        (λ (a : Opened g R l.bs).
        found l y a
        (closed_by g (next g S l.c) l.rest (leaves_open S l.c on y)
        (ap (λ (T : Run). is_open T.wheel.advance) (sym (after_app g R l.bs (l.c ∷ l.rest)) ∙ ap (after g R) (sym l.is)) ∙ end-shut)))
        (opened_by g R l.bs (finds_open S l.c y))
      where
        found : (l : Located g n R cs) → Said (after g R l.bs) l.c → (a : Opened g R l.bs) → Closed g (next g (after g R l.bs) l.c) l.rest →
            AbandonedOneHad g n R cs
        found l y a k =
            let S : Run = after g R l.bs in
            let A : Run = after g R a.bs in
            let ps : List Call = a.ps ++ (l.c ∷ k.ps) in
            -- the state where the hand-out is, seen from the advance's start
            let i : S ≡ after g A (start a.q ∷ a.ps) = ap (after g R) a.is ∙ after_app g R a.bs (start a.q ∷ a.ps) in
            let r = advancing_clock g A a.q a.ps a.advancing in
            let adv : Advancing g A a.q ps =
            record {
              taken = a.advancing.taken;
              stays = stays_app g (next g A (start a.q)) a.ps l.c k.ps a.advancing.stays
                  (subst (λ (T : Run). StaysOpen g (next g T l.c) k.ps) i k.stays);
            } in
            -- the whole list of calls, by the advance
            let is : cs ≡ a.bs ++ ((start a.q ∷ ps) ++ (k.c ∷ k.rest)) =
            l.is
            ∙ ap (λ (z : List Call). z ++ (l.c ∷ l.rest)) a.is
            ∙ append_assoc a.bs (start a.q ∷ a.ps) (l.c ∷ l.rest)
            ∙ ap (λ (z : List Call). a.bs ++ (start a.q ∷ (a.ps ++ (l.c ∷ z)))) k.is
            ∙ ap (λ (z : List Call). a.bs ++ (start a.q ∷ z)) (sym (append_assoc a.ps (l.c ∷ k.ps) (k.c ∷ k.rest))) in
            -- the state where it closes
            let T : Run = after g A (start a.q ∷ ps) in
            let j : after g (next g S l.c) k.ps ≡ T =
            ap (λ (U : Run). after g (next g U l.c) k.ps) i ∙ sym (after_app g A (start a.q ∷ a.ps) (l.c ∷ k.ps)) in
            let v = unchanged_app g x n e d R a.bs ((start a.q ∷ ps) ++ (k.c ∷ k.rest)) (subst (Unchanged g x n e d R) is u) in
            let z = unchanged_app g x n e d A (start a.q ∷ ps) (k.c ∷ k.rest) v.1 in
            let on : T.wheel.enabled ≡ true =
            subst (λ (U : Run). U.wheel.enabled ≡ true) (after_app g R a.bs (start a.q ∷ ps))
            (enabled_after (a.bs ++ (start a.q ∷ ps)) (whole a ps (k.c ∷ k.rest) is)) in
            let shut-T : is_open (next g T k.c).wheel.advance ≡ false = subst (λ (U : Run). is_open (next g U k.c).wheel.advance ≡ false) j k.shut in
            ⊎_elim
            (λ (m : Stays T.wheel (step g T.wheel k.c).1). absurd (not_both (sym shut-T ∙ m.busy)))
            (λ m.
            ⊎_elim
            -- read to its end: then it would have been such an advance
            (λ b.
            absurd (none (record {
              bs = a.bs;
              q = a.q;
              ps = ps;
              rest = k.rest;
              is = is ∙ ap (λ (c : Call). a.bs ++ ((start a.q ∷ ps) ++ (c ∷ k.rest)))
                  b.0;
            }) (
              (adv, subst (λ (c : Call). answer g T c ≡ end) b.0 b.1),
              omega (arith, y.1, ap (λ (U : Run). U.wheel.reading) i, r.0),
              later i r
                  y.2,
            )))
            (λ b.
            ⊎_elim
            (λ f. (
              record { bs = a.bs; q = a.q; ps = ps; rest = k.rest; is = is ∙ ap (λ (c : Call). a.bs ++ ((start a.q ∷ ps) ++ (c ∷ k.rest))) f.0 },
              (adv, subst (λ (c : Call). answer g T c ≡ ok) f.0 f.1),
              omega (
                arith,
                handed_app g n R a.bs (start a.q ∷ ps),
                at_most_once_lem (a.bs ++ (start a.q ∷ ps)) (whole a ps (k.c ∷ k.rest) is),
                some_of a l.c k.ps (subst (λ (U : Run). 0 < hands_out n (answer g U l.c)) i l.hands),
              ),
            ))
            (λ f. absurd (subst (λ (c : Call). Changes x n e d c → refusal g T.wheel c ≡ 0 → ⊥) f.1 z.1.0 tt refl))
            b)
            m.1)
            (while_open_lem g T.wheel on (stays_last g (next g A (start a.q)) ps adv.stays) k.c)
          where
            whole : (a : Opened g R l.bs) (ps rest : List Call) → cs ≡ a.bs ++ ((start a.q ∷ ps) ++ rest) → Unchanged g x n e d R
                (a.bs ++ (start a.q ∷ ps))
            whole a ps rest is =
                (unchanged_app g x n e d R (a.bs ++ (start a.q ∷ ps)) rest
                (subst (Unchanged g x n e d R) (is ∙ sym (append_assoc a.bs (start a.q ∷ ps) rest)) u)).0

            some_of : (a : Opened g R l.bs) (c : Call) (ks : List Call) → 0 < hands_out n (answer g (after g (after g R a.bs) (start a.q ∷ a.ps)) c)
                → 0 < handed n (answers g (after g R a.bs) (start a.q ∷ (a.ps ++ (c ∷ ks))))
            some_of a c ks h = omega (arith, handed_app g n (after g R a.bs) (start a.q ∷ a.ps) (c ∷ ks))

            later : after g R l.bs ≡ after g (after g R a.bs) (start a.q ∷ a.ps)
                → ((after g (after g R a.bs) (start a.q ∷ a.ps)).wheel.reading ≡ a.q) ×
                (origin (after g (after g R a.bs) (start a.q ∷ a.ps)).wheel.advance
                (after g (after g R a.bs) (start a.q ∷ a.ps)).wheel.reading ≡ (after g R a.bs).wheel.reading)
                → Later g (origin (after g R l.bs).wheel.advance (after g R l.bs).wheel.reading) (after g R l.bs).wheel.reading
                → Later g (after g R a.bs).wheel.reading a.q
            later i r t =
                subst (λ (m : ℕ). Later g (after g R a.bs).wheel.reading m) r.0
                (subst (λ (m : ℕ). Later g m (after g (after g R a.bs) (start a.q ∷ a.ps)).wheel.reading) r.1
                (subst (λ (T : Run). Later g (origin T.wheel.advance T.wheel.reading) T.wheel.reading) i t))

    first_hands_out_lem : (cs : List Call) (q : ℕ) (ps : List Call) → Unchanged g x n e d R (cs ++ (start q ∷ ps)) → Full g d (after g R cs) q ps → NoneBefore g d
        R cs
        → (handed n (answers g (after g R cs) (start q ∷ ps)) ≡ 1) ⊎ AbandonedOneHad g n R cs
    first_hands_out_lem cs q ps u f none =
        let all : handed n (answers g R (cs ++ (start q ∷ ps))) ≡ 1 = by_then_lem cs q ps u f in
        ⊎_elim
        (λ (i : 0 < handed n (answers g R cs)).
        inr (earlier cs (unchanged_app g x n e d R cs (start q ∷ ps) u).0 i (start_taken g (after g R cs) q f.0.0.taken).0 none))
        (λ (i : handed n (answers g R cs) ≤ 0). inl (omega (arith, handed_app g n R cs (start q ∷ ps))))
        (below? 0 (handed n (answers g R cs)))

    all_parts : Demand3 g x n e d R
    all_parts =
        record {
          one_bucket = one_bucket_lem;
          not_early = not_early_lem;
          first_hands_out = first_hands_out_lem;
          by_then = by_then_lem;
          at_most_once = at_most_once_lem;
          says = says_so;
        }

-- "Let only this wheel's calls write the lent records": a run from a create on, whatever stood there before, with any
-- calls, further creates among them. "Arm or re-arm a timer whose deadline is not in an earlier tick than the wheel's
-- reading": the call c. Then demand 3 holds of it.
pub demand3 : (g : Geometry) (R : Run) (first : ℕ) (cs : List Call) (c : Call) (x n e d : ℕ)
    → Arms g (after g R (create first ∷ cs)).wheel c x n e d
    → Timely g (after g R (create first ∷ cs)).wheel.reading d
    → Demand3 g x n e d (next g (after g R (create first ∷ cs)) c)
demand3 g R first cs c x n e d a t =
    let k : Armed g x e n d (next g (after g R (create first ∷ cs)) c) =
    arms_waiting g (after g R (create first ∷ cs)) (sound_created g R first cs) x n e d t c a in
    all_parts g x n e d k.generation (next g (after g R (create first ∷ cs)) c) k.waiting k.shut
