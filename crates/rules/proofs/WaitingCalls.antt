-- What each call does to a waiting timer that it does not change: the timer goes on waiting, or a pull hands it out.
use Prim.Native.Nat.{ℕ, zero, suc, ◌≤◌, ◌<◌}
use native.Mathlib.Omega.{arith}
use mathlib.Core.Path.{◌≡◌, refl, sym, ap, subst, ◌∙◌}
use mathlib.Core.Logic.{◌⊎◌, inl, inr, ⊎_elim}
use mathlib.Core.Bool.{true, false}
use mathlib.Core.Option.{Option, none, some}
use mathlib.Core.List.{List, [], ◌∷◌}
use borrow.Author.Tests.{eq-eqb, ne_eqb}
use Rattle.rules.specs.Places.{Geometry, tick, bucket_of, visits}
use Rattle.rules.specs.Place.{effective}
use Rattle.rules.specs.Wheel.{Slot as Node, Lists, new_node, placed_in, update, count, link, unlink, release, claim, Advance, closed, poised, within, Wheel}
use Rattle.rules.specs.Wheel.{Call, create, enable, set_entry, schedule, reschedule, deschedule, start, pull, abandon, armed_count, next_due, Answer}
use Rattle.rules.specs.Wheel.{expired, Changes, Later, hands_out}
use Rattle.rules.specs.Calls.{is_open, is_stale, rows, tests_of, AfterPull as Pulled, pulled, with_lists, with_next, armed, rearmed, origin, act, judged}
use Rattle.rules.specs.Runs.{refusal, step, Run, placing, noted}
use Rattle.numbers.proofs.Cases.{below?, same?, not_both}
use Rattle.rules.proofs.Counting.{hit_is, update_not}
use Rattle.rules.proofs.Placing.{Mem, in-time-back, in-time-on, in-time-after, in-time-weak, visits_none}
use Rattle.rules.proofs.Standing.{unlink_release, unlink_link, claim_link, serial_freed, serial_linked}
use Rattle.rules.proofs.Timers.{Due, Stage, Timer, timer_else, Ends, Waiting, Past}
use Rattle.rules.proofs.Pulling.{Stays, Leaves, pulled_poised, pulled_within}
use Rattle.rules.proofs.Passing.{rest, pass_not, ready, fresh, handles}

-- the run after a call c that answers r .0 and leaves r .1
abbrev pub led : Run → Call → Answer × Wheel → Run
led R c r = record { wheel = r.1; placed = noted (placing c r.0) R.wheel.reading R.placed }

-- a call leaves the timer waiting, or hands it out. `late`: if its answer is End, of an advance that entered a later
-- tick, the effective time is after the reading
pub record Waits (g : Geometry) (x e h n d : ℕ) (R : Run) (c : Call) (r : Answer × Wheel) : Type 0 where
  pub waiting : Waiting g x e h n d (led R c r)
  pub quiet : hands_out n r.0 ≡ 0
  pub late : Ends r.0 → Later g (origin R.wheel.advance R.wheel.reading) R.wheel.reading → R.wheel.reading < effective ((led R c r).placed n) d

pub record Goes (g : Geometry) (e n d : ℕ) (R : Run) (c : Call) (r : Answer × Wheel) : Type 0 where
  pub past : Past n (led R c r)
  pub is : r.0 ≡ expired e n d
  pub due : d ≤ R.wheel.reading
  pub later : Later g (origin R.wheel.advance R.wheel.reading) R.wheel.reading

abbrev pub Either : Geometry → ℕ → ℕ → ℕ → ℕ → ℕ → Run → Call → Answer × Wheel → Type 0
Either g x e h n d R c r = Waits g x e h n d R c r ⊎ Goes g e n d R c r

module _ (g : Geometry) (x e h n d : ℕ) (R : Run) (k : Waiting g x e h n d R) where
  -- "A refusal carries its number and no value, and every lent record stays as found."
  refused_keeps : (c : Call) (j : ℕ) (r : Answer × Wheel) → (j ≡ 0 → Either g x e h n d R c r) → Either g x e h n d R c (judged j r R.wheel)
  refused_keeps c zero r f = f refl
  refused_keeps c (suc j) r f = inl (record { waiting = k; quiet = refl; late = λ i. absurd i })

  -- while no advance is open, the stage says nothing of the lists
  still : (t : ℕ) (A : Advance) (L M : Lists) → is_open A ≡ false → Stage g x t k.b R.wheel.reading L A → Stage g x t k.b R.wheel.reading M A
  still t closed L M i s = s
  still t (poised p bs) L M i s = absurd (not_both (sym i))
  still t (within p c bs) L M i s = absurd (not_both (sym i))

  -- the lists change but for the timer, other timers are placed, serials are issued
  keeps : (L : Lists) (m : ℕ) (f : ℕ → ℕ) → f n ≡ R.placed n → is_open R.wheel.advance ≡ false → Timer x e h n k.b L → R.wheel.next ≤ m
      → Waiting g x e h n d (record { wheel = with_next m (with_lists L R.wheel); placed = f })
  keeps L m f i c t j =
      record {
        b = k.b;
        timer = t;
        stage = subst (λ (z : ℕ). Stage g x (effective z d) k.b R.wheel.reading L R.wheel.advance) (sym i)
            (still (effective (R.placed n) d) R.wheel.advance R.wheel.lists L c k.stage);
        dated = k.dated;
        issued = omega (arith, k.issued);
        on = k.on;
      }

  -- ---- set entry
  same_deadline : (i : ℕ) (o : Option ℕ) → ((i ≡ e) × (o ≡ some d → ⊥) → ⊥) → i ≡ e → o ≡ some d
  same_deadline i none f j = absurd (f (j, λ (z : none ≡ some d). let y : ◌≡◌ {A = ℕ} 0 1 = cc in omega arith))
  same_deadline i (some c) f j = ⊎_elim (λ (z : c ≡ d). ap some z) (λ (z : c ≡ d → ⊥). absurd (f (j, λ (y : some c ≡ some d). z (cc)))) (same? c d)

  sets : (i : ℕ) (o : Option ℕ) (m : ℕ) → ((i ≡ e) × (o ≡ some d → ⊥) → ⊥) → Either g x e h n d R (set_entry i o m) (act g R.wheel (set_entry i o m))
  sets i o m f =
      inl (record {
        waiting = record { b = k.b; timer = k.timer; stage = k.stage; dated = dated; issued = k.issued; on = k.on };
        quiet = refl;
        late = λ z. absurd z;
      })
    where
      dated : (update R.wheel.entry i (record { deadline = o; generation = m }) e).deadline ≡ some d
      dated =
          ⊎_elim
          (λ (j : i ≡ e). simp (eq-eqb i e j) (same_deadline i o f j))
          (λ (j : i ≡ e → ⊥). simp (ne_eqb i e j) k.dated)
          (same? i e)

  -- ---- schedule
  arms : (i m : ℕ) (o : Option ℕ) (fs : List ℕ) → R.wheel.lists.free ≡ fs → is_open R.wheel.advance ≡ false
      → Either g x e h n d R (schedule i m) (armed g R.wheel i m o fs)
  arms i m none fs f c = inl (record { waiting = k; quiet = refl; late = λ z. absurd z })
  arms i m (some j) [] f c = inl (record { waiting = k; quiet = refl; late = λ z. absurd z })
  arms i m (some j) (y ∷ fs) f c =
      let w : Wheel = R.wheel in
      let ne : x ≡ y → ⊥ = λ z. omega (arith, ap (count x) f, hit_is x y z, k.timer.at.spare) in
      let b : ℕ = bucket_of g w.reading j in
      let v : Node = new_node b i m w.next in
      inl (record {
        waiting = keeps (link b y v (claim fs w.lists)) (suc w.next) (update R.placed w.next w.reading)
            (update_not R.placed w.next n w.reading (λ z. omega (arith, k.issued))) c
            (timer_else x e h n k.b y w.lists (link b y v (claim fs w.lists)) k.timer (claim_link y w.lists fs f b v) ne
            (λ z. omega (arith, k.issued, sym (serial_linked y b v (claim fs w.lists)) ∙ z)))
            (omega arith);
        quiet = refl;
        late = λ z. absurd z;
      })

  -- ---- reschedule, deschedule: a handle that is taken and is not the timer's is that of another slot, with another
  -- serial
  module _ (y m : ℕ) (f : (y ≡ x) × (m ≡ n) → ⊥) (s : is_stale R.wheel y m ≡ false) where
    other : x ≡ y → ⊥
    other i =
        f (sym i, sym (fresh R.wheel y m s).2 ∙ ap (λ (z : ℕ). (R.wheel.lists.node z).serial) (sym i) ∙ ap (λ (v : Node). v.serial) k.timer.at.says)

    other_serial : (R.wheel.lists.node y).serial ≡ n → ⊥
    other_serial z = other (sym (k.timer.only.armed y (fresh R.wheel y m s).1 z))

    drops : Timer x e h n k.b (release y (unlink y R.wheel.lists))
    drops =
        let L : Lists = R.wheel.lists in
        timer_else x e h n k.b y L (release y (unlink y L)) k.timer (unlink_release y L) other (λ z. other_serial (sym (serial_freed y (unlink y L)) ∙ z))

    rearms_other : (j : ℕ) (o : Option ℕ) → is_open R.wheel.advance ≡ false → Either g x e h n d R (reschedule y m j) (rearmed g R.wheel y o)
    rearms_other j none c =
        inl (record {
          waiting = keeps (release y (unlink y R.wheel.lists)) R.wheel.next R.placed refl c drops (omega arith);
          quiet = refl;
          late =
              λ z. absurd z;
        })
    rearms_other j (some i) c =
        let L : Lists = R.wheel.lists in
        let b : ℕ = bucket_of g R.wheel.reading i in
        let v : Node = placed_in b (L.node y) in
        inl (record {
          waiting = keeps (link b y v (unlink y L)) R.wheel.next (update R.placed m R.wheel.reading)
              (update_not R.placed m n R.wheel.reading (λ z. other_serial ((fresh R.wheel y m s).2 ∙ z))) c
              (timer_else x e h n k.b y L (link b y v (unlink y L)) k.timer (unlink_link y L b v) other
              (λ z. other_serial (sym (serial_linked y b v (unlink y L)) ∙ z)))
              (omega arith);
          quiet = refl;
          late = λ z. absurd z;
        })

  -- ---- start, abandon, pull
  starts : (t q : ℕ) (A : Advance) → is_open A ≡ false → Stage g x t k.b R.wheel.reading R.wheel.lists A
      → Stage g x t k.b q R.wheel.lists (poised R.wheel.reading (visits g R.wheel.reading q))
  starts t q (poised p bs) i s = absurd (not_both (sym i))
  starts t q (within p c bs) i s = absurd (not_both (sym i))
  starts t q closed i s =
      let p : ℕ = R.wheel.reading in
      let sh : ℕ = g.shift in
      ⊎_elim
      (λ (l : Later g p q). (
        s,
        λ c m. l,
        ⊎_elim
            (λ m. inl m)
            (λ u. inr (record { due = in-time-weak sh g.sizes 0 q t k.b u; later = λ j. in-time-after sh g.sizes 0 q t k.b u }))
            (in-time-on 0 sh g.sizes 0 p q t k.b l s),
      ))
      (λ (l : tick sh q ≤ tick sh p). (
        s,
        λ c m. absurd (subst (Mem c) (visits_none sh g.sizes 0 p q l) m),
        inr (record { due = in-time-back 0 sh g.sizes 0 p q t k.b l s; later = λ j. absurd (omega arith) }),
      ))
      (below? (tick sh p) (tick sh q))

  abandons : (t : ℕ) (A : Advance) (q : ℕ) → Stage g x t k.b q R.wheel.lists A → Due g (origin A q) t k.b
  abandons t closed q s = s
  abandons t (poised p bs) q s = s.0
  abandons t (within p c bs) q s = s.0

  abbrev FateAt : Advance → ℕ → Type 0
  FateAt A q =
      let r : Pulled = pulled g R.wheel.entry q A R.wheel.lists in
      Stays g R.wheel.entry x e h n d (origin A q) q R.placed k.dated r.answer r.advance r.lists
      ⊎ Leaves g R.wheel.entry x e h n d (origin A q) q R.placed k.dated r.answer r.lists

  pulls : (A : Advance) (q : ℕ) → Stage g x (effective (R.placed n) d) k.b q R.wheel.lists A → FateAt A q
  pulls closed q s = inl (record { b = k.b; timer = k.timer; stage = s; quiet = refl; late = λ z. absurd z })
  pulls (poised p bs) q s = pulled_poised g R.wheel.entry x e h n d p q R.placed k.dated k.b R.wheel.lists bs k.timer s
  pulls (within p c bs) q s = pulled_within g R.wheel.entry x e h n d p q R.placed k.dated k.b R.wheel.lists c bs k.timer s

  -- every call
  pub each_call : (c : Call) → (Changes x n e d c → refusal g R.wheel c ≡ 0 → ⊥) → Either g x e h n d R c (step g R.wheel c)
  each_call (create m) f = absurd (f tt refl)
  each_call (enable m j b) f =
      refused_keeps (enable m j b) (refusal g R.wheel (enable m j b)) (act g R.wheel (enable m j b))
      (λ z. absurd (not_both (sym (pass_not R.wheel.enabled 1 (rest (rows (tests_of g true R.wheel) (enable m j b))) z).0 ∙ k.on)))
  each_call (set_entry i o m) f =
      refused_keeps (set_entry i o m) (refusal g R.wheel (set_entry i o m)) (act g R.wheel (set_entry i o m)) (λ z. sets i o m (λ j. f j z))
  each_call (schedule i m) f =
      refused_keeps (schedule i m) (refusal g R.wheel (schedule i m)) (act g R.wheel (schedule i m))
      (λ z. arms i m (R.wheel.entry i).deadline R.wheel.lists.free refl
      (ready R.wheel.enabled (is_open R.wheel.advance) (rest (rest (rest (rows (tests_of g true R.wheel) (schedule i m))))) z).1)
  each_call (reschedule y m j) f =
      refused_keeps (reschedule y m j) (refusal g R.wheel (reschedule y m j)) (act g R.wheel (reschedule y m j))
      (λ z.
      let i = handles g R.wheel y m j z in
      rearms_other y m (λ u. f u z) i.2 j (R.wheel.entry (R.wheel.lists.node y).entry).deadline i.1)
  each_call (deschedule y m j) f =
      refused_keeps (deschedule y m j) (refusal g R.wheel (deschedule y m j)) (act g R.wheel (deschedule y m j))
      (λ z.
      let i = handles g R.wheel y m j z in
      inl (record {
        waiting = keeps (release y (unlink y R.wheel.lists)) R.wheel.next R.placed refl i.1 (drops y m (λ u. f u z) i.2) (omega arith);
        quiet = refl;
        late = λ u. absurd u;
      }))
  each_call (start q) f =
      refused_keeps (start q) (refusal g R.wheel (start q)) (act g R.wheel (start q))
      (λ z.
      inl (record {
        waiting = record {
          b = k.b;
          timer = k.timer;
          stage = starts (effective (R.placed n) d) q R.wheel.advance (ready R.wheel.enabled (is_open R.wheel.advance) [] z).1 k.stage;
          dated = k.dated;
          issued = k.issued;
          on = k.on;
        };
        quiet = refl;
        late = λ u. absurd u;
      }))
  each_call pull f =
      refused_keeps pull (refusal g R.wheel pull) (act g R.wheel pull)
      (λ z.
      ⊎_elim
      (λ s.
      inl (record {
        waiting = record { b = s.b; timer = s.timer; stage = s.stage; dated = k.dated; issued = k.issued; on = k.on };
        quiet = s.quiet;
        late = s.late;
      }))
      (λ s. inr (record { past = record { gone = s.gone; issued = k.issued; on = k.on }; is = s.is; due = s.due; later = s.later }))
      (pulls R.wheel.advance R.wheel.reading k.stage))
  each_call abandon f =
      refused_keeps abandon (refusal g R.wheel abandon) (act g R.wheel abandon)
      (λ z.
      inl (record {
        waiting = record {
          b = k.b;
          timer = k.timer;
          stage = abandons (effective (R.placed n) d) R.wheel.advance R.wheel.reading k.stage;
          dated = k.dated;
          issued = k.issued;
          on = k.on;
        };
        quiet = refl;
        late = λ u. absurd u;
      }))
  each_call armed_count f =
      refused_keeps armed_count (refusal g R.wheel armed_count) (act g R.wheel armed_count)
      (λ z. inl (record { waiting = k; quiet = refl; late = λ u. absurd u }))
  each_call next_due f =
      refused_keeps next_due (refusal g R.wheel next_due) (act g R.wheel next_due) (λ z. inl (record { waiting = k; quiet = refl; late = λ u. absurd u }))
