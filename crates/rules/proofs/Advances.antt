-- Advances as parts of a run: where they open, what keeps them open, what closes them.
use Prim.Native.Nat.{ℕ, zero, suc}
use native.Mathlib.Omega.{arith}
use mathlib.Core.Path.{◌≡◌, refl, sym, ap, subst, ◌∙◌}
use mathlib.Core.Logic.{◌⊎◌, inl, inr, ⊎_elim}
use mathlib.Core.Bool.{Bool, true, false}
use mathlib.Core.Option.{Option, none, some}
use mathlib.Core.List.{List, [], ◌∷◌, ◌++◌}
use Rattle.rules.specs.Places.{Geometry}
use Rattle.rules.specs.Wheel.{Lists, enter, Entry, Advance, closed, poised, within, Wheel, Call, create, enable, set_entry, schedule, reschedule}
use Rattle.rules.specs.Wheel.{deschedule, start, pull, abandon, armed_count, next_due, Answer, ok, end}
use Rattle.rules.specs.Calls.{is_open, rows, tests_of, Found, emptied, AfterPull as Pulled, stopped, swept, pulled, armed, rearmed, origin, act, judged}
use Rattle.rules.specs.Runs.{refusal, step, Run, answer, next, after}
use Rattle.rules.specs.Demand3.{StaysOpen, Advancing}
use Rattle.numbers.proofs.Cases.{not_both}
use Rattle.rules.proofs.Passing.{rest, pass_not, ready, running}

-- ---- a pull answers End and closes the advance, or stays within a bucket of it
module _ (g : Geometry) (E : ℕ → Entry) (p q : ℕ) where
  abbrev Left : Pulled → Type 0
  Left r = ((r.answer ≡ end) × (r.advance ≡ closed)) ⊎ ((c : ℕ) × (bs : List ℕ) × (r.advance ≡ within p c bs))

  stopped_left : (c : ℕ) (bs : List ℕ) (o : Option Answer) (L : Lists) (r : Pulled) → Left r → Left (stopped p c bs o L r)
  stopped_left c bs none L r k = k
  stopped_left c bs (some a) L r k = inr (c, bs, refl)

  swept_left : (bs : List ℕ) (L : Lists) → Left (swept g E p q bs L)
  swept_left [] L = inl (refl, refl)
  swept_left (c ∷ bs) L =
      let r : Found = emptied g E q c ((enter c L).bucket c).early (enter c L) in
      stopped_left c bs r.0 r.1 (swept g E p q bs r.1) (swept_left bs r.1)

  within_left : (c : ℕ) (bs : List ℕ) (L : Lists) → Left (pulled g E q (within p c bs) L)
  within_left c bs L =
      let r : Found = emptied g E q c (L.bucket c).early L in
      stopped_left c bs r.0 r.1 (swept g E p q bs r.1) (swept_left bs r.1)

-- ---- a call while an advance is open
-- it stays open, to the same reading and from the same one
pub record Stays (w u : Wheel) : Type 0 where
  pub on : u.enabled ≡ true
  pub busy : is_open u.advance ≡ true
  pub reading : u.reading ≡ w.reading
  pub origin : origin u.advance u.reading ≡ origin w.advance w.reading

-- the call closes it: a pull that answers End, an abandon, or a create
abbrev pub Closes : Geometry → Wheel → Call → Type 0
Closes g w c =
    ((c ≡ pull) × ((step g w c).0 ≡ end)) ⊎ (((c ≡ abandon) × ((step g w c).0 ≡ ok)) ⊎ ((m : ℕ) × (c ≡ create m)))

module _ (g : Geometry) (w : Wheel) (on : w.enabled ≡ true) (busy : is_open w.advance ≡ true) where
  same : Stays w w
  same = record { on = on; busy = busy; reading = refl; origin = refl }

  -- a call that is refused, or would be if an advance is open
  refused_stays : (j : ℕ) (r : Answer × Wheel) → (j ≡ 0 → ⊥) → Stays w (judged j r w).1
  refused_stays zero r f = absurd (f refl)
  refused_stays (suc j) r f = same

  looks : (j : ℕ) (r : Answer × Wheel) → r.1 ≡ w → Stays w (judged j r w).1
  looks zero r f = subst (λ (u : Wheel). Stays w u) (sym f) same
  looks (suc j) r f = same

  -- what a pull leaves
  pulled_stays : (A : Advance) (q : ℕ) → is_open A ≡ true
      → let r : Pulled = pulled g w.entry q A w.lists in
      ((r.answer ≡ end) × (r.advance ≡ closed)) ⊎ ((is_open r.advance ≡ true) × (origin r.advance q ≡ origin A q))
  pulled_stays closed q i = absurd (not_both i)
  pulled_stays (poised p bs) q i =
      ⊎_elim (λ k. inl k) (λ k. inr (ap is_open k.2, ap (λ (A : Advance). origin A q) k.2)) (swept_left g w.entry p q bs w.lists)
  pulled_stays (within p c bs) q i =
      ⊎_elim (λ k. inl k) (λ k. inr (ap is_open k.2, ap (λ (A : Advance). origin A q) k.2)) (within_left g w.entry p q c bs w.lists)

  pull_taken : refusal g w pull ≡ 0
  pull_taken = rw (on, busy)

  abandon_taken : refusal g w abandon ≡ 0
  abandon_taken = rw (on, busy)

  pub while_open_lem : (c : Call) → Stays w (step g w c).1 ⊎ ((is_open (step g w c).1.advance ≡ false) × Closes g w c)
  while_open_lem (create m) = inr (refl, inr (inr (m, refl)))
  while_open_lem (enable m j b) =
      inl (refused_stays (refusal g w (enable m j b)) (act g w (enable m j b))
      (λ z. not_both (sym (pass_not w.enabled 1 (rest (rows (tests_of g true w) (enable m j b))) z).0 ∙ on)))
  while_open_lem (set_entry i o m) =
      inl (refused_stays (refusal g w (set_entry i o m)) (act g w (set_entry i o m))
      (λ z. not_both (sym (ready w.enabled (is_open w.advance) (rest (rest (rest (rows (tests_of g true w) (set_entry i o m))))) z).1 ∙ busy)))
  while_open_lem (schedule i m) =
      inl (refused_stays (refusal g w (schedule i m)) (act g w (schedule i m))
      (λ z. not_both (sym (ready w.enabled (is_open w.advance) (rest (rest (rest (rows (tests_of g true w) (schedule i m))))) z).1 ∙ busy)))
  while_open_lem (reschedule y m j) =
      inl (refused_stays (refusal g w (reschedule y m j)) (act g w (reschedule y m j))
      (λ z. not_both (sym (ready w.enabled (is_open w.advance) (rest (rest (rest (rows (tests_of g true w) (reschedule y m j))))) z).1 ∙ busy)))
  while_open_lem (deschedule y m j) =
      inl (refused_stays (refusal g w (deschedule y m j)) (act g w (deschedule y m j))
      (λ z. not_both (sym (ready w.enabled (is_open w.advance) (rest (rest (rest (rows (tests_of g true w) (deschedule y m j))))) z).1 ∙ busy)))
  while_open_lem (start q) =
      inl (refused_stays (refusal g w (start q)) (act g w (start q)) (λ z. not_both (sym (ready w.enabled (is_open w.advance) [] z).1 ∙ busy)))
  while_open_lem pull =
      rw pull_taken
      (⊎_elim
      (λ k. inr (ap is_open k.1, inl (refl, k.0)))
      (λ k. inl (record { on = on; busy = k.0; reading = refl; origin = k.1 }))
      (pulled_stays w.advance w.reading busy))
  while_open_lem abandon = rw abandon_taken (inr (refl, inr (inl (refl, refl))))
  while_open_lem armed_count = inl (looks (refusal g w armed_count) (act g w armed_count) refl)
  while_open_lem next_due = inl (looks (refusal g w next_due) (act g w next_due) refl)

-- ---- a call while none is open: only a start opens one
armed_advance : (g : Geometry) (w : Wheel) (e h : ℕ) (o : Option ℕ) (fs : List ℕ) → (armed g w e h o fs).1.advance ≡ w.advance
armed_advance g w e h none fs = refl
armed_advance g w e h (some d) [] = refl
armed_advance g w e h (some d) (x ∷ fs) = refl

rearmed_advance : (g : Geometry) (w : Wheel) (x : ℕ) (o : Option ℕ) → (rearmed g w x o).1.advance ≡ w.advance
rearmed_advance g w x none = refl
rearmed_advance g w x (some d) = refl

module _ (g : Geometry) (w : Wheel) (shut : is_open w.advance ≡ false) where
  -- the call's result stays closed, whether or not it is refused
  still_shut : (j : ℕ) (r : Answer × Wheel) → (j ≡ 0 → is_open r.1.advance ≡ false) → is_open (judged j r w).1.advance ≡ false
  still_shut zero r f = f refl
  still_shut (suc j) r f = shut

  starts : (q j : ℕ) → (is_open (judged j (act g w (start q)) w).1.advance ≡ false) ⊎ ((judged j (act g w (start q)) w).0 ≡ ok)
  starts q zero = inr refl
  starts q (suc j) = inl shut

  pub only_start : (c : Call) → (is_open (step g w c).1.advance ≡ false) ⊎ ((q : ℕ) × (c ≡ start q) × ((step g w c).0 ≡ ok))
  only_start (create m) = inl refl
  only_start (enable m j b) = inl (still_shut (refusal g w (enable m j b)) (act g w (enable m j b)) (λ z. refl))
  only_start (set_entry i o m) = inl (still_shut (refusal g w (set_entry i o m)) (act g w (set_entry i o m)) (λ z. shut))
  only_start (schedule i m) =
      inl (still_shut (refusal g w (schedule i m)) (act g w (schedule i m))
      (λ z. ap is_open (armed_advance g w i m (w.entry i).deadline w.lists.free) ∙ shut))
  only_start (reschedule y m j) =
      inl (still_shut (refusal g w (reschedule y m j)) (act g w (reschedule y m j))
      (λ z. ap is_open (rearmed_advance g w y (w.entry (w.lists.node y).entry).deadline) ∙ shut))
  only_start (deschedule y m j) = inl (still_shut (refusal g w (deschedule y m j)) (act g w (deschedule y m j)) (λ z. shut))
  only_start (start q) = ⊎_elim (λ k. inl k) (λ k. inr (q, refl, k)) (starts q (refusal g w (start q)))
  only_start pull =
      inl (still_shut (refusal g w pull) (act g w pull) (λ z. absurd (not_both (sym shut ∙ (running w.enabled (is_open w.advance) z).1))))
  only_start abandon = inl (still_shut (refusal g w abandon) (act g w abandon) (λ z. refl))
  only_start armed_count = inl (still_shut (refusal g w armed_count) (act g w armed_count) (λ z. shut))
  only_start next_due = inl (still_shut (refusal g w next_due) (act g w next_due) (λ z. shut))

-- a start that is taken: no advance was open; now one is, to q, from the reading before
pub start_taken : (g : Geometry) (R : Run) (q : ℕ) → answer g R (start q) ≡ ok
    → (is_open R.wheel.advance ≡ false) × (R.wheel.enabled ≡ true) × (is_open (next g R (start q)).wheel.advance ≡ true) ×
    ((next g R (start q)).wheel.reading ≡ q) × (origin (next g R (start q)).wheel.advance (next g R (start q)).wheel.reading ≡ R.wheel.reading) ×
    ((next g R (start q)).wheel.enabled ≡ true)
start_taken g R q a = go (refusal g R.wheel (start q)) refl a
  where
    go : (k : ℕ) → refusal g R.wheel (start q) ≡ k → (judged k (act g R.wheel (start q)) R.wheel).0 ≡ ok
        → let u : Wheel = (judged k (act g R.wheel (start q)) R.wheel).1 in
        (is_open R.wheel.advance ≡ false) × (R.wheel.enabled ≡ true) × (is_open u.advance ≡ true) × (u.reading ≡ q) ×
        (origin u.advance u.reading ≡ R.wheel.reading) × (u.enabled ≡ true)
    go zero z a =
        let i = ready R.wheel.enabled (is_open R.wheel.advance) [] z in
        (i.1, i.0, refl, refl, refl, i.0)
    go (suc k) z a = absurd (let z : ◌≡◌ {A = ℕ} 0 1 = cc in omega arith)

-- ---- lists of calls
pub after_app : (g : Geometry) (R : Run) (cs ds : List Call) → after g R (cs ++ ds) ≡ after g (after g R cs) ds
after_app g R [] ds = refl
after_app g R (c ∷ cs) ds = after_app g (next g R c) cs ds

pub stays_first : (g : Geometry) (R : Run) (ps : List Call) → StaysOpen g R ps → is_open R.wheel.advance ≡ true
stays_first g R [] s = s
stays_first g R (c ∷ ps) s = s.0

pub stays_last : (g : Geometry) (R : Run) (ps : List Call) → StaysOpen g R ps → is_open (after g R ps).wheel.advance ≡ true
stays_last g R [] s = s
stays_last g R (c ∷ ps) s = stays_last g (next g R c) ps s.1

pub stays_app : (g : Geometry) (R : Run) (ps : List Call) (c : Call) (qs : List Call) → StaysOpen g R ps → StaysOpen g (next g (after g R ps) c) qs → StaysOpen
    g R (ps ++ (c ∷ qs))
stays_app g R [] c qs s t = (s, t)
stays_app g R (d ∷ ps) c qs s t = (s.0, stays_app g (next g R d) ps c qs s.1 t)

pub stays_prefix : (g : Geometry) (R : Run) (ps qs : List Call) → StaysOpen g R (ps ++ qs) → StaysOpen g R ps
stays_prefix g R [] qs s = stays_first g R qs s
stays_prefix g R (c ∷ ps) qs s = (s.0, stays_prefix g (next g R c) ps qs s.1)

-- over an advance the reading is its q and the origin its p
pub stays_clock : (g : Geometry) (R : Run) (ps : List Call) → R.wheel.enabled ≡ true → StaysOpen g R ps
    → ((after g R ps).wheel.reading ≡ R.wheel.reading) ×
    (origin (after g R ps).wheel.advance (after g R ps).wheel.reading ≡ origin R.wheel.advance R.wheel.reading)
stays_clock g R [] on s = (refl, refl)
stays_clock g R (c ∷ ps) on s =
    ⊎_elim
    (λ (k : Stays R.wheel (step g R.wheel c).1).
    let r = stays_clock g (next g R c) ps k.on s.1 in
    (r.0 ∙ k.reading, r.1 ∙ k.origin))
    (λ k. absurd (not_both (sym k.0 ∙ stays_first g (next g R c) ps s.1)))
    (while_open_lem g R.wheel on s.0 c)

-- an advance to q from R: at its end the reading is q, and its origin is R's reading
pub advancing_clock : (g : Geometry) (R : Run) (q : ℕ) (ps : List Call) → Advancing g R q ps
    → ((after g R (start q ∷ ps)).wheel.reading ≡ q) ×
    (origin (after g R (start q ∷ ps)).wheel.advance (after g R (start q ∷ ps)).wheel.reading ≡ R.wheel.reading)
advancing_clock g R q ps a =
    let i = start_taken g R q a.taken in
    let r = stays_clock g (next g R (start q)) ps i.5 a.stays in
    (r.0 ∙ i.3, r.1 ∙ i.4)

-- where an advance is open at the end, it was open all along, or one of the calls started it
pub record Opened (g : Geometry) (R : Run) (cs : List Call) : Type 0 where
  pub bs : List Call
  pub q : ℕ
  pub ps : List Call
  pub is : cs ≡ bs ++ (start q ∷ ps)
  pub advancing : Advancing g (after g R bs) q ps

pub opened_by : (g : Geometry) (R : Run) (cs : List Call) → is_open (after g R cs).wheel.advance ≡ true → StaysOpen g R cs ⊎ Opened g R cs
opened_by g R [] h = inl h
opened_by g R (c ∷ cs) h =
    ⊎_elim
    (λ (s : StaysOpen g (next g R c) cs). go (is_open R.wheel.advance) refl s)
    (λ (k : Opened g (next g R c) cs). inr (record {
      bs = c ∷ k.bs;
      q = k.q;
      ps = k.ps;
      is = ap (λ (l : List Call). c ∷ l) k.is;
      advancing = k.advancing;
    }))
    (opened_by g (next g R c) cs h)
  where
    go : (b : Bool) → is_open R.wheel.advance ≡ b → StaysOpen g (next g R c) cs → StaysOpen g R (c ∷ cs) ⊎ Opened g R (c ∷ cs)
    go true i s = inl (i, s)
    go false i s =
        ⊎_elim
        (λ k. absurd (not_both (sym k ∙ stays_first g (next g R c) cs s)))
        (λ k.
        inr (record {
          bs = [];
          q = k.0;
          ps = cs;
          is = ap (λ (d : Call). d ∷ cs) k.1;
          advancing = record {
            taken = subst (λ (d : Call). answer g R d ≡ ok) k.1 k.2;
            stays = subst (λ (d : Call). StaysOpen g (next g R d) cs) k.1 s;
          };
        }))
        (only_start g R.wheel i c)

-- where an advance is open at first and none at the end, one of the calls closed it
pub record Closed (g : Geometry) (R : Run) (cs : List Call) : Type 0 where
  pub ps : List Call
  pub c : Call
  pub rest : List Call
  pub is : cs ≡ ps ++ (c ∷ rest)
  pub stays : StaysOpen g R ps
  pub shut : is_open (next g (after g R ps) c).wheel.advance ≡ false

pub closed_by : (g : Geometry) (R : Run) (cs : List Call) → is_open R.wheel.advance ≡ true → is_open (after g R cs).wheel.advance ≡ false → Closed g R cs
closed_by g R [] i h = absurd (not_both (sym h ∙ i))
closed_by g R (c ∷ cs) i h = go (is_open (next g R c).wheel.advance) refl (λ j. closed_by g (next g R c) cs j h)
  where
    later : Closed g (next g R c) cs → Closed g R (c ∷ cs)
    later k = record { ps = c ∷ k.ps; c = k.c; rest = k.rest; is = ap (λ (l : List Call). c ∷ l) k.is; stays = (i, k.stays); shut = k.shut }

    go : (b : Bool) → is_open (next g R c).wheel.advance ≡ b → (is_open (next g R c).wheel.advance ≡ true → Closed g (next g R c) cs) → Closed g R (c ∷ cs)
    go true j f = later (f j)
    go false j f = record { ps = []; c = c; rest = cs; is = refl; stays = i; shut = j }
