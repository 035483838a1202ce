-- Demand 3 over histories of records is not empty: there are histories in which its premises are met together, and each
-- of its alternatives comes about. What a run of the rules reaches, a history of records reaches.
use Prim.Native.Nat.{ℕ, ◌*◌, ◌^◌}
use native.Mathlib.Omega.{arith}
use mathlib.Core.Path.{◌≡◌, refl, sym, ap, subst, ◌∙◌}
use mathlib.Core.Logic.{inl, ⊎_elim}
use mathlib.Core.Bool.{true, false}
use mathlib.Core.Option.{some}
use mathlib.Core.List.{List, [], ◌∷◌}
use lib.ListN.{replicate}
use Rattle.rules.specs.Places.{wheel01, tick}
use Rattle.rules.specs.Wheel.{Entry, Call, create, enable, set_entry, schedule, start, pull, Answer, ok, handle, end, LeftAlone, hands_out, handed, Timely}
use Rattle.rules.specs.Wheel.{Later}
use Rattle.rules.specs.Runs.{Run, next, answers, after}
use Rattle.rules.specs.Demand3.{Advancing as RunAdvancing, Full as RunFull, NoneBefore as RunNone}
use Rattle.rules.specs.Worked.{nothing}
use Rattle.rules.proofs.Premises.{armed_10, run_10, full_10, hands_out_10}
use Rattle.rules.proofs.Reached.{none_10, abandoned_10, full_abandoned, none_abandoned, hands_out_none, early, armed_early, advancing_early}
use Rattle.rules.proofs.Reached.{hands_out_early, armed_back, run_back, full_back, none_back, hands_out_back}
use Rattle.wheel_rules.specs.Lent.{Records, nodes, entries, records}
use Rattle.wheel_rules.specs.Promise.{created_clock, created, enabling, Promised}
use Rattle.wheel_rules.specs.history.Tells.{Tells}
use Rattle.wheel_rules.specs.Demand3.{Leads, then, Arms, Advancing, Full, NoneBefore, AbandonedOneHad}
use Rattle.wheel_rules.proofs.history.Steps.{create_is, step_is}
use Rattle.wheel_rules.proofs.history.Runs.{run_is, history}
use Rattle.wheel_rules.proofs.history.Advances.{records_advancing}
use Rattle.wheel_rules.proofs.history.Among.{none_seen}
use Rattle.wheel_rules.proofs.history.Continuing.{answered_so, Result, result, Continued, Anywhere, continues}
use Rattle.wheel_rules.proofs.history.Demand3.{demand3_seen}

-- ---- from a create to an armed timer
-- 200 node records and 8 entries
pub lent : Records
lent =
    records
    (nodes [] [] (replicate 200 0) (replicate 200 0) (replicate 200 0) (replicate 200 0) (replicate 200 0) (replicate 200 0))
    (entries (replicate 8 false) (replicate 8 0) (replicate 8 0)) (created_clock 0)

abbrev pub before : ℕ → List Call
before d = enable 200 8 true ∷ set_entry 0 (some d) 0 ∷ []

-- the run of the rules, just before the arming and just after it
abbrev pub unarmed : ℕ → Run
unarmed d = after wheel01 nothing (create 7 ∷ before d)

abbrev pub armed : ℕ → Run
armed d = next wheel01 (unarmed d) (schedule 0 0)

lengths : enable 200 8 true ≡ enabling (created lent 7)
unfolding lent
lengths = refl

laid_out_lem : (d : ℕ) → Continued lent (create 7 ∷ before d)
laid_out_lem d =
    let M : Records = created lent 7 in
    let c : Promised (create 7) lent M ok = answered_so (create 7) lent tt refl in
    let T = create_is 7 lent M ok nothing.wheel c in
    let e = result (enable 200 8 true) M lengths T.1.kept in
    let U = step_is (enable 200 8 true) M e.after e.says _ T.1 e.promised in
    let k = continues _ e.after (set_entry 0 (some d) 0 ∷ []) U.1 (λ R. tt, tt) in
    record { answers = ok ∷ e.says ∷ k.answers; after = k.after; leads = then c (then e.promised k.leads) }

module _ (d : ℕ) (timely : Timely wheel01 0 d) where
  abbrev P : Records
  P = (laid_out_lem d).after

  there : Tells P (unarmed d).wheel
  there = (history nothing lent P 7 (before d) _ (laid_out_lem d).leads).1

  arming : Result (schedule 0 0) P
  arming = result (schedule 0 0) P tt there.kept

  abbrev R : Records
  R = arming.after

  armed_as : (arming.says ≡ handle 165 7) × Tells R (armed d).wheel
  armed_as = step_is (schedule 0 0) P R arming.says (unarmed d).wheel there arming.promised

  arms : Arms P R 165 7 0 d
  arms = record {
    armed = inl (0, subst (Promised (schedule 0 0) P R) armed_as.0 arming.promised);
    dated = sym (ap (λ (v : Entry). v.deadline) ((there.stands.shows refl).entry 0 (omega arith)));
    timely = subst (λ (r : ℕ). Timely wheel01 r d) (sym there.stands.reading) timely;
  }

-- ---- calls from there on
no : {A : Type 0} → ⊥ → A
no a = absurd a

-- a history that leaves the timer (165, 7), entry 0, deadline d, alone from its arming on
pub record Led (d : ℕ) (cs : List Call) : Type 0 where
  pub P : Records
  pub R : Records
  pub S : Records
  pub told : List Answer
  pub rs : List Answer
  pub begins : Leads lent (create 7 ∷ before d) told P
  pub arms : Arms P R 165 7 0 d
  pub calls : Leads R cs rs S
  pub alone : LeftAlone 165 7 0 d cs rs
  pub none : RunNone wheel01 d (armed d) cs → NoneBefore d R cs rs S
  pub tells : Tells S (after wheel01 (armed d) cs).wheel

pub led : (d : ℕ) → Timely wheel01 0 d → (cs : List Call) → Anywhere cs → LeftAlone 165 7 0 d cs (answers wheel01 (armed d) cs) → Led d cs
led d t cs l u =
    let k = continues (armed d).wheel (R d t) cs (armed_as d t).1 l in
    let y = run_is (armed d) (R d t) k.after cs k.answers (armed_as d t).1 k.leads in
    record {
      P = P d t;
      R = R d t;
      S = k.after;
      told = (laid_out_lem d).answers;
      rs = k.answers;
      begins = (laid_out_lem d).leads;
      arms = arms d t;
      calls = k.leads;
      alone = subst (LeftAlone 165 7 0 d cs) (sym y.0) u;
      none = none_seen (armed d) (R d t) (armed_as d t).1 cs k.answers k.after d;
      tells = y.1;
    }

-- an advance from there, over the calls ps, that hands the timer out k times
pub record Advanced (d : ℕ) (S : Records) (q : ℕ) (ps : List Call) (k : ℕ) : Type 0 where
  pub ts : List Answer
  pub T : Records
  pub advance : Advancing S q ps ts T
  pub alone : LeftAlone 165 7 0 d ps ts
  pub hands : handed 7 ts ≡ k

pub advanced : (d : ℕ) (σ : Run) (S : Records) → Tells S σ.wheel → (q : ℕ) (ps : List Call) (k : ℕ) → Anywhere ps → RunAdvancing wheel01 σ q ps
    → LeftAlone 165 7 0 d ps (answers wheel01 (next wheel01 σ (start q)) ps) → handed 7 (answers wheel01 σ (start q ∷ ps)) ≡ k → Advanced d S q ps k
advanced d σ S T q ps k l a u h =
    let r = result (start q) S tt T.kept in
    let y = step_is (start q) S r.after r.says σ.wheel T r.promised in
    let c = continues _ r.after ps y.1 l in
    let v = records_advancing σ S T q ps c.answers r.after c.after r.says r.promised c.leads a in
    let z = run_is (next wheel01 σ (start q)) r.after c.after ps c.answers y.1 c.leads in
    record {
      ts = c.answers;
      T = c.after;
      advance = v.1;
      alone = subst (LeftAlone 165 7 0 d ps) (sym z.0) u;
      hands = omega (arith, ap (handed 7) z.0, ap (hands_out 7) a.taken, h);
    }

-- one that is read to its end, goes to the deadline or later and enters a later tick
pub record FullyAdvanced (d : ℕ) (S : Records) (q : ℕ) (ps : List Call) (k : ℕ) : Type 0 where
  pub ts : List Answer
  pub U : Records
  pub full : Full d S q ps ts U
  pub alone : LeftAlone 165 7 0 d ps ts
  pub hands : handed 7 ts ≡ k

pub fully_advanced : (d : ℕ) (σ : Run) (S : Records) → Tells S σ.wheel → (q : ℕ) (ps : List Call) (k : ℕ) → Anywhere ps → RunFull wheel01 d σ q ps
    → LeftAlone 165 7 0 d ps (answers wheel01 (next wheel01 σ (start q)) ps) → handed 7 (answers wheel01 σ (start q ∷ ps)) ≡ k → FullyAdvanced d S q ps k
fully_advanced d σ S T q ps k l f u h =
    let a = advanced d σ S T q ps k l f.0.0 u h in
    let E = (run_is σ S a.T (start q ∷ ps) (ok ∷ a.ts) T (then a.advance.starts a.advance.calls)).1 in
    let r = result pull a.T tt E.kept in
    let is : r.says ≡ end = (step_is pull a.T r.after r.says (after wheel01 σ (start q ∷ ps)).wheel E r.promised).0 ∙ f.0.1 in
    record {
      ts = a.ts;
      U = r.after;
      full = record {
        ended = record { last = a.T; advance = a.advance; closes = subst (Promised pull a.T r.after) is r.promised };
        reaches = f.1;
        later = subst (λ (p : ℕ). Later wheel01 p q) (sym T.stands.reading) f.2;
      };
      alone = a.alone;
      hands = a.hands;
    }

-- ---- handed out by the first
pub first_led : Led 10 run_10
unfolding tick
first_led =
    led 10 (omega arith) run_10 (λ R. tt, (λ R. tt, (λ R. tt, (λ R. tt, (λ R. tt, (λ R. tt, (λ R. tt, tt)))))))
    (no, (no, (no, (no, (no, (no, (λ k. absurd (k.1 refl), tt)))))))

pub first_none : NoneBefore 10 first_led.R run_10 first_led.rs first_led.S
first_none = first_led.none none_10

pub first_hands_out_lem : FullyAdvanced 10 first_led.S (2 ^ 30) (pull ∷ []) 1
first_hands_out_lem =
    fully_advanced 10 (after wheel01 armed_10 run_10) first_led.S first_led.tells (2 ^ 30) (pull ∷ []) 1 (λ R. tt, tt) full_10 (no, tt) hands_out_10

-- ---- already by an abandoned one
pub abandoned_led : Led 10 abandoned_10
unfolding tick
abandoned_led = led 10 (omega arith) abandoned_10 (λ R. tt, (λ R. tt, (λ R. tt, tt))) (no, (no, (no, tt)))

pub abandoned_none : NoneBefore 10 abandoned_led.R abandoned_10 abandoned_led.rs abandoned_led.S
abandoned_none = abandoned_led.none none_abandoned

pub abandoned_hands_out : FullyAdvanced 10 abandoned_led.S (2 ^ 31) [] 0
abandoned_hands_out =
    fully_advanced 10 (after wheel01 armed_10 abandoned_10) abandoned_led.S abandoned_led.tells (2 ^ 31) [] 0 tt full_abandoned tt hands_out_none

-- the first full advance hands out nothing, so that an abandoned one had: the demand's other alternative
pub abandoned_had : AbandonedOneHad 7 abandoned_led.R abandoned_10 abandoned_led.rs abandoned_led.S
abandoned_had =
    let k = abandoned_led in
    let f = abandoned_hands_out in
    ⊎_elim
    (λ i. absurd (omega (arith, i, f.hands)))
    (λ i. i)
    ((demand3_seen lent k.P k.R 7 (before 10) k.told k.begins 165 7 0 10 k.arms).first_hands_out abandoned_10 k.rs k.S k.calls k.alone
    (2 ^ 31) [] f.ts f.U f.full f.alone abandoned_none)

-- ---- never early: in the deadline's tick, before the deadline
pub early_led : Led early []
unfolding tick
early_led = led early (omega arith) [] tt tt

pub early_hands_out : Advanced early early_led.S (2 ^ 30) (pull ∷ []) 0
early_hands_out =
    advanced early armed_early early_led.S early_led.tells (2 ^ 30) (pull ∷ []) 0 (λ R. tt, tt) advancing_early (no, tt) hands_out_early

-- ---- a clock stepped back
pub back_led : Led (5 * 2 ^ 30) run_back
unfolding tick
back_led = led (5 * 2 ^ 30) (omega arith) run_back (λ R. tt, (λ R. tt, (λ R. tt, (λ R. tt, tt)))) (no, (no, (no, (no, tt))))

pub back_none : NoneBefore (5 * 2 ^ 30) back_led.R run_back back_led.rs back_led.S
back_none = back_led.none none_back

pub back_hands_out : FullyAdvanced (5 * 2 ^ 30) back_led.S (5 * 2 ^ 30) (pull ∷ []) 1
back_hands_out =
    fully_advanced (5 * 2 ^ 30) (after wheel01 armed_back run_back) back_led.S back_led.tells (5 * 2 ^ 30) (pull ∷ []) 1 (λ R. tt, tt) full_back (no, tt)
    hands_out_back
