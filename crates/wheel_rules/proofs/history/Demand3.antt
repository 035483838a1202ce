-- Demand 3 of what a program sees, proved: from a create on, whatever the records held, after any calls and any answers
-- that the promises allow. The statement is specs/Demand3.antt; it rests on the rules' theorem.
use Prim.Native.Nat.{ℕ, ◌+◌, ◌≤◌, ◌<◌}
use native.Mathlib.Omega.{arith}
use mathlib.Core.Path.{◌≡◌, refl, sym, ap, subst, ◌∙◌}
use mathlib.Core.Logic.{◌⊎◌, inl, inr, ⊎_elim}
use mathlib.Core.Bool.{true}
use mathlib.Core.List.{List, [], ◌∷◌, ◌++◌}
use Rattle.rules.specs.Places.{wheel01}
use Rattle.rules.specs.Wheel.{Advance, closed, poised, within, Wheel, Call, create, start, pull, Answer, ok, end, expired, LeftAlone, hands_out, handed}
use Rattle.rules.specs.Wheel.{Timely, Later}
use Rattle.rules.specs.Calls.{is_open, origin}
use Rattle.rules.specs.Runs.{Run, answer, next, answers, after}
use Rattle.rules.specs.Demand3.{Unchanged, Advancing as RunAdvancing, Full as RunFull, Demand3 as RunDemand3}
use Rattle.rules.specs.Worked.{nothing}
use Rattle.rules.proofs.SoundCalls.{sound_created}
use Rattle.rules.proofs.Arming.{arms_waiting}
use Rattle.rules.proofs.Demand3.{demand3}
use Rattle.rules.proofs.Seen.{left_alone}
use Rattle.rules.proofs.Enabled.{unchanged_enabled}
use Rattle.wheel_rules.specs.Lent.{Records}
use Rattle.wheel_rules.specs.Promise.{Promised}
use Rattle.wheel_rules.specs.history.Tells.{Tells}
use Rattle.wheel_rules.specs.Demand3.{Leads, done, then, Arms, InOneBucket, Advancing, Full, NoneBefore, AbandonedOneHad, Demand3}
use Rattle.wheel_rules.proofs.history.Steps.{step_is}
use Rattle.wheel_rules.proofs.history.Runs.{run_is, history}
use Rattle.wheel_rules.proofs.history.Splitting.{leads_on, alone_on}
use Rattle.wheel_rules.proofs.history.Standing.{one_bucket_lem}
use Rattle.wheel_rules.proofs.history.Advances.{tells_open, tells_origin, run_advancing}
use Rattle.wheel_rules.proofs.history.Among.{none_before, one_had}
use Rattle.wheel_rules.proofs.history.Arming.{armed_so}

-- ---- answers one after the other
handed_on : (n : ℕ) (rs ts : List Answer) → handed n (rs ++ ts) ≡ handed n rs + handed n ts
handed_on n [] ts = omega arith
handed_on n (a ∷ rs) ts = omega (arith, handed_on n rs ts)

-- ---- the parts, over a run that the records tell just after the arming
open_later : (A : Advance) (r : ℕ) → Later wheel01 (origin A r) r → is_open A ≡ true
open_later closed r l = absurd (omega arith)
open_later (poised p bs) r l = refl
open_later (within p b bs) r l = refl

module _ (ρ : Run) (R : Records) (T : Tells R ρ.wheel) (on : ρ.wheel.enabled ≡ true) (x n e d : ℕ) (D : RunDemand3 wheel01 x n e d ρ) where
  unchanged : (cs : List Call) (rs : List Answer) (S : Records) → Leads R cs rs S → LeftAlone x n e d cs rs → Unchanged wheel01 x n e d ρ cs
  unchanged cs rs S l u = left_alone wheel01 x n e d ρ cs (subst (LeftAlone x n e d cs) (run_is ρ R S cs rs T l).0 u)

  module _ (cs : List Call) (rs : List Answer) (S : Records) (l : Leads R cs rs S) (u : LeftAlone x n e d cs rs) where
    abbrev σ : Run
    σ = after wheel01 ρ cs

    told : rs ≡ answers wheel01 ρ cs
    told = (run_is ρ R S cs rs T l).0

    there : Tells S σ.wheel
    there = (run_is ρ R S cs rs T l).1

    so_far : Unchanged wheel01 x n e d ρ cs
    so_far = unchanged cs rs S l u

    on_there : σ.wheel.enabled ≡ true
    on_there = unchanged_enabled wheel01 x n e d ρ cs on so_far

    stands_so : handed n rs ≡ 0 → InOneBucket x n e S
    stands_so z =
        one_bucket_lem S σ.wheel (there.stands.shows on_there) (there.sound on_there) x n e
        (D.one_bucket cs so_far (ap (handed n) (sym told) ∙ z))

    once : handed n rs ≤ 1
    once = omega (arith, D.at_most_once cs so_far, ap (handed n) told)

    says_so : (c : Call) (a : Answer) (U : Records) → Promised c S U a → LeftAlone x n e d (c ∷ []) (a ∷ []) → 0 < hands_out n a
        → (a ≡ expired e n d) × (S.clock.open ≡ true) × (d ≤ S.clock.reading) × Later wheel01 S.clock.previous S.clock.reading
    says_so c a U p v o =
        let w : Wheel = σ.wheel in
        let y = step_is c S U a w there p in
        let k = unchanged (cs ++ (c ∷ [])) (rs ++ (a ∷ [])) U (leads_on l (then p done)) (alone_on x n e d (c ∷ []) (a ∷ []) l u v) in
        let s = D.says cs c k (subst (λ (b : Answer). 0 < hands_out n b) y.0 o) in
        let busy : is_open w.advance ≡ true = open_later w.advance w.reading s.2 in
        let reads : S.clock.reading ≡ w.reading = there.stands.reading in (
          y.0 ∙ s.0,
          tells_open S w there on_there ∙ busy,
          subst (λ (r : ℕ). d ≤ r) (sym reads) s.1,
          subst (λ (r : ℕ). Later wheel01 S.clock.previous r) (sym reads)
              (subst (λ (p : ℕ). Later wheel01 p w.reading) (sym (tells_origin S w there on_there busy)) s.2),
        )

    -- an advance from there on
    module _ (q : ℕ) (ps : List Call) (ts : List Answer) (v : LeftAlone x n e d ps ts) where
      module _ (U : Records) (a : Advancing S q ps ts U) where
        steps : Leads S (start q ∷ ps) (ok ∷ ts) U
        steps = then a.starts a.calls

        all : Leads R (cs ++ (start q ∷ ps)) (rs ++ (ok ∷ ts)) U
        all = leads_on l steps

        all_told : rs ++ (ok ∷ ts) ≡ answers wheel01 ρ (cs ++ (start q ∷ ps))
        all_told = (run_is ρ R U (cs ++ (start q ∷ ps)) (rs ++ (ok ∷ ts)) T all).0

        kept : Unchanged wheel01 x n e d ρ (cs ++ (start q ∷ ps))
        kept = unchanged (cs ++ (start q ∷ ps)) (rs ++ (ok ∷ ts)) U all (alone_on x n e d (start q ∷ ps) (ok ∷ ts) l u ((λ i. absurd i), v))

        over : ((ok ∷ ts) ≡ answers wheel01 σ (start q ∷ ps)) × Tells U (after wheel01 σ (start q ∷ ps)).wheel
        over = run_is σ S U (start q ∷ ps) (ok ∷ ts) there steps

        handed_over : handed n ts ≡ handed n (answers wheel01 σ (start q ∷ ps))
        handed_over = omega (arith, ap (handed n) over.0)

        handed_all : handed n (rs ++ ts) ≡ handed n (answers wheel01 ρ (cs ++ (start q ∷ ps)))
        handed_all = omega (arith, ap (handed n) all_told, handed_on n rs ts, handed_on n rs (ok ∷ ts))

        advances : RunAdvancing wheel01 σ q ps
        advances = run_advancing σ S there q ps ts U a

        not_early_lem : q < d → handed n ts ≡ 0
        not_early_lem h = handed_over ∙ D.not_early cs q ps kept advances h

      -- one that is read to its end, goes to the deadline or later and enters a later tick
      module _ (U : Records) (f : Full d S q ps ts U) where
        abbrev last : Records
        last = f.ended.last

        abbrev adv : Advancing S q ps ts last
        adv = f.ended.advance

        ends : answer wheel01 (after wheel01 σ (start q ∷ ps)) pull ≡ end
        ends = sym (step_is pull last U end (after wheel01 σ (start q ∷ ps)).wheel (over last adv).1 f.ended.closes).0

        full : RunFull wheel01 d σ q ps
        full = ((advances last adv, ends), f.reaches, subst (λ (r : ℕ). Later wheel01 r q) there.stands.reading f.later)

        first_hands_out_lem : NoneBefore d R cs rs S → (handed n ts ≡ 1) ⊎ AbandonedOneHad n R cs rs S
        first_hands_out_lem none =
            ⊎_elim
            (λ i. inl (handed_over last adv ∙ i))
            (λ i. inr (one_had ρ R T cs rs S n l i))
            (D.first_hands_out cs q ps (kept last adv) full (none_before ρ R T cs rs S d l none))

        by_then_lem : handed n (rs ++ ts) ≡ 1
        by_then_lem = handed_all last adv ∙ D.by_then cs q ps (kept last adv) full

  seen_demand : Demand3 x n e d R
  seen_demand = record {
    one_bucket = stands_so;
    not_early = λ cs rs S l u q ps ts U a v. not_early_lem cs rs S l u q ps ts v U a;
    first_hands_out = λ cs rs S l u q ps ts U f v. first_hands_out_lem cs rs S l u q ps ts v U f;
    by_then = λ cs rs S l u q ps ts U f v. by_then_lem cs rs S l u q ps ts v U f;
    at_most_once = once;
    says = says_so;
  }

-- "Let only this wheel's calls write the lent records": calls from a create on, further creates among them. "Arm or
-- re-arm a timer whose deadline is not in an earlier tick than the wheel's reading": from P to R. Then demand 3 holds.
pub demand3_seen : (Q P R : Records) (first : ℕ) (cs : List Call) (rs : List Answer) → Leads Q (create first ∷ cs) rs P → (x n e d : ℕ) → Arms P R x n e d
    → Demand3 x n e d R
demand3_seen Q P R first cs rs l x n e d a =
    let ρ : Run = after wheel01 nothing (create first ∷ cs) in
    let T : Tells P ρ.wheel = (history nothing Q P first cs rs l).1 in
    let k = armed_so ρ.wheel P R T x n e d a in
    let t = subst (λ (r : ℕ). Timely wheel01 r d) T.stands.reading a.timely in
    seen_demand (next wheel01 ρ k.call) R k.tells
    (arms_waiting wheel01 ρ (sound_created wheel01 nothing first cs) x n e d t k.call k.arms).waiting.on
    x n e d
    (demand3 wheel01 nothing first cs k.call x n e d k.arms t)
