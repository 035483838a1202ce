-- An advance of the run among the calls, closed, is one of the history that the run tells.
use Prim.Native.Nat.{ℕ, ◌≤◌}
use native.Mathlib.Omega.{arith}
use mathlib.Core.Path.{◌≡◌, refl, sym, ap, subst, ◌∙◌}
use mathlib.Core.List.{List, ◌∷◌, ◌++◌}
use Rattle.rules.specs.Places.{wheel01}
use Rattle.rules.specs.Wheel.{Call, start, pull, abandon, Answer, ok, end, handed, Later}
use Rattle.rules.specs.Runs.{Run, answer, answers, after}
use Rattle.rules.specs.Demand3.{Advancing as RunAdvancing, Among as RunAmong, NoneBefore as RunNone, AbandonedOneHad as RunHad}
use Rattle.wheel_rules.specs.Lent.{Records}
use Rattle.wheel_rules.specs.Promise.{Promised}
use Rattle.wheel_rules.specs.history.Tells.{Tells}
use Rattle.wheel_rules.specs.Demand3.{Leads, then, Among, NoneBefore, AbandonedOneHad}
use Rattle.wheel_rules.proofs.history.Steps.{step_is}
use Rattle.wheel_rules.proofs.history.Runs.{run_is}
use Rattle.wheel_rules.proofs.history.Splitting.{Parts, parts}
use Rattle.wheel_rules.proofs.history.Advances.{run_advancing, records_advancing}

-- the same calls; the reading at its start and its answers are the run's
record Seen (ρ : Run) (R : Records) (cs : List Call) (rs : List Answer) (S : Records) (c : Call) (a : Answer) (i : RunAmong cs c) : Type 0 where
  among : Among R cs rs S c a
  q_is : among.q ≡ i.q
  reading_is : among.from.clock.reading ≡ (after wheel01 ρ i.bs).wheel.reading
  answers_are : ok ∷ among.answers ≡ answers wheel01 (after wheel01 ρ i.bs) (start i.q ∷ i.ps)

retold : (rs told ts further : List Answer) (b f a : Answer) → b ≡ ok → f ≡ a → rs ≡ told ++ ((b ∷ ts) ++ (f ∷ further))
    → rs ≡ told ++ ((ok ∷ ts) ++ (a ∷ further))
retold rs told ts further b f a i j e = rw (← i, ← j) e

seen_parts : (ρ : Run) (R : Records) (T : Tells R ρ.wheel) (cs : List Call) (rs : List Answer) (S : Records) (c : Call) (a : Answer) (i : RunAmong cs c)
    → RunAdvancing wheel01 (after wheel01 ρ i.bs) i.q i.ps
    → answer wheel01 (after wheel01 (after wheel01 ρ i.bs) (start i.q ∷ i.ps)) c ≡ a
    → Parts R i.bs i.q i.ps c i.rest rs S → Seen ρ R cs rs S c a i
seen_parts ρ R T cs rs S c a i adv ans p =
    let σ : Run = after wheel01 ρ i.bs in
    let before = run_is ρ R p.from i.bs p.told T p.leads in
    let v = records_advancing σ p.from before.1 i.q i.ps p.answers p.opened p.last p.first p.starts p.calls adv in
    let over = run_is σ p.from p.last (start i.q ∷ i.ps) (p.first ∷ p.answers) before.1 (then p.starts p.calls) in
    let is : p.final ≡ a = (step_is c p.last p.closed p.final (after wheel01 σ (start i.q ∷ i.ps)).wheel over.1 p.closes).0 ∙ ans in
    record {
      among = record {
        before = i.bs;
        told = p.told;
        from = p.from;
        leads = p.leads;
        q = i.q;
        ps = i.ps;
        answers = p.answers;
        closed = p.closed;
        advance = record { last = p.last; advance = v.1; closes = subst (Promised c p.last p.closed) is p.closes };
        rest = i.rest;
        further = p.further;
        on = p.on;
        calls_are = i.is;
        answers_are = retold rs p.told p.answers p.further p.first p.final a v.0 is p.are;
      };
      q_is = refl;
      reading_is = before.1.stands.reading;
      answers_are = ap (λ (b : Answer). b ∷ p.answers) (sym v.0) ∙ over.0;
    }

seen : (ρ : Run) (R : Records) (T : Tells R ρ.wheel) (cs : List Call) (rs : List Answer) (S : Records) (c : Call) (a : Answer) → Leads R cs rs S
    → (i : RunAmong cs c) → RunAdvancing wheel01 (after wheel01 ρ i.bs) i.q i.ps
    → answer wheel01 (after wheel01 (after wheel01 ρ i.bs) (start i.q ∷ i.ps)) c ≡ a → Seen ρ R cs rs S c a i
seen ρ R T cs rs S c a l i adv ans =
    seen_parts ρ R T cs rs S c a i adv ans
    (parts R i.bs i.q i.ps c i.rest rs S (subst (λ (k : List Call). Leads R k rs S) i.is l))

-- "the first", "unless an abandoned one already had"
pub none_before : (ρ : Run) (R : Records) (T : Tells R ρ.wheel) (cs : List Call) (rs : List Answer) (S : Records) (d : ℕ) → Leads R cs rs S
    → NoneBefore d R cs rs S → RunNone wheel01 d ρ cs
none_before ρ R T cs rs S d l none i f =
    let s = seen ρ R T cs rs S pull end l i f.0.0 f.0.1 in
    none s.among (subst (λ (q : ℕ). d ≤ q) (sym s.q_is) f.1)
    (subst (λ (p : ℕ). Later wheel01 p s.among.q) (sym s.reading_is)
    (subst (λ (q : ℕ). Later wheel01 (after wheel01 ρ i.bs).wheel.reading q) (sym s.q_is) f.2))

pub one_had : (ρ : Run) (R : Records) (T : Tells R ρ.wheel) (cs : List Call) (rs : List Answer) (S : Records) (n : ℕ) → Leads R cs rs S
    → RunHad wheel01 n ρ cs → AbandonedOneHad n R cs rs S
one_had ρ R T cs rs S n l a =
    let s = seen ρ R T cs rs S abandon ok l a.0 a.1.0 a.1.1 in
    (s.among, omega (arith, ap (handed n) s.answers_are, a.2))

-- and an advance among the calls of the history is one of the run
pub none_seen : (ρ : Run) (R : Records) (T : Tells R ρ.wheel) (cs : List Call) (rs : List Answer) (S : Records) (d : ℕ) → RunNone wheel01 d ρ cs
    → NoneBefore d R cs rs S
none_seen ρ R T cs rs S d none a r t =
    let σ : Run = after wheel01 ρ a.before in
    let before = run_is ρ R a.from a.before a.told T a.leads in
    let adv = a.advance.advance in
    let over = run_is σ a.from a.advance.last (start a.q ∷ a.ps) (ok ∷ a.answers) before.1 (then adv.starts adv.calls) in
    none (record { bs = a.before; q = a.q; ps = a.ps; rest = a.rest; is = a.calls_are }) (
      (
        run_advancing σ a.from before.1 a.q a.ps a.answers a.advance.last adv,
        sym (step_is pull a.advance.last a.closed end (after wheel01 σ (start a.q ∷ a.ps)).wheel over.1 a.advance.closes).0,
      ),
      r,
      subst (λ (p : ℕ). Later wheel01 p a.q) before.1.stands.reading t,
    )
