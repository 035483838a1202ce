-- A call's promise takes a story one call further.
use Prim.Native.Nat.{ℕ, ◌+◌, ◌^◌, ◌≤◌}
use native.Mathlib.Omega.{arith}
use mathlib.Core.Path.{◌≡◌, refl, sym, ap, subst, ◌∙◌}
use mathlib.Core.Logic.{inl}
use mathlib.Core.Option.{some}
use mathlib.Core.List.{List, [], ◌∷◌, ◌++◌}
use Rattle.rules.specs.Places.{wheel01, tick}
use Rattle.rules.specs.Wheel.{Entry, Call, create, set_entry, schedule, Answer, ok, handle}
use Rattle.rules.specs.Runs.{Run, answer, after}
use Rattle.rules.specs.Worked.{nothing}
use Rattle.rules.proofs.Advances.{after_app}
use Rattle.wheel_rules.specs.Lent.{Records}
use Rattle.wheel_rules.specs.history.Tells.{Tells}
use Rattle.wheel_rules.specs.Promise.{Promised}
use Rattle.wheel_rules.specs.Demand3.{done, then}
use Rattle.wheel_rules.proofs.history.Steps.{create_is, step_is}
use Rattle.wheel_rules.proofs.history.Splitting.{leads_on}
use Rattle.wheel_rules.proofs.history.Demand3.{demand3_seen}
use Rattle.story.specs.Story.{Reached, begun, Watched}

-- it begins with a create, whatever the records held
pub beginning : (first : ℕ) (R R' : Records) → Promised (create first) R R' ok → Reached (create first ∷ []) R'
beginning first R R' p =
    record { tells = (create_is first R R' ok nothing.wheel p).1; from = R; told = ok ∷ []; leads = then p done }

module _ (c : Call) {cs : List Call} {R : Records} (R' : Records) (a : Answer) (r : Reached cs R) (p : Promised c R R' a) where
  -- what has been reached
  pub on : Reached (cs ++ (c ∷ [])) R'
  on =
      record {
        tells = subst (λ (ρ : Run). Tells R' ρ.wheel) (sym (after_app wheel01 nothing cs (c ∷ [])))
            (step_is c R R' a (after wheel01 nothing cs).wheel r.tells p).1;
        from = r.from;
        told = r.told ++ (a ∷ []);
        leads = leads_on r.leads (then p done);
      }

  -- what is answered: x, where the rules answer x
  pub says : (x : Answer) → answer wheel01 (after wheel01 nothing cs) c ≡ x → a ≡ x
  says x e = (step_is c R R' a (after wheel01 nothing cs).wheel r.tells p).0 ∙ e

-- the reading that has been reached
pub reads : {cs : List Call} {R : Records} → Reached cs R → (q : ℕ) → (after wheel01 nothing cs).wheel.reading ≡ q → R.clock.reading ≡ q
reads r q e = r.tells.stands.reading ∙ e

-- the timer is armed in time, so demand 3 holds of it
pub watching : {P : Records} (R : Records) (a : Answer) → Reached (begun ++ (set_entry 0 (some (2 ^ 30 + 5)) 1 ∷ [])) P → Promised (schedule 0 1) P R a → Watched R
unfolding tick
watching {P = P} R a r p =
    let shows = r.tells.stands.shows refl in
    let q : Promised (schedule 0 1) P R (handle 165 7) = subst (Promised (schedule 0 1) P R) (says (schedule 0 1) R a r p (handle 165 7) refl) p in
    record {
      reached = on (schedule 0 1) R a r p;
      demand =
          demand3_seen r.from P R 7 _ r.told r.leads 165 7 0 (2 ^ 30 + 5)
          (record {
            armed = inl (1, q);
            dated = sym (ap (λ (v : Entry). v.deadline) (shows.entry 0 (omega arith)));
            timely = subst (λ (t : ℕ). tick 30 t ≤ tick 30 (2 ^ 30 + 5)) (sym (reads r 0 refl)) (omega arith);
          });
    }
