-- Advances over histories of records are the rules' advances over the runs that these tell.
use Prim.Native.Nat.{ℕ}
use mathlib.Core.Path.{◌≡◌, refl, sym, ap, subst, ◌∙◌}
use mathlib.Core.Logic.{⊎_elim}
use mathlib.Core.Bool.{true, false, false≢true}
use mathlib.Core.List.{List, [], ◌∷◌}
use Rattle.rules.specs.Places.{wheel01}
use Rattle.rules.specs.Wheel.{Advance, closed, poised, within, Wheel, Call, create, start, Answer, ok}
use Rattle.rules.specs.Calls.{is_open, origin}
use Rattle.rules.specs.Runs.{step, Run, next}
use Rattle.rules.specs.Demand3.{StaysOpen as RunOpen, Advancing as RunAdvancing}
use Rattle.rules.proofs.Advances.{start_taken, stays_first}
use Rattle.rules.proofs.Enabled.{stays_enabled}
use Rattle.wheel_rules.specs.declared.calls.Clock.{Clock}
use Rattle.wheel_rules.specs.Lent.{Records, ShowsAdvance}
use Rattle.wheel_rules.specs.Promise.{Promised}
use Rattle.wheel_rules.specs.history.Tells.{Tells}
use Rattle.wheel_rules.specs.Demand3.{Leads, done, then, StaysOpen, Advancing}
use Rattle.wheel_rules.proofs.calls.Deciding.{open_is}
use Rattle.wheel_rules.proofs.history.Steps.{step_is}

-- ---- one moment
-- an enabled wheel's clock says whether an advance is open, and where it started
pub tells_open : (R : Records) (w : Wheel) → Tells R w → w.enabled ≡ true → R.clock.open ≡ is_open w.advance
tells_open R w T on = open_is R.clock w.advance (T.stands.shows on).advance

previous_is : (c : Clock) (A : Advance) (r : ℕ) → ShowsAdvance wheel01 c A → is_open A ≡ true → c.previous ≡ origin A r
previous_is c closed r s i = absurd (false≢true i)
previous_is c (poised p bs) r s i = s.1
previous_is c (within p b bs) r s i = s.2

pub tells_origin : (R : Records) (w : Wheel) → Tells R w → w.enabled ≡ true → is_open w.advance ≡ true → R.clock.previous ≡ origin w.advance
    w.reading
tells_origin R w T on i = previous_is R.clock w.advance w.reading (T.stands.shows on).advance i

-- create leaves none open
create_shuts : (m : ℕ) (R M : Records) (a : Answer) → Promised (create m) R M a → M.clock.open ≡ false
create_shuts m R M a p = ap (λ (x : Records). x.clock.open) (p.leaves refl)

created_shut : (ρ : Run) (m : ℕ) (c : Call) → c ≡ create m → false ≡ is_open (next wheel01 ρ c).wheel.advance
created_shut ρ m c i = ap (λ (b : Call). is_open (step wheel01 ρ.wheel b).1.advance) (sym i)

-- ---- an advance that stays open
open_first : {R S : Records} {cs : List Call} {rs : List Answer} (l : Leads R cs rs S) → StaysOpen l → R.clock.open ≡ true
open_first done s = s
open_first (then p l) s = s.0

pub run_stays : (ρ : Run) (R S : Records) (cs : List Call) (rs : List Answer) → Tells R ρ.wheel → ρ.wheel.enabled ≡ true → (l : Leads R cs rs S)
    → StaysOpen l → RunOpen wheel01 ρ cs
run_stays ρ R S [] [] T on done s = sym (tells_open R ρ.wheel T on) ∙ s
run_stays ρ R S (c ∷ cs) (a ∷ rs) T on (then {M = M} p l) s = (
  sym (tells_open R ρ.wheel T on) ∙ s.0,
  ⊎_elim
      (λ (i : (step wheel01 ρ.wheel c).1.enabled ≡ true). run_stays (next wheel01 ρ c) M S cs rs (step_is c R M a ρ.wheel T p).1 i l s.1)
      (λ i. absurd (false≢true (sym (create_shuts i.0 R M a (subst (λ (b : Call). Promised b R M a) i.1 p)) ∙ open_first l s.1)))
      (stays_enabled wheel01 ρ.wheel on c),
)
run_stays ρ R S [] (a ∷ rs) T on l s = elim l [ ]
run_stays ρ R S (c ∷ cs) [] T on l s = elim l [ ]

pub records_stay : (ρ : Run) (R S : Records) (cs : List Call) (rs : List Answer) → Tells R ρ.wheel → ρ.wheel.enabled ≡ true → (l : Leads R cs rs S)
    → RunOpen wheel01 ρ cs → StaysOpen l
records_stay ρ R S [] [] T on done s = tells_open R ρ.wheel T on ∙ s
records_stay ρ R S (c ∷ cs) (a ∷ rs) T on (then {M = M} p l) s = (
  tells_open R ρ.wheel T on ∙ s.0,
  ⊎_elim
      (λ (i : (step wheel01 ρ.wheel c).1.enabled ≡ true). records_stay (next wheel01 ρ c) M S cs rs (step_is c R M a ρ.wheel T p).1 i l s.1)
      (λ i. absurd (false≢true (created_shut ρ i.0 c i.1 ∙ stays_first wheel01 (next wheel01 ρ c) cs s.1)))
      (stays_enabled wheel01 ρ.wheel on c),
)
records_stay ρ R S [] (a ∷ rs) T on l s = elim l [ ]
records_stay ρ R S (c ∷ cs) [] T on l s = elim l [ ]

-- ---- an advance
module _ (ρ : Run) (S : Records) (T : Tells S ρ.wheel) where
  pub run_advancing : (q : ℕ) (ps : List Call) (rs : List Answer) (U : Records) → Advancing S q ps rs U → RunAdvancing wheel01 ρ q ps
  run_advancing q ps rs U a =
      let y = step_is (start q) S a.opened ok ρ.wheel T a.starts in
      record {
        taken = sym y.0;
        stays = run_stays (next wheel01 ρ (start q)) a.opened U ps rs y.1 (start_taken wheel01 ρ q (sym y.0)).5 a.calls a.stays;
      }

  pub records_advancing : (q : ℕ) (ps : List Call) (rs : List Answer) (M U : Records) (b : Answer) → Promised (start q) S M b → Leads M ps rs U
      → RunAdvancing wheel01 ρ q ps → (b ≡ ok) × Advancing S q ps rs U
  records_advancing q ps rs M U b p l a =
      let y = step_is (start q) S M b ρ.wheel T p in
      let is : b ≡ ok = y.0 ∙ a.taken in (
        is,
        record {
          opened = M;
          starts = subst (Promised (start q) S M) is p;
          calls = l;
          stays = records_stay (next wheel01 ρ (start q)) M U ps rs y.1 (start_taken wheel01 ρ q a.taken).5 l a.stays;
        },
      )
