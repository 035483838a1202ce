-- Two results that meet a promise coincide: the answer itself, every record and the clock.
use Prim.Native.Nat.{ℕ}
use native.Mathlib.Omega.{arith}
use mathlib.Core.Path.{◌≡◌, refl, sym, ap}
use mathlib.Core.List.{List}
use Rattle.rules.specs.Wheel.{Call, create, Answer, handle, number, due}
use Rattle.wheel_rules.specs.declared.calls.Clock.{Clock}
use Rattle.wheel_rules.specs.Lent.{Nodes, Entries, Records, records}
use Rattle.numbers.proofs.Numbered.{number_once}
use Rattle.numbers.specs.Refusals.{number_of}
use Rattle.numbers.specs.declared.refusals.Refusal.{Refusal}
use Rattle.std.specs.Prelude.{Option, Some, None, Result, Ok, Err}
use Rattle.wheel_rules.specs.declared.calls.After.{After}
use Rattle.wheel_rules.specs.declared.calls.Event.{Event}
use Rattle.wheel_rules.specs.declared.calls.Event.TheVariants.{Expired, Rescheduled as Placed, End}
use Rattle.wheel_rules.specs.declared.calls.Handle.{Handle}
use Rattle.wheel_rules.specs.declared.calls.Rescheduled.{Rescheduled}
use Rattle.wheel_rules.specs.declared.calls.Rescheduled.TheVariants.{Moved, Removed}
use Rattle.rules.specs.Wheel.{refused, ok}
use Rattle.wheel_rules.specs.Promise.{says, timed_says, noted_says, scheduled_says, rescheduled_says, pulled_says, counted_says, due_says}
use Rattle.wheel_rules.specs.Promise.{handle_told, rescheduled_told, told, due_told, timed_clock, clock_after, Promised, over, Begins}
use Rattle.wheel_rules.proofs.calls.Promising.{coincide}

-- ---- what is said determines the answer
-- of a value: the same is said of no other, and a refusal of none
pub record Telling {A : Type 0} (f : A → Answer) : Type 0 where
  pub once : (a b : A) → f a ≡ f b → a ≡ b
  pub never : (a : A) (k : ℕ) → f a ≡ refused k → ⊥

refused_once : (u v : Refusal) → ◌≡◌ {A = Answer} (refused (number_of u)) (refused (number_of v)) → u ≡ v
refused_once u v e = number_once u v cc

-- with a clock beside the value
module _ {A : Type 0} (f : A → Answer) (t : Telling f) (c : Clock) where
  after : (r s : Result (After A) Refusal) → says (λ a. f a.answer) r ≡ says (λ a. f a.answer) s → clock_after c r ≡ clock_after c s → r ≡ s
  after (Ok x) (Ok y) e g = ap Ok (λ i. record { clock = g i; answer = t.once x.answer y.answer e i })
  after (Ok x) (Err v) e g = absurd (t.never x.answer (number_of v) e)
  after (Err u) (Ok y) e g = absurd (t.never y.answer (number_of u) (sym e))
  after (Err u) (Err v) e g = ap Err (refused_once u v e)

module _ {A : Type 0} (f : A → Answer) (t : Telling f) where
  pub alone : (r s : Result A Refusal) → says f r ≡ says f s → r ≡ s
  alone (Ok x) (Ok y) e = ap Ok (t.once x y e)
  alone (Ok x) (Err v) e = absurd (t.never x (number_of v) e)
  alone (Err u) (Ok y) e = absurd (t.never y (number_of u) (sym e))
  alone (Err u) (Err v) e = ap Err (refused_once u v e)

timed : (c : Clock) (r s : Result Clock Refusal) → timed_says r ≡ timed_says s → timed_clock c r ≡ timed_clock c s → r ≡ s
timed c (Ok x) (Ok y) e f = ap Ok f
timed c (Ok x) (Err v) e f = let z : ◌≡◌ {A = ℕ} 0 1 = cc in absurd (omega arith)
timed c (Err u) (Ok y) e f = let z : ◌≡◌ {A = ℕ} 0 1 = cc in absurd (omega arith)
timed c (Err u) (Err v) e f = ap Err (refused_once u v e)

pub handles : Telling handle_told
handles = record {
  once = λ a b e i. record { slot = slots e i; serial = serials e i };
  never = λ a k e. let z : ◌≡◌ {A = ℕ} 0 1 = cc in omega arith;
}
  where
    slots : {x n y m : ℕ} → handle x n ≡ handle y m → x ≡ y
    slots e = cc

    serials : {x n y m : ℕ} → handle x n ≡ handle y m → n ≡ m
    serials e = cc

pub moves : Telling rescheduled_told
moves = record { once = once; never = never }
  where
    once : (a b : Rescheduled) → rescheduled_told a ≡ rescheduled_told b → a ≡ b
    once Moved Moved e = refl
    once Moved Removed e = let z : ◌≡◌ {A = ℕ} 0 1 = cc in absurd (omega arith)
    once Removed Moved e = let z : ◌≡◌ {A = ℕ} 0 1 = cc in absurd (omega arith)
    once Removed Removed e = refl

    never : (a : Rescheduled) (k : ℕ) → rescheduled_told a ≡ refused k → ⊥
    never Moved k e = let z : ◌≡◌ {A = ℕ} 0 1 = cc in omega arith
    never Removed k e = let z : ◌≡◌ {A = ℕ} 0 1 = cc in omega arith

pub events : Telling told
events = record { once = once; never = never }
  where
    once : (a b : Event) → told a ≡ told b → a ≡ b
    once (Expired x n d) (Expired y m b) e = cc
    once (Expired x n d) (Placed y m b) e = let z : ◌≡◌ {A = ℕ} 0 1 = cc in absurd (omega arith)
    once (Expired x n d) End e = let z : ◌≡◌ {A = ℕ} 0 1 = cc in absurd (omega arith)
    once (Placed x n d) (Expired y m b) e = let z : ◌≡◌ {A = ℕ} 0 1 = cc in absurd (omega arith)
    once (Placed x n d) (Placed y m b) e = cc
    once (Placed x n d) End e = let z : ◌≡◌ {A = ℕ} 0 1 = cc in absurd (omega arith)
    once End (Expired y m b) e = let z : ◌≡◌ {A = ℕ} 0 1 = cc in absurd (omega arith)
    once End (Placed y m b) e = let z : ◌≡◌ {A = ℕ} 0 1 = cc in absurd (omega arith)
    once End End e = refl

    never : (a : Event) (k : ℕ) → told a ≡ refused k → ⊥
    never (Expired x n d) k e = let z : ◌≡◌ {A = ℕ} 0 1 = cc in omega arith
    never (Placed x n d) k e = let z : ◌≡◌ {A = ℕ} 0 1 = cc in omega arith
    never End k e = let z : ◌≡◌ {A = ℕ} 0 1 = cc in omega arith

-- nothing to say but that it is done
pub done : Telling {A = Unit {0}} (λ u. ok)
done = record { once = λ a b e. refl; never = λ a k e. let z : ◌≡◌ {A = ℕ} 0 1 = cc in omega arith }

pub counts : Telling number
counts = record { once = λ a b e. cc; never = λ a k e. let z : ◌≡◌ {A = ℕ} 0 1 = cc in omega arith }

pub dues : Telling {A = Option ℕ} (λ o. due (due_told o))
dues = record { once = once; never = λ a k e. let z : ◌≡◌ {A = ℕ} 0 1 = cc in omega arith }
  where
    once : (a b : Option ℕ) → due (due_told a) ≡ due (due_told b) → a ≡ b
    once (Some x) (Some y) e = cc
    once (Some x) None e = let z : ◌≡◌ {A = ℕ} 0 1 = cc in absurd (omega arith)
    once None (Some y) e = let z : ◌≡◌ {A = ℕ} 0 1 = cc in absurd (omega arith)
    once None None e = refl

-- ---- the calls: the clock afterwards is the one that the answer hands back, or the caller's own
abbrev pub clock_of : Records → Clock
clock_of R = R.clock

-- create hands out one clock, and one list of heads and of tails, whatever is lent
pub create_coincides : (first : ℕ) (R : Records) (c k : Clock) (h t h' t' : List ℕ) (a b : Answer) → Begins first c h t a → Begins first k h' t' b
    → (c ≡ k) × (h ≡ h') × (t ≡ t') × (a ≡ b)
create_coincides first R c k h t h' t' a b p q =
    let u = coincide R (over R c h t) (over R k h' t') (create first) a b (p.promised R) (q.promised R) in (
      ap clock_of u.1,
      ap (λ (x : Records). x.nodes.links.heads) u.1,
      ap (λ (x : Records). x.nodes.links.tails) u.1,
      u.0,
    )

module _ (R : Records) (N M : Nodes) (E F : Entries) (c : Call) where
  -- what is said, nodes, entries and clock
  one : (a b : Answer) (k l : Clock) → Promised c R (records N E k) a → Promised c R (records M F l) b → (a ≡ b) × (k ≡ l) × (N ≡ M) × (E ≡ F)
  one a b k l p q =
      let u = coincide R (records N E k) (records M F l) c a b p q in
      (u.0, ap clock_of u.1, ap (λ (x : Records). x.nodes) u.1, ap (λ (x : Records). x.entries) u.1)

  -- enable, deschedule, start, abandon
  pub timed_coincides : (r s : Result Clock Refusal) → Promised c R (records N E (timed_clock R.clock r)) (timed_says r)
      → Promised c R (records M F (timed_clock R.clock s)) (timed_says s) → (r ≡ s) × (N ≡ M) × (E ≡ F)
  timed_coincides r s p q = let u = one _ _ _ _ p q in (timed R.clock r s u.0 u.1, u.2, u.3)

  -- schedule
  pub scheduled_coincides : (r s : Result (After Handle) Refusal) → Promised c R (records N E (clock_after R.clock r)) (scheduled_says r)
      → Promised c R (records M F (clock_after R.clock s)) (scheduled_says s) → (r ≡ s) × (N ≡ M) × (E ≡ F)
  scheduled_coincides r s p q = let u = one _ _ _ _ p q in (after _ handles R.clock r s u.0 u.1, u.2, u.3)

  -- reschedule
  pub rescheduled_coincides : (r s : Result (After Rescheduled) Refusal) → Promised c R (records N E (clock_after R.clock r)) (rescheduled_says r)
      → Promised c R (records M F (clock_after R.clock s)) (rescheduled_says s) → (r ≡ s) × (N ≡ M) × (E ≡ F)
  rescheduled_coincides r s p q = let u = one _ _ _ _ p q in (after _ moves R.clock r s u.0 u.1, u.2, u.3)

  -- pull
  pub pulled_coincides : (r s : Result (After Event) Refusal) → Promised c R (records N E (clock_after R.clock r)) (pulled_says r)
      → Promised c R (records M F (clock_after R.clock s)) (pulled_says s) → (r ≡ s) × (N ≡ M) × (E ≡ F)
  pulled_coincides r s p q = let u = one _ _ _ _ p q in (after _ events R.clock r s u.0 u.1, u.2, u.3)

-- set entry; the two counts, which change nothing
module _ (R S T : Records) (c : Call) where
  pub noted_coincides : (r s : Result (Unit {0}) Refusal) → Promised c R S (noted_says r) → Promised c R T (noted_says s) → (r ≡ s) × (S ≡ T)
  noted_coincides r s p q = let u = coincide R S T c _ _ p q in (alone _ done r s u.0, u.1)

  pub counted_coincides : (r s : Result ℕ Refusal) → Promised c R S (counted_says r) → Promised c R T (counted_says s) → (r ≡ s) × (S ≡ T)
  counted_coincides r s p q = let u = coincide R S T c _ _ p q in (alone _ counts r s u.0, u.1)

  pub due_coincides : (r s : Result (Option ℕ) Refusal) → Promised c R S (due_says r) → Promised c R T (due_says s) → (r ≡ s) × (S ≡ T)
  due_coincides r s p q = let u = coincide R S T c _ _ p q in (alone _ dues r s u.0, u.1)
