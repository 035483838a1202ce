-- The wheel over one lent array of node structs, and as C functions: the records that lent nodes are, what the answers
-- say, answers as five numbers, and the promise and the histories of the C functions.
use Rattle.std.specs.Prelude.{ℕ, Bool, List, map, [], ◌∷◌, ◌≡◌, get_or, Result}
use Rattle.std.proofs.Math.Option.{none, some}
use Rattle.face_rules.specs.declared.Node.{Node}
use Rattle.numbers.specs.declared.refusals.Refusal.{Refusal}
use Rattle.rules.specs.Wheel.{Answer, refused, handle, ok, removed, end, expired, rescheduled, number, due, Call, create}
use Rattle.wheel_rules.specs.Promise.{Promised, says, handle_told, rescheduled_told, told}
use Rattle.wheel_rules.specs.Lent.{Records, lent}
use Rattle.wheel_rules.specs.declared.calls.Clock.{Clock}
use Rattle.wheel_rules.specs.declared.calls.Event.{Event}
use Rattle.wheel_rules.specs.declared.calls.Handle.{Handle}
use Rattle.wheel_rules.specs.declared.calls.Rescheduled.{Rescheduled}

-- ======== lent nodes

-- ---- one field of every node, in order
abbrev pub next_slots : List Node → List ℕ
next_slots = map (λ (v : Node). v.next)

abbrev pub prev_slots : List Node → List ℕ
prev_slots = map (λ (v : Node). v.prev)

abbrev pub bucket_numbers : List Node → List ℕ
bucket_numbers = map (λ (v : Node). v.bucket)

abbrev pub entry_numbers : List Node → List ℕ
entry_numbers = map (λ (v : Node). v.entry)

abbrev pub generations : List Node → List ℕ
generations = map (λ (v : Node). v.generation)

abbrev pub serials : List Node → List ℕ
serials = map (λ (v : Node). v.serial)

-- "The node records are lent as one array", with heads and tails, the entries and the clock beside it: heads, tails;
-- nodes; dated, deadline, stamp; clock
abbrev pub records_of : List ℕ → List ℕ → List Node → List Bool → List ℕ → List ℕ → Clock → Records
records_of h t ns d l m c = lent h t (next_slots ns) (prev_slots ns) (bucket_numbers ns) (entry_numbers ns) (generations ns) (serials ns) d l m c

-- ======== answers

-- "A refusal carries its number and no value"
abbrev pub scheduled_says : Result Handle Refusal → Answer
scheduled_says = says handle_told

abbrev pub rescheduled_says : Result Rescheduled Refusal → Answer
rescheduled_says = says rescheduled_told

abbrev pub pulled_says : Result Event Refusal → Answer
pulled_says = says told

-- ======== answers in numbers

-- the refusal's number, or 0; then which answer it is, and its values, with 0 in what is left: 0 done (also of a
-- reschedule that moves), 1 the handle (slot, serial), 2 removed, 3 End, 4 expired (entry, serial, deadline), 5 placed
-- anew (entry, serial, place), 6 a count, 7 the next deadline, 8 no deadline
abbrev pub words_of : Answer → List ℕ
words_of (refused n) = n ∷ 0 ∷ 0 ∷ 0 ∷ 0 ∷ []
words_of ok = 0 ∷ 0 ∷ 0 ∷ 0 ∷ 0 ∷ []
words_of (handle slot serial) = 0 ∷ 1 ∷ slot ∷ serial ∷ 0 ∷ []
words_of removed = 0 ∷ 2 ∷ 0 ∷ 0 ∷ 0 ∷ []
words_of end = 0 ∷ 3 ∷ 0 ∷ 0 ∷ 0 ∷ []
words_of (expired entry serial deadline) = 0 ∷ 4 ∷ entry ∷ serial ∷ deadline ∷ []
words_of (rescheduled entry serial place) = 0 ∷ 5 ∷ entry ∷ serial ∷ place ∷ []
words_of (number k) = 0 ∷ 6 ∷ k ∷ 0 ∷ 0 ∷ []
words_of (due (some d)) = 0 ∷ 7 ∷ d ∷ 0 ∷ 0 ∷ []
words_of (due none) = 0 ∷ 8 ∷ 0 ∷ 0 ∷ 0 ∷ []

-- these are the lent numbers at exit, and the first of them is the result
pub record Writes (words a' : List ℕ) (r : ℕ) : Type 0 where
  pub words_are : a' ≡ words
  pub number_is : r ≡ get_or words 0 0

-- ======== C functions

-- The promise of every C function but create, whose promise is `Begins`: the wheel's promise of some answer, which is
-- written to the five lent numbers; the refusal's number, or 0, is the result r.
pub record Told (c : Call) (R R' : Records) (words : List ℕ) (r : ℕ) : Type 0 where
  pub answer : Answer
  pub promised : Promised c R R' answer
  pub written : Writes (words_of answer) words r

-- the calls lead from some lent records to others, and these are the numbers that they wrote: create writes none and is
-- done; each other step is any result that the function's promise allows, refused calls of every kind among them
pub data Exported : Records → List Call → List (List ℕ) → Records → Type 0 where
  done : {R : Records} → Exported R [] [] R
  begun : {R M S : Records} {n : ℕ} {cs : List Call} {ws : List (List ℕ)} → Promised (create n) R M ok → Exported M cs ws S
      → Exported R (create n ∷ cs) (words_of ok ∷ ws) S
  then : {R M S : Records} {c : Call} {words : List ℕ} {r : ℕ} {cs : List Call} {ws : List (List ℕ)} → Told c R M words r → Exported M cs ws S
      → Exported R (c ∷ cs) (words ∷ ws) S
