-- Histories of the public calls, and demand 3 of what a program sees: its calls, their answers, and the lent records.
--
-- "Let only this wheel's calls write the lent records. Arm or re-arm a timer whose deadline is not in an earlier tick
-- than the wheel's reading, and change neither it nor its deadline afterwards. It stands in exactly one bucket until it
-- is handed out. No advance to a reading before the deadline hands it out. The first advance that is read to its end,
-- goes to the deadline or later and enters a later tick than the one it started in hands it out once, unless an
-- abandoned one already had. Calls on other timers, refused calls, abandoned advances and a clock stepped back do not
-- alter this."
--
-- A timer is its slot x and serial n; e is its entry, d its deadline.
use Rattle.std.specs.Prelude.{ℕ, ◌<◌, ◌≤◌, true, List, [], ◌∷◌, ◌++◌, ◌⊎◌, ◌≡◌, get_or, length}
use Rattle.std.proofs.Math.Option.{some}
use Rattle.deque_rules.specs.Links.{list_from, home_of}
use Rattle.rules.specs.Places.{wheel01, buckets}
use Rattle.rules.specs.Wheel.{Call, Answer, refused, schedule, reschedule, ok, handle, Timely, hit, count, start, pull, end, Later, abandon, handed}
use Rattle.rules.specs.Wheel.{expired, LeftAlone, hands_out}
use Rattle.wheel_rules.specs.Promise.{Promised}
use Rattle.wheel_rules.specs.Lent.{Records, entry_at}

-- ======== histories

-- the calls lead from some lent records to others, with these answers: each step is any result that the call's promise
-- allows, refused calls of every kind among them
pub data Leads : Records → List Call → List Answer → Records → Type 0 where
  done : {R : Records} → Leads R [] [] R
  then : {R M S : Records} {c : Call} {a : Answer} {cs : List Call} {rs : List Answer} → Promised c R M a → Leads M cs rs S → Leads R (c ∷ cs) (a ∷ rs) S

-- no answer is the refusal 4, "not sound"
abbrev pub NeverFour : List Answer → Type 0
NeverFour [] = Unit {0}
NeverFour (a ∷ rs) = (a ≡ refused 4 → ⊥) × NeverFour rs

-- ======== demand 3

-- ---- arming
-- "Arm or re-arm a timer whose deadline is not in an earlier tick than the wheel's reading": at the records P a
-- schedule answers the handle (x, n), or a reschedule with that handle is done and does not remove; R are the records
-- then
pub record Arms (P R : Records) (x n e d : ℕ) : Type 0 where
  pub armed :
      ((h : ℕ) × Promised (schedule e h) P R (handle x n)) ⊎
      ((h : ℕ) × (get_or P.nodes.entry x 0 ≡ e) × Promised (reschedule x n h) P R ok)
  pub dated : (entry_at P.entries e).deadline ≡ some d
  pub timely : Timely wheel01 P.clock.reading d

-- ---- where it stands
-- the slots that the links of the bucket b lead through, from its head on
abbrev pub chain_of : Records → ℕ → List ℕ
chain_of R b = list_from (length R.nodes.links.next) R.nodes.links.next (get_or R.nodes.links.heads b 0)

-- "It stands in exactly one bucket": its slot is armed, with its serial and its entry, and one bucket's chain of links
-- holds it, once
pub record InOneBucket (x n e : ℕ) (R : Records) : Type 0 where
  pub armed : home_of R.nodes.links x < buckets wheel01
  pub serial : get_or R.nodes.serial x 0 ≡ n
  pub entry : get_or R.nodes.entry x 0 ≡ e
  pub once : (b : ℕ) → b < buckets wheel01 → count x (chain_of R b) ≡ hit (home_of R.nodes.links x) b

-- ---- advances
-- an advance is open before each of the calls, and after them
abbrev pub StaysOpen : {R S : Records} {cs : List Call} {rs : List Answer} → Leads R cs rs S → Type 0
StaysOpen (done {R = R}) = R.clock.open ≡ true
StaysOpen (then {R = R} p l) = (R.clock.open ≡ true) × StaysOpen l

-- an advance to q from the records S: the start is done, and the advance stays open over the calls ps, answered rs
pub record Advancing (S : Records) (q : ℕ) (ps : List Call) (rs : List Answer) (T : Records) : Type 0 where
  pub opened : Records
  pub starts : Promised (start q) S opened ok
  pub calls : Leads opened ps rs T
  pub stays : StaysOpen calls

-- then the call c is answered a: "read to its end" where a pull answers End, "abandoned" where an abandon is done
pub record Closing (S : Records) (q : ℕ) (ps : List Call) (rs : List Answer) (c : Call) (a : Answer) (U : Records) : Type 0 where
  pub last : Records
  pub advance : Advancing S q ps rs last
  pub closes : Promised c last U a

-- "an advance that is read to its end, goes to the deadline or later and enters a later tick than the one it started
-- in"
pub record Full (d : ℕ) (S : Records) (q : ℕ) (ps : List Call) (rs : List Answer) (U : Records) : Type 0 where
  pub ended : Closing S q ps rs pull end U
  pub reaches : d ≤ q
  pub later : Later wheel01 S.clock.reading q

-- where an advance that c, answered a, closed stands among the calls cs, answered rs, that lead from R to S: calls
-- before it, its start and the calls ps, c, and the rest
pub record Among (R : Records) (cs : List Call) (rs : List Answer) (S : Records) (c : Call) (a : Answer) : Type 0 where
  pub before : List Call
  pub told : List Answer
  pub from : Records
  pub leads : Leads R before told from
  pub q : ℕ
  pub ps : List Call
  pub answers : List Answer
  pub closed : Records
  pub advance : Closing from q ps answers c a closed
  pub rest : List Call
  pub further : List Answer
  pub on : Leads closed rest further S
  pub calls_are : cs ≡ before ++ ((start q ∷ ps) ++ (c ∷ rest))
  pub answers_are : rs ≡ told ++ ((ok ∷ answers) ++ (a ∷ further))

-- "the first": there is no such advance among the calls before
abbrev pub NoneBefore : ℕ → Records → List Call → List Answer → Records → Type 0
NoneBefore d R cs rs S = (a : Among R cs rs S pull end) → d ≤ a.q → Later wheel01 a.from.clock.reading a.q → ⊥

-- "an abandoned one already had": an advance that was abandoned among the calls before handed it out
abbrev pub AbandonedOneHad : ℕ → Records → List Call → List Answer → Records → Type 0
AbandonedOneHad n R cs rs S = (a : Among R cs rs S abandon ok) × (handed n a.answers ≡ 1)

-- ---- the demand, of the records R just after the timer was armed, over every history from there on
pub record Demand3 (x n e d : ℕ) (R : Records) : Type 0 where
  -- "It stands in exactly one bucket until it is handed out."
  pub one_bucket :
      (cs : List Call) (rs : List Answer) (S : Records) → Leads R cs rs S → LeftAlone x n e d cs rs → handed n rs ≡ 0 → InOneBucket x n e S
  -- "No advance to a reading before the deadline hands it out."
  pub not_early :
      (cs : List Call) (rs : List Answer) (S : Records) → Leads R cs rs S → LeftAlone x n e d cs rs →
      (q : ℕ) (ps : List Call) (ts : List Answer) (T : Records) → Advancing S q ps ts T → LeftAlone x n e d ps ts → q < d → handed n ts ≡ 0
  -- "The first advance that is read to its end, goes to the deadline or later and enters a later tick than the one it
  -- started in hands it out once, unless an abandoned one already had."
  pub first_hands_out :
      (cs : List Call) (rs : List Answer) (S : Records) → Leads R cs rs S → LeftAlone x n e d cs rs →
      (q : ℕ) (ps : List Call) (ts : List Answer) (U : Records) → Full d S q ps ts U → LeftAlone x n e d ps ts → NoneBefore d R cs rs S →
      (handed n ts ≡ 1) ⊎ AbandonedOneHad n R cs rs S
  -- At the end of every such advance, the first or a later one, it has been handed out, once.
  pub by_then :
      (cs : List Call) (rs : List Answer) (S : Records) → Leads R cs rs S → LeftAlone x n e d cs rs →
      (q : ℕ) (ps : List Call) (ts : List Answer) (U : Records) → Full d S q ps ts U → LeftAlone x n e d ps ts → handed n (rs ++ ts) ≡ 1
  -- It is handed out once at most.
  pub at_most_once : (cs : List Call) (rs : List Answer) (S : Records) → Leads R cs rs S → LeftAlone x n e d cs rs → handed n rs ≤ 1
  -- What hands it out says its entry, serial and deadline, and is a pull of an open advance that goes to the deadline
  -- or later and enters a later tick.
  pub says :
      (cs : List Call) (rs : List Answer) (S : Records) → Leads R cs rs S → LeftAlone x n e d cs rs →
      (c : Call) (a : Answer) (T : Records) → Promised c S T a → LeftAlone x n e d (c ∷ []) (a ∷ []) → 0 < hands_out n a →
      (a ≡ expired e n d) × (S.clock.open ≡ true) × (d ≤ S.clock.reading) × Later wheel01 S.clock.previous S.clock.reading
