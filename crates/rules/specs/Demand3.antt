-- inner: demand 3: what is promised of a timer over a run of calls. The demand's words stand beside what states them.
--
-- "Let only this wheel's calls write the lent records. Arm or re-arm a timer whose deadline is not in an earlier tick
-- than the wheel's reading, and change neither it nor its deadline afterwards. It stands in exactly one bucket until it
-- is handed out. No advance to a reading before the deadline hands it out. The first advance that is read to its end,
-- goes to the deadline or later and enters a later tick than the one it started in hands it out once, unless an
-- abandoned one already had. Calls on other timers, refused calls, abandoned advances and a clock stepped back do not
-- alter this."
--
-- A timer is its slot x and serial n; e is its entry, d its deadline, R the run just after it was armed. Each part
-- speaks of every list of calls from there on.
use Rattle.std.specs.Prelude.{ℕ, ◌≤◌, ◌<◌, true, List, [], ◌∷◌, ◌++◌, ◌⊎◌, ◌≡◌}
use Rattle.std.proofs.Math.Option.{some}
use Rattle.rules.specs.Calls.{is_open, origin}
use Rattle.rules.specs.Lists.{times}
use Rattle.rules.specs.Places.{Geometry, buckets}
use Rattle.rules.specs.Runs.{refusal, step, Run, answer, next, answers, after}
use Rattle.rules.specs.Wheel.{hit, Wheel, Call, create, enable, set_entry, schedule, reschedule, deschedule, start, pull, abandon, armed_count, next_due}
use Rattle.rules.specs.Wheel.{ok, handle, end, expired, Changes, hands_out, handed, Later}

-- ---- the premises
-- "Arm or re-arm": the call, at the wheel w, is a schedule that answers the handle (x, n), or a reschedule with that
-- handle that is not refused and does not remove
abbrev pub Arms : Geometry → Wheel → Call → ℕ → ℕ → ℕ → ℕ → Type 0
Arms g w (create m) x n e d = ⊥
Arms g w (enable m k f) x n e d = ⊥
Arms g w (set_entry i o h) x n e d = ⊥
Arms g w (schedule i h) x n e d = ((step g w (schedule i h)).0 ≡ handle x n) × (i ≡ e) × ((w.entry e).deadline ≡ some d)
Arms g w (reschedule y m h) x n e d =
    ((step g w (reschedule y m h)).0 ≡ ok) × (y ≡ x) × (m ≡ n) × ((w.lists.node x).entry ≡ e) × ((w.entry e).deadline ≡ some d)
Arms g w (deschedule y m h) x n e d = ⊥
Arms g w (start q) x n e d = ⊥
Arms g w pull x n e d = ⊥
Arms g w abandon x n e d = ⊥
Arms g w armed_count x n e d = ⊥
Arms g w next_due x n e d = ⊥

-- "and change neither it nor its deadline afterwards": each call that would is refused. All other calls are free.
abbrev pub Unchanged : Geometry → ℕ → ℕ → ℕ → ℕ → Run → List Call → Type 0
Unchanged g x n e d R [] = Unit {0}
Unchanged g x n e d R (c ∷ cs) =
    (Changes x n e d c → refusal g R.wheel c ≡ 0 → ⊥) × Unchanged g x n e d (next g R c) cs

-- "until it is handed out": the calls have not handed it out yet
abbrev pub NotYet : Geometry → ℕ → Run → List Call → Type 0
NotYet g n R cs = handed n (answers g R cs) ≡ 0

-- "It stands in exactly one bucket": the timer's slot is armed, with its serial and its entry, and stands once in one
-- of the wheel's buckets and in no other
abbrev pub InOneBucket : Geometry → ℕ → ℕ → ℕ → Wheel → Type 0
InOneBucket g x n e w =
    ((w.lists.node x).armed ≡ true) × ((w.lists.node x).serial ≡ n) × ((w.lists.node x).entry ≡ e) ×
    ((b : ℕ) × (b < buckets g) × ((c : ℕ) → times x (w.lists.bucket c) ≡ hit b c))

-- ---- advances
-- each of the calls finds an advance open, and so does what comes after them
abbrev pub StaysOpen : Geometry → Run → List Call → Type 0
StaysOpen g R [] = is_open R.wheel.advance ≡ true
StaysOpen g R (c ∷ cs) = (is_open R.wheel.advance ≡ true) × StaysOpen g (next g R c) cs

-- an advance to q: the start is taken at R, and its advance stays open over the calls ps
pub record Advancing (g : Geometry) (R : Run) (q : ℕ) (ps : List Call) : Type 0 where
  pub taken : answer g R (start q) ≡ ok
  pub stays : StaysOpen g (next g R (start q)) ps

-- "read to its end": then a pull answers End
abbrev pub ReadToItsEnd : Geometry → Run → ℕ → List Call → Type 0
ReadToItsEnd g R q ps = Advancing g R q ps × (answer g (after g R (start q ∷ ps)) pull ≡ end)

-- "abandoned": then an abandon is taken
abbrev pub Abandoned : Geometry → Run → ℕ → List Call → Type 0
Abandoned g R q ps = Advancing g R q ps × (answer g (after g R (start q ∷ ps)) abandon ≡ ok)

-- "an advance that is read to its end, goes to the deadline or later and enters a later tick than the one it started
-- in"
abbrev pub Full : Geometry → ℕ → Run → ℕ → List Call → Type 0
Full g d R q ps = ReadToItsEnd g R q ps × (d ≤ q) × Later g R.wheel.reading q

-- where an advance stands among the calls cs: the calls bs before it, start q and ps, then the call c, and the rest
pub record Among (cs : List Call) (c : Call) : Type 0 where
  pub bs : List Call
  pub q : ℕ
  pub ps : List Call
  pub rest : List Call
  pub is : cs ≡ bs ++ ((start q ∷ ps) ++ (c ∷ rest))

-- "the first": there is no such advance among the calls before
abbrev pub NoneBefore : Geometry → ℕ → Run → List Call → Type 0
NoneBefore g d R cs = (a : Among cs pull) → Full g d (after g R a.bs) a.q a.ps → ⊥

-- "an abandoned one already had": an advance that was abandoned among the calls before handed it out
abbrev pub AbandonedOneHad : Geometry → ℕ → Run → List Call → Type 0
AbandonedOneHad g n R cs =
    (a : Among cs abandon) × Abandoned g (after g R a.bs) a.q a.ps ×
    (handed n (answers g (after g R a.bs) (start a.q ∷ a.ps)) ≡ 1)

-- ---- the demand
pub record Demand3 (g : Geometry) (x n e d : ℕ) (R : Run) : Type 0 where
  -- "It stands in exactly one bucket until it is handed out."
  pub one_bucket : (cs : List Call) → Unchanged g x n e d R cs → NotYet g n R cs → InOneBucket g x n e (after g R cs).wheel
  -- "No advance to a reading before the deadline hands it out."
  pub not_early :
      (cs : List Call) (q : ℕ) (ps : List Call) → Unchanged g x n e d R (cs ++ (start q ∷ ps)) → Advancing g (after g R cs) q ps → q < d
      → handed n (answers g (after g R cs) (start q ∷ ps)) ≡ 0
  -- "The first advance that is read to its end, goes to the deadline or later and enters a later tick than the one it
  -- started in hands it out once, unless an abandoned one already had."
  pub first_hands_out :
      (cs : List Call) (q : ℕ) (ps : List Call) → Unchanged g x n e d R (cs ++ (start q ∷ ps)) → Full g d (after g R cs) q ps → NoneBefore g d R cs
      → (handed n (answers g (after g R cs) (start q ∷ ps)) ≡ 1) ⊎ AbandonedOneHad g n R cs
  -- At the end of every such advance, the first or a later one, it has been handed out.
  pub by_then :
      (cs : List Call) (q : ℕ) (ps : List Call) → Unchanged g x n e d R (cs ++ (start q ∷ ps)) → Full g d (after g R cs) q ps
      → handed n (answers g R (cs ++ (start q ∷ ps))) ≡ 1
  -- It is handed out once at most.
  pub at_most_once : (cs : List Call) → Unchanged g x n e d R cs → handed n (answers g R cs) ≤ 1
  -- What hands it out says its entry, serial and deadline, and belongs to an advance that goes to the deadline or later
  -- and enters a later tick.
  pub says :
      (cs : List Call) (c : Call) → Unchanged g x n e d R (cs ++ (c ∷ [])) → 0 < hands_out n (answer g (after g R cs) c)
      → (answer g (after g R cs) c ≡ expired e n d) × (d ≤ (after g R cs).wheel.reading) ×
      Later g (origin (after g R cs).wheel.advance (after g R cs).wheel.reading) (after g R cs).wheel.reading
