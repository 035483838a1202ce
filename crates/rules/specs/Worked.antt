-- inner: what 01's worked numbers of the wheel say, as tests that compute: a place, and the tick in which a deadline
-- first fires.
use Rattle.std.specs.Prelude.{ℕ, zero, suc, ◌+◌, ◌-◌, ◌*◌, ◌^◌, Bool, true, false, cond, [], ◌∷◌, eqb}
use Rattle.std.proofs.Math.Option.{none, some}
use Rattle.rules.specs.Places.{wheel01, place_of}
use Rattle.rules.specs.Runs.{Run, answers, after}
use Rattle.rules.specs.Wheel.{bare, closed, create, enable, set_entry, schedule, start, pull, handed}

-- some run to begin with: create begins another wheel over whatever it holds
abbrev pub nothing : Run
nothing = record {
  wheel = record {
    enabled = false;
    nodes = 0;
    entries = 0;
    reading = 0;
    next = 0;
    advance = closed;
    lists = bare [];
    entry = λ e. record
        { deadline = none; generation = 0 };
  };
  placed = λ n. 0;
}

-- a wheel at the reading r, with one timer, due at d, armed there
abbrev pub armed_at : ℕ → ℕ → Run
armed_at r d = after wheel01 nothing (create 0 ∷ enable 166 1 true ∷ start r ∷ pull ∷ set_entry 0 (some d) 0 ∷ schedule 0 0 ∷ [])

-- how often an advance to q, read to its end, hands it out
abbrev pub fires_at : ℕ → ℕ → ℕ → ℕ
fires_at r d q = handed 0 (answers wheel01 (armed_at r d) (start q ∷ pull ∷ pull ∷ []))

-- the sum over the ticks below t, each by its last reading
abbrev pub fires_before : ℕ → ℕ → ℕ → ℕ
fires_before r d zero = 0
fires_before r d (suc t) = fires_at r d (suc t * 2 ^ 30 - 1) + fires_before r d t

-- the place of a deadline at a reading is (level, index)
abbrev pub is_placed : ℕ → ℕ → ℕ → ℕ → Bool
is_placed r d l i = eqb (place_of wheel01 r d) (l * 64 + i)

-- a deadline armed at a reading fires at the first reading of the tick t, and at the last reading of no earlier one
abbrev pub fires_first : ℕ → ℕ → ℕ → Bool
fires_first r d t = cond (eqb (fires_at r d (t * 2 ^ 30)) 1) (eqb (fires_before r d t) 0) false
