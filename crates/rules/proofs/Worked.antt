-- 01's table of levels, and its run examples of the wheel, computed by the rules. (W1 to W9 stand in the crate worked.)
use Prim.Native.Nat.{ℕ, ◌+◌, ◌-◌, ◌*◌, ◌^◌}
use mathlib.Core.Path.{◌≡◌, refl}
use mathlib.Core.Bool.{true}
use mathlib.Core.Option.{none, some}
use mathlib.Core.List.{List, [], ◌∷◌}
use Rattle.rules.specs.Geometry.{shifts, counts}
use Rattle.rules.specs.Places.{wheel01, tick, buckets}
use Rattle.rules.specs.Wheel.{Call, create, enable, set_entry, schedule, reschedule, deschedule, start, pull, abandon, armed_count, next_due, refused}
use Rattle.rules.specs.Wheel.{ok, handle, removed, end, expired, rescheduled, number, due}
use Rattle.rules.specs.Runs.{Run, answers, after}
use Rattle.rules.specs.Worked.{nothing}

-- 01's table of levels
pub table_shifts : shifts wheel01.shift wheel01.sizes ≡ 30 ∷ 36 ∷ 42 ∷ 47 ∷ 49 ∷ []
table_shifts = refl

pub table_counts : counts wheel01.sizes ≡ 64 ∷ 64 ∷ 32 ∷ 4 ∷ 1 ∷ []
table_counts = refl

pub table_buckets : buckets wheel01 ≡ 165
table_buckets = refl

-- a wheel of 200 node records and 8 entries, first serial 7
abbrev new : Run
new = after wheel01 nothing (create 7 ∷ enable 200 8 true ∷ [])

-- "Deadline 10 armed at 0: advance to 2^30 - 1 gives End only; then to 2^30 gives Expired."
pub deadline_10 :
    answers wheel01 new (set_entry 0 (some 10) 0 ∷ schedule 0 0 ∷ start (2 ^ 30 - 1) ∷ pull ∷ start (2 ^ 30) ∷ pull ∷ pull ∷ [])
    ≡ ok ∷ handle 165 7 ∷ ok ∷ end ∷ ok ∷ expired 0 7 10 ∷ end ∷ []
unfolding tick
deadline_10 = refl

-- "Deadline 2^36 + 5 x 2^30 armed at 0, advance to 2^36: Rescheduled to (0,5)."
pub cascade :
    answers wheel01 new (set_entry 0 (some (2 ^ 36 + 5 * 2 ^ 30)) 0 ∷ schedule 0 0 ∷ start (2 ^ 36) ∷ pull ∷ pull ∷ armed_count ∷ next_due ∷ [])
    ≡ ok ∷ handle 165 7 ∷ ok ∷ rescheduled 0 7 5 ∷ end ∷ number 1 ∷ due (some (2 ^ 36 + 5 * 2 ^ 30)) ∷ []
unfolding tick
cascade = refl

-- "A, B, C due at 10, 20, 30; start 2^30, pull A, abandon, arm D due at 40; the next advance to 2^30 gives D, B, C."
pub d_b_c :
    answers wheel01 new (
    set_entry 0 (some 10) 0 ∷ set_entry 1 (some 20) 0 ∷ set_entry 2 (some 30) 0 ∷ set_entry 3 (some 40) 0 ∷ schedule 0 0 ∷ schedule 1 0 ∷ schedule 2 0 ∷
    start (2 ^ 30) ∷ pull ∷ schedule 3 0 ∷ abandon ∷ schedule 3 0 ∷ start (2 ^ 30) ∷ pull ∷ pull ∷ pull ∷ pull ∷ [])
    ≡ ok ∷ ok ∷ ok ∷ ok ∷ handle 165 7 ∷ handle 166 8 ∷ handle 167 9 ∷ ok ∷ expired 0 7 10 ∷ refused 5 ∷ ok ∷ handle 165 10 ∷ ok ∷ expired 3 10 40 ∷
    expired 1 8 20 ∷ expired 2 9 30 ∷ end ∷ []
unfolding tick
d_b_c = refl

-- "From 3 x 2^30 to 2 x 2^30: End, reading 2 x 2^30."
abbrev back : List Call
back = start (3 * 2 ^ 30) ∷ pull ∷ start (2 * 2 ^ 30) ∷ pull ∷ []

pub stepped_back_lem : answers wheel01 new back ≡ ok ∷ end ∷ ok ∷ end ∷ []
unfolding tick
stepped_back_lem = refl

pub stepped_back_reading : (after wheel01 new back).wheel.reading ≡ 2 * 2 ^ 30
unfolding tick
stepped_back_reading = refl

-- refusals, the lowest number first
pub refusals :
    answers wheel01 nothing (
    pull ∷ create 3 ∷ abandon ∷ enable 165 1 true ∷ enable 166 1 true ∷ enable 166 1 true ∷ pull ∷ set_entry 1 none 0 ∷ schedule 1 0 ∷ schedule 0 4 ∷ schedule 0 0 ∷
    set_entry 0 (some 9) 4 ∷ schedule 0 4 ∷ schedule 0 4 ∷ reschedule 165 4 0 ∷ reschedule 165 3 0 ∷ start 5 ∷ reschedule 165 4 0 ∷ armed_count ∷ next_due ∷
    abandon ∷
    set_entry 0 none 4 ∷ next_due ∷ reschedule 165 3 4 ∷ deschedule 165 3 4 ∷ [])
    ≡ refused 1 ∷ ok ∷ refused 1 ∷ refused 3 ∷ ok ∷ refused 2 ∷ refused 6 ∷ refused 7 ∷ refused 7 ∷ refused 8 ∷ refused 9 ∷
    ok ∷ handle 165 3 ∷ refused 10 ∷ refused 12 ∷ refused 13 ∷ ok ∷ refused 5 ∷ number 1 ∷ refused 5 ∷ ok ∷
    ok ∷ due none ∷ removed ∷ refused 12 ∷ []
unfolding tick
refusals = refl

-- 11, "next serial is 2^64 - 1"
pub spent :
    answers wheel01 nothing (create (2 ^ 64 - 1) ∷ enable 166 1 true ∷ set_entry 0 (some 9) 0 ∷ schedule 0 0 ∷ []) ≡ ok ∷ ok ∷ ok ∷ refused 11 ∷ []
unfolding tick
spent = refl

-- "One entry may be armed more than once." "The free slot taken is the last one freed; at the start the lowest, 165
-- first."
pub armed_twice :
    answers wheel01 new (set_entry 0 (some 10) 0 ∷ schedule 0 0 ∷ schedule 0 0 ∷ schedule 0 0 ∷ deschedule 166 8 0 ∷ deschedule 165 7 0 ∷ schedule 0 0 ∷
    schedule 0 0 ∷ armed_count ∷ [])
    ≡ ok ∷ handle 165 7 ∷ handle 166 8 ∷ handle 167 9 ∷ ok ∷ ok ∷ handle 165 10 ∷ handle 166 11 ∷ number 3 ∷ []
unfolding tick
armed_twice = refl

-- "Another create may give the same two again": the first handle of the second wheel is that of the first, and a call
-- with it is a call on the timer that has it now
pub given_again :
    answers wheel01 new (
    set_entry 0 (some 10) 0 ∷ schedule 0 0 ∷ create 7 ∷ enable 200 8 true ∷ deschedule 165 7 0 ∷ set_entry 0 (some 20) 0 ∷ schedule 0 0 ∷ next_due ∷ deschedule 165 7 0
    ∷ next_due ∷ [])
    ≡ ok ∷ handle 165 7 ∷ ok ∷ ok ∷ refused 12 ∷ ok ∷ handle 165 7 ∷ due (some 20) ∷ ok ∷ due none ∷ []
unfolding tick
given_again = refl

-- a timer's way through the levels: from level 2 to level 1 to level 0, and out
abbrev far : ℕ
far = 2 ^ 42 + 6 * 2 ^ 36 + 9 * 2 ^ 30

pub way_through :
    answers wheel01 new (set_entry 0 (some far) 0 ∷ schedule 0 0 ∷ start (2 ^ 42) ∷ pull ∷ pull ∷ start (2 ^ 42 + 6 * 2 ^ 36) ∷ pull ∷ pull ∷ start far ∷ pull ∷
    pull ∷ [])
    ≡ ok ∷ handle 165 7 ∷ ok ∷ rescheduled 0 7 (1 * 64 + 6) ∷ end ∷ ok ∷ rescheduled 0 7 (0 * 64 + 9) ∷ end ∷ ok ∷ expired 0 7 far ∷ end ∷ []
unfolding tick
way_through = refl
