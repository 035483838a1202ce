-- inner: the refusal where more nodes are lent than a wheel may have, of every call but enable.
use Rattle.std.specs.Prelude.{ℕ, cond}
use Rattle.rules.specs.Wheel.{Call, create, enable, set_entry, schedule, reschedule, deschedule, start, pull, abandon, armed_count, next_due}
use Rattle.wheel_rules.specs.declared.calls.Clock.{Clock}

-- 1 "wheel not enabled"; 4 "not sound": "lengths are those at enabling", when at most 4,096 were lent
abbrev pub crowded_number : Clock → ℕ
crowded_number c = cond c.enabled 4 1

-- the calls that 1 names: "all wheel calls but create, enable"
abbrev pub OfOne : Call → Type 0
OfOne (create n) = ⊥
OfOne (enable m k f) = ⊥
OfOne (set_entry e o h) = Unit {0}
OfOne (schedule e h) = Unit {0}
OfOne (reschedule x n h) = Unit {0}
OfOne (deschedule x n h) = Unit {0}
OfOne (start q) = Unit {0}
OfOne pull = Unit {0}
OfOne abandon = Unit {0}
OfOne armed_count = Unit {0}
OfOne next_due = Unit {0}
