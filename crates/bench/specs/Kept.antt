-- inner to the programs: what a workload keeps: its records show a sound wheel, over as many nodes as it was given.
use Rattle.std.specs.Prelude.{◌≡◌, ℕ, ◌-◌, length}
use Rattle.rules.specs.Places.{wheel01}
use Rattle.wheel_rules.specs.Lent.{Records, records}
use Rattle.wheel_rules.specs.declared.calls.Clock.{Clock}
use Rattle.wheel_rules.specs.records.Moments.{Starts}
use Rattle.wheel_rules.specs.timers.Timers.{Ready}
use Rattle.wheel_timers.specs.Slices.{nodes_now, entries_now}
use Rattle.bench.specs.declared.wheels.records.Wheel.{Wheel}

-- the records that the wheel lends, with its clock
abbrev pub shown : Wheel → Records
shown w = records (nodes_now w.nodes) (entries_now w.entries) w.clock

-- the records show a sound wheel
abbrev pub Works : Records → Type 0
Works R = Ready wheel01 R

-- the wheel that is laid out over n node records: it is sound, has all of these, and an entry for each slot beside the
-- sentinels
abbrev pub Lies : ℕ → Wheel → Type 0
Lies n w = Works (shown w) × (length w.nodes.linked.next.now ≡ n) × (length w.entries.dated.now ≡ n - 165)

-- w has so many nodes and entries as v
abbrev pub SameSize : Wheel → Wheel → Type 0
SameSize v w =
    (length w.nodes.linked.next.now ≡ length v.nodes.linked.next.now) × (length w.entries.dated.now ≡ length v.entries.dated.now)

-- an advance to q is opened
abbrev pub Opens : Clock → ℕ → Clock → Type 0
Opens c q r = Starts wheel01 c r q
