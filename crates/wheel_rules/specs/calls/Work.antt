-- inner: what each call writes and answers where it is not refused, on the records as they are.
use Rattle.std.specs.Prelude.{ℕ, Bool, false, cond, length, get_or}
use Rattle.rules.specs.Places.{wheel01, bucket_of}
use Rattle.rules.specs.Wheel.{Answer, ok, handle, removed, number, due}
use Rattle.wheel_rules.specs.Promise.{told}
use Rattle.wheel_rules.specs.Promise.{bare_entries}
use Rattle.wheel_rules.specs.Lent.{Records, records}
use Rattle.wheel_rules.specs.layout.Layout.{bare_nodes, enabled_with}
use Rattle.wheel_rules.specs.popping.Pop.{event_of}
use Rattle.wheel_rules.specs.pull.Pull.{Step, pull_step}
use Rattle.wheel_rules.specs.records.Clocks.{set_free, counted, started, abandoned}
use Rattle.wheel_rules.specs.records.Counts.{armed_among, least_among}
use Rattle.wheel_rules.specs.records.Settings.{settled}
use Rattle.wheel_rules.specs.timers.Change.{armed_in, freed_from, moved_to}

-- "Enable: sentinels placed, other slots free, no open advance, each entry set to no deadline, generation 0." Reading
-- and next serial stay
abbrev pub laid_out : Records → Records
laid_out R =
    let D = length R.nodes.links.heads in
    let m = length R.nodes.links.next in
    let k = length R.entries.dated in
    records (bare_nodes D m) (bare_entries k) (enabled_with D m k R.clock)

-- ---- entries and timers
-- "Set entry: deadline or none, and generation, as given"; without a deadline 0 is written for it
abbrev pub entry_set : Records → ℕ → Bool → ℕ → ℕ → Records
entry_set R e has d h = records R.nodes (settled e has (cond has d 0) h R.entries) R.clock

-- the deadline that an entry holds, where it has one
abbrev pub deadline_at : Records → ℕ → ℕ
deadline_at R e = get_or R.entries.deadline e 0

-- "puts a new node at the back of its bucket, answers its handle"
abbrev pub scheduled : Records → ℕ → ℕ → Records
scheduled R e h =
    records
    (armed_in (bucket_of wheel01 R.clock.reading (deadline_at R e)) R.clock.free e h R.clock.serial R.nodes)
    R.entries (counted (get_or R.nodes.links.next R.clock.free 0) R.clock)

abbrev pub handle_of : Records → Answer
handle_of R = handle R.clock.free R.clock.serial

-- "unlinks and frees"
abbrev pub descheduled : Records → ℕ → Records
descheduled R x = records (freed_from x R.clock.free R.nodes) R.entries (set_free x R.clock)

-- "unlinks, places by the deadline now held, at the back. Without a deadline the slot is freed, answer Removed. Serial
-- and stored generation stay."
abbrev pub entry_of : Records → ℕ → ℕ
entry_of R x = get_or R.nodes.entry x 0

abbrev pub has_deadline : Records → ℕ → Bool
has_deadline R x = get_or R.entries.dated (entry_of R x) false

abbrev pub moved : Records → ℕ → Records
moved R x = records (moved_to (bucket_of wheel01 R.clock.reading (deadline_at R (entry_of R x))) x R.nodes) R.entries R.clock

abbrev pub rescheduled : Records → ℕ → Records
rescheduled R x = cond (has_deadline R x) (moved R x) (descheduled R x)

abbrev pub reschedule_says : Records → ℕ → Answer
reschedule_says R x = cond (has_deadline R x) ok removed

-- ---- the advance: start and abandon change the clock alone
abbrev pub opened : Records → ℕ → Records
opened R q = records R.nodes R.entries (started q R.clock)

abbrev pub left : Records → Records
left R = records R.nodes R.entries (abandoned R.clock)

-- "Pull: one event, or End .. A pull does no more than reach its answer": the turns (specs/turns/Turns.antt) to the
-- first that answers (specs/pull/Pull.antt)
abbrev pub pulling : Records → Step
pulling R = pull_step wheel01 R.entries.dated R.entries.deadline R.nodes R.clock

abbrev pub pulled : Records → Records
pulled R = records (pulling R).nodes R.entries (pulling R).turn.clock

abbrev pub pull_says : Records → Answer
pull_says R = told (event_of (pulling R).turn)

-- ---- the two counts
abbrev pub armed_says : Records → Answer
armed_says R = number (armed_among (length R.nodes.links.heads) R.nodes.links.home (length R.nodes.links.home))

-- "the smallest deadline among armed timers, or none"
abbrev pub next_says : Records → Answer
next_says R =
    due
    (least_among (length R.nodes.links.heads) R.nodes.links.home R.nodes.entry R.entries.dated R.entries.deadline
    (length R.nodes.links.home))
