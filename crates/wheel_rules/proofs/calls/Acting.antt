-- What a call that is not refused may rely on: that the records are ready for the work.
use Prim.Native.Nat.{ℕ, ◌-◌, ◌*◌, ◌^◌, ◌≤◌, ◌<◌}
use native.Mathlib.Omega.{arith}
use mathlib.Core.Path.{◌≡◌, refl, sym, ap, ◌∙◌}
use mathlib.Core.Bool.{Bool, true, false, cond}
use mathlib.Core.Option.{none, some}
use lib.ListN.{length, get_or}
use borrow.Author.Tests.{lt-ltb}
use borrow.Author.Rules.{scaled_Fits}
use mir.Syntax.{w64}
use mir.Val.{Fits}
use Rattle.deque_rules.specs.Links.{home_of}
use Rattle.numbers.specs.Shared.{no_slot, unless, not_refused as answered}
use Rattle.deque_rules.proofs.Laws.{first_in}
use Rattle.rules.specs.Places.{wheel01, buckets}
use Rattle.rules.specs.Wheel.{Slot as Node, Entry, Wheel}
use Rattle.wheel_rules.specs.declared.calls.Clock.{Clock}
use Rattle.wheel_rules.specs.Lent.{Nodes, Entries, Records, records, Shows, Armed, SoundRecords, wheel_of as shown}
use Rattle.wheel_rules.specs.timers.Timers.{Ready, ArmReady, SlotReady, MoveReady}
use Rattle.wheel_rules.specs.records.Counts.{DueReady}
use Rattle.wheel_rules.specs.records.Settings.{EntryReady}
use Rattle.wheel_rules.specs.layout.Layout.{LayReady}
use Rattle.wheel_rules.specs.popping.Pop.{TurnReady}
use Rattle.wheel_rules.proofs.sound.Showing.{sound_shows, shown_sound}
use Rattle.wheel_rules.specs.refusals.Refuse.{roomy, Live, Lendable, RefusesEnable, RefusesCount, RefusesClosed, RefusesOpen, schedule_rows}
use Rattle.wheel_rules.specs.refusals.Refuse.{RefusesSet, RefusesSchedule, RefusesHandle}
use Rattle.wheel_rules.proofs.refusals.Rows.{past, standing_past, closed_past}
use Rattle.wheel_rules.proofs.refusals.Refusing.{stamp_at, dated_at, deadline_at_lem}

-- an index below 4,096, in bytes
small : (x : ℕ) → x < 4096 → Fits w64 (x * 8)
small x h = scaled_Fits x 4096 8 h (omega arith)

pub ready : (N : Nodes) (E : Entries) (c : Clock) → c.enabled ≡ true → SoundRecords wheel01 (records N E c) → Ready wheel01 (records N E c)
ready N E c e s =
    record { w = shown wheel01 (records N E c); shows = sound_shows wheel01 (records N E c) s e; sound = shown_sound wheel01 (records N E c) s }

-- ---- enable
pub lendable : (R : Records) → RefusesEnable R 0 → Lendable R
lendable R f =
    let u = past 2 0 f.by (λ i. omega (arith, i)) in
    (past 3 0 u.1 (λ i. omega (arith, i))).0

pub lay_ready : (N : Nodes) (E : Entries) (c : Clock) → RefusesEnable (records N E c) 0 → LayReady wheel01 N E
lay_ready N E c f =
    let y = lendable (records N E c) f in
    record {
      seat =
          record {
            sizes =
                record {
                  tails_len = y.around.ends.tails_len ∙ sym y.around.ends.heads_len;
                  prev_len = y.nodes.prev_len;
                  home_len = y.nodes.bucket_len;
                  few = omega (arith, y.around.ends.heads_len);
                  small = y.around.ranges.nodes_most;
                };
            room = omega (arith, y.around.ends.heads_len, y.around.ranges.room);
          };
      heads_len = y.around.ends.heads_len;
      entry_len = y.nodes.entry_len;
      generation_len = y.nodes.generation_len;
      serial_len = y.nodes.serial_len;
      deadline_len = y.around.entries.deadline_len;
      entries_generation_len = y.around.entries.generation_len;
    }

-- ---- schedule
pub record Schedulable (N : Nodes) (E : Entries) (c : Clock) (e : ℕ) : Type 0 where
  pub enabled : c.enabled ≡ true
  pub sound : SoundRecords wheel01 (records N E c)
  pub entry : e < c.entries
  pub dated : get_or E.dated e false ≡ true
  pub free : c.free ≡ no_slot → ⊥
  pub more : c.serial ≡ 2 ^ 64 - 1 → ⊥

pub schedulable_by : (R : Records) (e h : ℕ) → schedule_rows R e h 0 → Schedulable R.nodes R.entries R.clock e
schedulable_by R e h f =
    let c : Clock = R.clock in
    let E : Entries = R.entries in
    let u = closed_past R (unless (e < c.entries) 7 (unless (get_or E.generation e 0 ≡ h) 8 (unless (get_or E.dated e false ≡ true) 9 (roomy R answered))))
    0 f refl in
    let v = past 7 0 u.3 (λ i. omega (arith, i)) in
    let a = past 8 0 v.1 (λ i. omega (arith, i)) in
    let b = past 9 0 a.1 (λ i. omega (arith, i)) in
    let r = past 10 0 b.1 (λ i. omega (arith, i)) in
    let q = past 11 0 r.1 (λ i. omega (arith, i)) in
    record { enabled = u.0; sound = u.1; entry = v.0; dated = b.0; free = r.0; more = q.0 }

pub schedulable : (N : Nodes) (E : Entries) (c : Clock) (e h : ℕ) → RefusesSchedule (records N E c) e h 0 → Schedulable N E c e
schedulable N E c e h f = schedulable_by (records N E c) e h f.by

pub arm_ready : (N : Nodes) (E : Entries) (c : Clock) (e h : ℕ) → RefusesSchedule (records N E c) e h 0 → ArmReady wheel01 N c
arm_ready N E c e h f =
    let s = schedulable N E c e h f in
    let y : Ready wheel01 (records N E c) = ready N E c s.enabled s.sound in
    let t = y.shows in
    record {
      E = E;
      ready = y;
      slot = omega (arith, t.rep.next_len, (t.rep.spare c.free (first_in t.lists.free c.free t.free_is s.free)).0);
      few = f.few refl;
    }

-- the deadline of its entry is in the slice
module _ (N : Nodes) (E : Entries) (c : Clock) (e i : ℕ) (f : RefusesSchedule (records N E c) e i 0) where
  pub due_index : e < length E.deadline
  due_index =
      let s' = schedulable N E c e i f in
      omega (arith, s'.entry, s'.sound.lengths.entries.deadline_len)

  pub due_bytes : Fits w64 (e * 8)
  due_bytes =
      let s' = schedulable N E c e i f in
      small e (omega (arith, s'.entry, s'.sound.lengths.ranges.entries_most))

-- ---- set entry
pub entry_ready : (N : Nodes) (E : Entries) (c : Clock) (e : ℕ) → RefusesSet (records N E c) e 0 → EntryReady E e
entry_ready N E c e f =
    record {
      dated = dated_at (records N E c) e 0 f refl;
      deadline = deadline_at_lem (records N E c) e 0 f refl;
      generation = stamp_at (records N E c) e 0 f refl;
    }

-- ---- reschedule, deschedule
pub record Handled (N : Nodes) (E : Entries) (c : Clock) (x n : ℕ) : Type 0 where
  pub enabled : c.enabled ≡ true
  pub sound : SoundRecords wheel01 (records N E c)
  pub live : Live (records N E c) x n

pub handled_by : (N : Nodes) (E : Entries) (c : Clock) (x n h : ℕ) → RefusesHandle (records N E c) x n h 0 → Handled N E c x n
handled_by N E c x n h f =
    let R : Records = records N E c in
    let u = closed_past R (unless (Live R x n) 12 (unless (get_or N.generation x 0 ≡ h) 13 answered)) 0 f.by refl in
    let v = past 12 0 u.3 (λ i. omega (arith, i)) in
    record { enabled = u.0; sound = u.1; live = v.0 }

slot_of : (N : Nodes) (E : Entries) (c : Clock) (x n : ℕ) → Handled N E c x n → SlotReady wheel01 N c x
slot_of N E c x n k =
    record {
      E = E;
      ready = ready N E c k.enabled k.sound;
      after = omega (arith, k.live.after, k.sound.lengths.ends.heads_len);
      slot = omega (arith, k.live.slot, k.sound.lengths.nodes.next_len);
      armed = omega (arith, k.live.armed, k.sound.lengths.ends.heads_len);
    }

pub slot_ready : (N : Nodes) (E : Entries) (c : Clock) (x n h : ℕ) → RefusesHandle (records N E c) x n h 0 → SlotReady wheel01 N c x
slot_ready N E c x n h f = slot_of N E c x n (handled_by N E c x n h f)

pub move_ready : (N : Nodes) (E : Entries) (c : Clock) (x n h : ℕ) → RefusesHandle (records N E c) x n h 0 → MoveReady wheel01 N.links c.reading x
move_ready N E c x n h f =
    record { e = N.entry; h = N.generation; n = N.serial; c = c; at = refl; ready = slot_ready N E c x n h f }

-- its entry exists
armed_of : (N : Nodes) (E : Entries) (c : Clock) (x n : ℕ) → Handled N E c x n → Armed (buckets wheel01) N.links.home x
armed_of N E c x n k =
    record {
      after = k.live.after;
      lent = omega (arith, k.live.slot, k.sound.lengths.nodes.bucket_len);
      names = k.live.armed;
    }

pub entry_exists : (N : Nodes) (E : Entries) (c : Clock) (x n : ℕ) → Handled N E c x n → get_or N.entry x 0 < c.entries
entry_exists N E c x n k = k.sound.exist.each x (armed_of N E c x n k)

module _ (N : Nodes) (E : Entries) (c : Clock) (x j i : ℕ) (f : RefusesHandle (records N E c) x j i 0) where
  handled : Handled N E c x j
  handled = handled_by N E c x j i f

  exists : get_or N.entry x 0 < c.entries
  exists = entry_exists N E c x j handled

  pub entry_index : x < length N.entry
  entry_index = omega (arith, handled.live.slot, handled.sound.lengths.nodes.entry_len)

  pub entry_bytes : Fits w64 (x * 8)
  entry_bytes = small x (omega (arith, handled.live.slot, handled.sound.lengths.ranges.nodes_most))

  pub held_dated : get_or N.entry x 0 < length E.dated
  held_dated = omega (arith, exists, handled.sound.lengths.entries.dated_len)

  pub held_deadline : get_or N.entry x 0 < length E.deadline
  held_deadline = omega (arith, exists, handled.sound.lengths.entries.deadline_len)

  pub held_bytes : Fits w64 (get_or N.entry x 0 * 8)
  held_bytes = small (get_or N.entry x 0) (omega (arith, exists, handled.sound.lengths.ranges.entries_most))

-- ---- pull
pub turn_ready : (N : Nodes) (E : Entries) (c : Clock) → RefusesOpen (records N E c) 0 → TurnReady wheel01 N E.dated E.deadline c
turn_ready N E c f =
    let u = standing_past (records N E c) (unless (c.open ≡ true) 6 answered) 0 f.by refl in
    let v = past 6 0 u.2 (λ i. omega (arith, i)) in
    record { ages = E.generation; ready = ready N E c u.0 u.1; opened = v.0 }

-- ---- the two counts
module _ (N : Nodes) (E : Entries) (c : Clock) (o : SoundRecords wheel01 (records N E c)) where
  room : length N.links.heads ≤ length N.links.home
  room = omega (arith, o.lengths.ends.heads_len, o.lengths.nodes.bucket_len, o.lengths.ranges.room)

  exists_at : (x : ℕ) → length N.links.heads ≤ x → x < length N.links.home → get_or N.links.home x 0 < length N.links.heads → get_or N.entry x 0 < c.entries
  exists_at x i j a =
      o.exist.each x
      (record { after = omega (arith, i, o.lengths.ends.heads_len); lent = j; names = omega (arith, a, o.lengths.ends.heads_len) })

  due_of : DueReady N.links.heads N.links.home N.entry E.dated E.deadline
  due_of =
      record {
        entry_len = o.lengths.nodes.entry_len ∙ sym o.lengths.nodes.bucket_len;
        room = room;
        dated = λ x i j a. omega (arith, exists_at x i j a, o.lengths.entries.dated_len);
        deadline = λ x i j a. omega (arith, exists_at x i j a, o.lengths.entries.deadline_len);
      }

module _ (N : Nodes) (E : Entries) (c : Clock) where
  pub count_ready : RefusesCount (records N E c) 0 → length N.links.heads ≤ length N.links.home
  count_ready f = room N E c (standing_past (records N E c) answered 0 f.by refl).1

  pub due_ready : RefusesClosed (records N E c) 0 → DueReady N.links.heads N.links.home N.entry E.dated E.deadline
  due_ready f = due_of N E c (closed_past (records N E c) answered 0 f.by refl).1

-- ---- what the wheel that the records show says of them
-- an entry's deadline
pub deadline_is : (E : Entries) (w : Wheel) (N : Nodes) (c : Clock) (e : ℕ) (b : Bool) → Shows wheel01 (records N E c) w → e < c.entries → get_or E.dated e
    false ≡ b
    → (w.entry e).deadline ≡ cond b (some (get_or E.deadline e 0)) none
deadline_is E w N c e b s i d =
    ap (λ (v : Entry). v.deadline) (s.entry e (omega (arith, i, s.entries_len)))
    ∙ ap (λ (t : Bool). cond t (some (get_or E.deadline e 0)) none) d

-- an armed slot's entry
pub entry_is : (N : Nodes) (E : Entries) (c : Clock) (x n : ℕ) (w : Wheel) → Handled N E c x n → Shows wheel01 (records N E c) w → (w.lists.node x).entry ≡
    get_or N.entry x 0
entry_is N E c x n w k s =
    let there : x < w.nodes = omega (arith, k.live.slot, s.nodes_len) in
    let on : (w.lists.node x).armed ≡ true = s.armed x k.live.after there ∙ lt-ltb (home_of N.links x) (buckets wheel01) k.live.armed in
    ap (λ (v : Node). v.entry) (s.node x k.live.after there on)

pub held_is : (N : Nodes) (E : Entries) (c : Clock) (x n : ℕ) (w : Wheel) (b : Bool) → Handled N E c x n → Shows wheel01 (records N E c) w → get_or E.dated
    (get_or N.entry x 0) false ≡ b
    → (w.entry (w.lists.node x).entry).deadline ≡ cond b (some (get_or E.deadline (get_or N.entry x 0) 0)) none
held_is N E c x n w b k s d =
    ap (λ (e : ℕ). (w.entry e).deadline) (entry_is N E c x n w k s)
    ∙ deadline_is E w N c (get_or N.entry x 0) b s (entry_exists N E c x n k) d
