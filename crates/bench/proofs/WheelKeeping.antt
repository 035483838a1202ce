-- The records stay those of a sound wheel: what each call of a workload asks, and what it leaves.
use Rattle.std.proofs.Common.{◌≡◌, ℕ, ◌-◌, ◌^◌, ◌<◌, ◌≤◌, Bool, true, false, List, [], length, refl, sym, ap, ◌∙◌, subst, arith}
use mathlib.Core.Option.{none, some}
use Rattle.deque_rules.specs.Links.{home_of}
use Rattle.rules.specs.Places.{wheel01}
use Rattle.rules.specs.Wheel.{bare, closed, Wheel, enable, set_entry, schedule, deschedule, start, pull}
use Rattle.rules.specs.Calls.{act}
use Rattle.rules.specs.Sound.{Sound}
use Rattle.wheel_rules.specs.declared.calls.Clock.{Clock}
use Rattle.wheel_rules.specs.declared.calls.After.{After}
use Rattle.wheel_rules.specs.declared.calls.Event.{Event}
use Rattle.wheel_rules.specs.declared.calls.Handle.{Handle}
use Rattle.wheel_rules.specs.Lent.{Nodes, Entries, records}
use Rattle.wheel_rules.specs.layout.Layout.{Lays}
use Rattle.wheel_rules.specs.popping.Pop.{TurnReady}
use Rattle.wheel_rules.specs.pull.Pull.{Pulls}
use Rattle.wheel_rules.specs.records.Moments.{Starts}
use Rattle.wheel_rules.specs.records.Settings.{EntryReady, Sets}
use Rattle.wheel_rules.specs.timers.Timers.{ArmReady, SlotReady, Arms, Disarms}
use Rattle.wheel_rules.proofs.records.Serving.{heads_are, slots_are, buckets_are, entry_ready, is_armed}
use Rattle.bench.specs.Kept.{Works}
use Rattle.bench.proofs.WheelStaying.{enable_sound, set_stays, schedule_stays, deschedule_stays, start_stays, pull_stays, set_has}

-- the records that were laid out, whatever they held
pub laid_works : (N N' : Nodes) (E E' : Entries) (c c' : Clock) → 165 ≤ length N.links.next → Lays wheel01 N E c N' E' c' → Works (records N' E' c')
laid_works N N' E E' c c' i d =
    let w : Wheel = record {
      enabled = false;
      nodes = 0;
      entries = 0;
      reading = c.reading;
      next = c.serial;
      advance = closed;
      lists = bare [];
      entry = λ e. record { deadline = none; generation = 0 };
    } in
    record {
      w = (act wheel01 w (enable (length N.links.next) (length E.dated) true)).1;
      shows = d.does w refl refl;
      sound = enable_sound wheel01 w (length N.links.next) (length E.dated) i;
    }

-- a sound wheel has the lengths that its clock says
pub lengths_are : (N : Nodes) (E : Entries) (c : Clock) → Works (records N E c) → (length N.links.next ≡ c.nodes) × (length E.dated ≡ c.entries)
lengths_are N E c y = (
  slots_are wheel01 N E c y.w y.shows ∙ sym y.shows.nodes_len,
  y.shows.dated_len ∙ sym y.shows.entries_len,
)

-- those that were laid out
pub laid_lengths : (N N' : Nodes) (E E' : Entries) (c c' : Clock) → 165 ≤ length N.links.next → Lays wheel01 N E c N' E' c'
    → (length N'.links.next ≡ length N.links.next) × (length E'.dated ≡ length E.dated)
laid_lengths N N' E E' c c' i d =
    let l = lengths_are N' E' c' (laid_works N N' E E' c c' i d) in
    (l.0 ∙ ap (λ (k : Clock). k.nodes) d.clock_is, l.1 ∙ ap (λ (k : Clock). k.entries) d.clock_is)

-- another sound wheel, whose clock says the same lengths
same_lengths : (N N' : Nodes) (E E' : Entries) (c c' : Clock) → Works (records N E c) → Works (records N' E' c') → c'.nodes ≡ c.nodes
    → c'.entries ≡ c.entries → (length N'.links.next ≡ length N.links.next) × (length E'.dated ≡ length E.dated)
same_lengths N N' E E' c c' y y' n m =
    let l = lengths_are N E c y in
    let k = lengths_are N' E' c' y' in
    (k.0 ∙ n ∙ sym l.0, k.1 ∙ m ∙ sym l.1)

module _ (N : Nodes) (E : Entries) (c : Clock) (y : Works (records N E c)) where
  abbrev w : Wheel
  w = y.w

  -- ---- arming
  pub set_asks : (e : ℕ) → e < length E.dated → EntryReady E e
  set_asks e i = entry_ready wheel01 N E c w y.shows e i

  pub arm_asks : c.free < length N.links.next → c.serial < 2 ^ 64 - 1 → ArmReady wheel01 N c
  arm_asks f s = record { E = E; ready = y; slot = f; few = s }

  pub armed_works : (e d : ℕ) → e < length E.dated → (E' : Entries) → Sets wheel01 E E' e true d 0 → (N' : Nodes) (r : After Handle)
      → Arms wheel01 N c N' r e 0 d → Works (records N' E' r.clock)
  armed_works e d i E' f N' r g =
      let w' : Wheel = (act wheel01 w (set_entry e (some d) 0)).1 in
      let s : Sound wheel01 w' = set_stays wheel01 w y.sound e (some d) 0 in
      let k : e < w'.entries = omega (arith, i, y.shows.dated_len) in
      record {
        w = (act wheel01 w' (schedule e 0)).1;
        shows = (g.does E' w' (f.does N c w y.shows) s (set_has wheel01 w e d 0)).1;
        sound = schedule_stays wheel01 w' s e 0 k;
      }

  pub armed_lengths : (e d : ℕ) → e < length E.dated → (E' : Entries) → Sets wheel01 E E' e true d 0 → (N' : Nodes) (r : After Handle)
      → Arms wheel01 N c N' r e 0 d → (length N'.links.next ≡ length N.links.next) × (length E'.dated ≡ length E.dated)
  armed_lengths e d i E' f N' r g =
      same_lengths N N' E E' c r.clock y (armed_works e d i E' f N' r g) (ap (λ (k : Clock). k.nodes) g.clock_is)
      (ap (λ (k : Clock). k.entries) g.clock_is)

  -- ---- disarming
  pub disarm_asks : (x : ℕ) → 165 ≤ x → x < length N.links.home → home_of N.links x < 165 → SlotReady wheel01 N c x
  disarm_asks x a b h =
      record {
        E = E;
        ready = y;
        after = omega (arith, a, heads_are wheel01 N E c w y.shows);
        slot = omega (arith, b, slots_are wheel01 N E c w y.shows, buckets_are wheel01 N E c w y.shows);
        armed = omega (arith, h, heads_are wheel01 N E c w y.shows);
      }

  pub disarmed_works : (x : ℕ) → 165 ≤ x → x < length N.links.home → home_of N.links x < 165 → (N' : Nodes) (r : Clock)
      → Disarms wheel01 N c N' r x → Works (records N' E r)
  disarmed_works x a b h N' r d =
      let q : SlotReady wheel01 N c x = disarm_asks x a b h in
      record {
        w = (act wheel01 w (deschedule x 0 0)).1;
        shows = d.does E w y.shows y.sound 0 0;
        sound = deschedule_stays wheel01 w y.sound x 0 0 (is_armed wheel01 N E c w y.shows y.sound x q.after q.slot q.armed);
      }

  pub disarmed_lengths : (x : ℕ) → 165 ≤ x → x < length N.links.home → home_of N.links x < 165 → (N' : Nodes) (r : Clock)
      → Disarms wheel01 N c N' r x → (length N'.links.next ≡ length N.links.next) × (length E.dated ≡ length E.dated)
  disarmed_lengths x a b h N' r d =
      same_lengths N N' E E c r y (disarmed_works x a b h N' r d) (ap (λ (k : Clock). k.nodes) d.clock_is)
      (ap (λ (k : Clock). k.entries) d.clock_is)

  -- ---- an advance
  pub started_works : (q : ℕ) (r : Clock) → Starts wheel01 c r q → Works (records N E r)
  started_works q r s =
      record { w = (act wheel01 w (start q)).1; shows = s.does N E w y.shows; sound = start_stays wheel01 w y.sound q }

  pub pull_asks : c.open ≡ true → TurnReady wheel01 N E.dated E.deadline c
  pull_asks o = record { ages = E.generation; ready = y; opened = o }

  -- a pull that was lent what the entries say of deadlines
  pulls_own : (t : List Bool) (d : List ℕ) → t ≡ E.dated → d ≡ E.deadline → (N' : Nodes) (r : Clock) (a : Event)
      → Pulls wheel01 N t d c N' r a → Pulls wheel01 N E.dated E.deadline c N' r a
  pulls_own t d i k N' r a p =
      let P : List Bool → Type 0 = λ u. Pulls wheel01 N u d c N' r a in
      let Q : List ℕ → Type 0 = λ u. Pulls wheel01 N E.dated u c N' r a in
      subst Q k (subst P i p)

  pub pulled_works : (t : List Bool) (d : List ℕ) → t ≡ E.dated → d ≡ E.deadline → (N' : Nodes) (r : Clock) (a : Event)
      → Pulls wheel01 N t d c N' r a → Works (records N' E r)
  pulled_works t d i k N' r a p =
      record {
        w = (act wheel01 w pull).1;
        shows = ((pulls_own t d i k N' r a p).does E.generation w y.shows y.sound).1;
        sound = pull_stays wheel01 w y.sound;
      }

  pub pulled_lengths : (t : List Bool) (d : List ℕ) → t ≡ E.dated → d ≡ E.deadline → (N' : Nodes) (r : Clock) (a : Event)
      → Pulls wheel01 N t d c N' r a → (length N'.links.next ≡ length N.links.next) × (length E.dated ≡ length E.dated)
  pulled_lengths t d i k N' r a p =
      let s = ((pulls_own t d i k N' r a p).does E.generation w y.shows y.sound).1 in
      same_lengths N N' E E c r y (pulled_works t d i k N' r a p) (s.nodes_len ∙ sym y.shows.nodes_len)
      (s.entries_len ∙ sym y.shows.entries_len)

  pub pulled_reading : (t : List Bool) (d : List ℕ) → t ≡ E.dated → d ≡ E.deadline → (N' : Nodes) (r : Clock) (a : Event)
      → Pulls wheel01 N t d c N' r a → r.reading ≡ c.reading
  pulled_reading t d i k N' r a p =
      ((pulls_own t d i k N' r a p).does E.generation w y.shows y.sound).1.reading ∙ sym y.shows.reading
