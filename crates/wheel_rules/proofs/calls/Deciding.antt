-- The rows of a call ask the same of records as of the wheel that they stand for: each test on records is decided by
-- the test on the wheel, where the rows before it hold. So the rows give one number, and it is the rules'.
use Prim.Native.Nat.{ℕ, ◌-◌, ◌^◌, ◌≤◌, ◌<◌}
use native.Mathlib.Omega.{arith}
use mathlib.Core.Path.{◌≡◌, refl, sym, ap, subst, ◌∙◌}
use mathlib.Core.Logic.{inl, inr, ⊎_elim}
use mathlib.Core.Bool.{Bool, true, false, cond, not, ◌&&◌, false≢true}
use mathlib.Core.Option.{Option, none, some}
use mathlib.Core.List.{List, [], ◌∷◌}
use lib.ListN.{length, get_or}
use lib.Dec.{eqb, leb, ltb}
use borrow.Author.Tests.{eq-eqb, ne_eqb, eqb-true, lt-ltb, lt-leb, le-leb, ltb-true, leb-true}
use Rattle.deque_rules.specs.Links.{first, home_of}
use Rattle.numbers.specs.Shared.{In, no_slot, unless}
use Rattle.rules.specs.Places.{wheel01, buckets}
use Rattle.rules.specs.Wheel.{Slot as Node, Entry, Advance, closed, poised, within, Wheel, Call, create, enable, set_entry, schedule, reschedule, deschedule, start}
use Rattle.rules.specs.Wheel.{pull, abandon, armed_count, next_due}
use Rattle.rules.specs.Calls.{Row, rows, tests_of, pick, is_open, is_none, is_empty, is_stale, in_range, refusal_if}
use Rattle.rules.specs.Runs.{refusal}
use Rattle.numbers.proofs.Cases.{same?}
use Rattle.rules.proofs.Passing.{fresh}
use Rattle.wheel_rules.specs.declared.calls.Clock.{Clock}
use Rattle.wheel_rules.specs.Lent.{Records, node_at, ShowsAdvance, Shows, Decides, SoundRecords, wheel_of as shown}
use Rattle.numbers.specs.Rows.{given}
use Rattle.wheel_rules.specs.refusals.Refuse.{Live, Lendable, tests_on, rows_on}
use Rattle.wheel_rules.specs.Promise.{all_are, fits, enabling, Looks}
use Rattle.wheel_rules.specs.history.Tells.{Tells}
use Rattle.wheel_rules.proofs.sound.Showing.{sound_shows, shown_sound}

-- ---- lists of rows that ask the same
-- the numbers are the same, and each test of bs decides that of ts where those before it hold
abbrev pub Agree : List (Row (Type 0)) → List (Row Bool) → Type 0
Agree [] [] = Unit {0}
Agree [] (b ∷ bs) = ⊥
Agree (t ∷ ts) [] = ⊥
Agree (t ∷ ts) (b ∷ bs) = (t.1 ≡ b.1) × Decides t.0 b.0 × (t.0 → Agree ts bs)

pick_row : (A : Type 0) (k : ℕ) (more : ℕ → Type 0) (b : Bool) (n m : ℕ) → Decides A b → (A → more n → m ≡ n) → unless A k more n → cond b m k ≡ n
pick_row A k more true n m d f (inl p) = absurd (p.0 (d.sound refl))
pick_row A k more true n m d f (inr p) = f p.0 p.1
pick_row A k more false n m d f (inl p) = sym p.1
pick_row A k more false n m d f (inr p) = absurd (false≢true (d.complete p.0))

-- a number that the rows give is the one picked
pub picked : (ts : List (Row (Type 0))) (bs : List (Row Bool)) → Agree ts bs → (n : ℕ) → given ts n → pick bs ≡ n
picked [] [] g n r = sym r
picked [] (b ∷ bs) g n r = absurd g
picked (t ∷ ts) [] g n r = absurd g
picked (t ∷ ts) (b ∷ bs) g n r =
    pick_row t.0 b.1 (given ts) b.0 n (pick bs) g.1 (λ a m. picked ts bs (g.2 a) n m)
    (subst (λ (k : ℕ). unless t.0 k (given ts) n) g.0 r)

-- and the one picked is given
row_given : (A : Type 0) (k : ℕ) (more : ℕ → Type 0) (b : Bool) (m : ℕ) → Decides A b → (A → more m) → unless A k more (cond b m k)
row_given A k more true m d f = inr (d.sound refl, f (d.sound refl))
row_given A k more false m d f = inl (λ a. false≢true (d.complete a), refl)

pub given_picked : (ts : List (Row (Type 0))) (bs : List (Row Bool)) → Agree ts bs → given ts (pick bs)
given_picked [] [] g = refl
given_picked [] (b ∷ bs) g = absurd g
given_picked (t ∷ ts) [] g = absurd g
given_picked (t ∷ ts) (b ∷ bs) g =
    subst (λ (k : ℕ). unless t.0 k (given ts) (cond b.0 (pick bs) b.1)) (sym g.0)
    (row_given t.0 b.1 (given ts) b.0 (pick bs) g.1 (λ a. given_picked ts bs (g.2 a)))

-- the rows after the first two, and after the first
abbrev pub later {ℓ} : {T : Type ℓ} → List (Row T) → List (Row T)
later [] = []
later (a ∷ []) = []
later (a ∷ b ∷ ts) = ts

abbrev pub rest {ℓ} : {T : Type ℓ} → List (Row T) → List (Row T)
rest [] = []
rest (a ∷ ts) = ts

-- ---- tests that decide
pub is_decided : (b : Bool) → Decides (b ≡ true) b
is_decided b = record { sound = λ e. e; complete = λ e. e }

not_decided : (b : Bool) → Decides (b ≡ false) (not b)
not_decided true = record { sound = λ e. absurd (false≢true e); complete = λ e. sym e }
not_decided false = record { sound = λ e. refl; complete = λ e. refl }

same_decided : (x y : ℕ) → Decides (x ≡ y) (eqb x y)
same_decided x y = record { sound = eqb-true x y; complete = eq-eqb x y }

other_decided : (x y : ℕ) → Decides (x ≡ y → ⊥) (not (eqb x y))
other_decided x y =
    ⊎_elim
    (λ (e : x ≡ y).
    record {
      sound = λ i. absurd (false≢true (ap not (sym (eq-eqb x y e)) ∙ i));
      complete = λ n. absurd (n e);
    })
    (λ (n : x ≡ y → ⊥). record { sound = λ _. n; complete = λ _. ap not (ne_eqb x y n) })
    (same? x y)

below_decided : (x y : ℕ) → Decides (x < y) (ltb x y)
below_decided x y = record { sound = ltb-true x y; complete = lt-ltb x y }

by_path : {A B : Type 0} {b c : Bool} → (A → B) → (B → A) → b ≡ c → Decides A b → Decides B c
by_path f g e d = record { sound = λ i. f (d.sound (e ∙ i)); complete = λ i. sym e ∙ d.complete (g i) }

not_true : (b : Bool) → (b ≡ true → ⊥) → b ≡ false
not_true true n = absurd (n refl)
not_true false n = refl

pub open_is : (c : Clock) (A : Advance) → ShowsAdvance wheel01 c A → c.open ≡ is_open A
open_is c closed s = s
open_is c (poised p bs) s = s.0
open_is c (within p b bs) s = s.1

dated_decided : (b : Bool) (d : ℕ) → Decides (b ≡ true) (not (is_none (cond b (some d) none)))
dated_decided true d = record { sound = λ _. refl; complete = λ _. refl }
dated_decided false d = record { sound = λ e. e; complete = λ e. e }

some_free : (xs : List ℕ) (x : ℕ) → first xs ≡ x → ((y : ℕ) → In y xs → y < no_slot) → Decides (x ≡ no_slot → ⊥) (not (is_empty xs))
some_free [] x e f = record { sound = λ i. absurd (false≢true i); complete = λ n. absurd (n (sym e)) }
some_free (y ∷ ys) x e f = record { sound = λ _ i. omega (arith, f y (inl refl), e, i); complete = λ _. refl }

-- ---- conjunctions, and lengths
both_decided : {A B : Type 0} {a b : Bool} → Decides A a → Decides B b → Decides (A × B) (a && b)
both_decided {a = true} d f = record { sound = λ i. (d.sound refl, f.sound i); complete = λ p. f.complete p.1 }
both_decided {a = false} d f = record { sound = λ i. absurd (false≢true i); complete = λ p. d.complete p.0 }

most_decided : (x y : ℕ) → Decides (x ≤ y) (leb x y)
most_decided x y = record { sound = leb-true x y; complete = le-leb x y }

abbrev AllSame : ℕ → List ℕ → Type 0
AllSame m [] = Unit {0}
AllSame m (k ∷ ks) = (k ≡ m) × AllSame m ks

all_decided : (m : ℕ) (ks : List ℕ) → Decides (AllSame m ks) (all_are m ks)
all_decided m [] = record { sound = λ _. tt; complete = λ _. refl }
all_decided m (k ∷ ks) = both_decided (same_decided k m) (all_decided m ks)

module _ (R : Records) where
  abbrev m : ℕ
  m = length R.nodes.links.next

  abbrev k : ℕ
  k = length R.entries.dated

  -- the lengths of heads and tails; of the fields of the nodes beside next; of the fields of the entries beside dated
  abbrev ends : List ℕ
  ends = length R.nodes.links.heads ∷ length R.nodes.links.tails ∷ []

  abbrev columns : List ℕ
  columns =
      length R.nodes.links.prev ∷ length R.nodes.links.home ∷ length R.nodes.entry ∷ length R.nodes.generation ∷
      length R.nodes.serial ∷ []

  abbrev fields : List ℕ
  fields = length R.entries.deadline ∷ length R.entries.generation ∷ []

  abbrev Fit : Type 0
  Fit = AllSame (buckets wheel01) ends × (AllSame m columns × AllSame k fields)

  abbrev InRange : Type 0
  InRange = (buckets wheel01 < m) × ((m ≤ 4096) × ((0 < k) × (k ≤ 4096)))

  -- what is lent may be enabled exactly where the lengths are in range and fit
  pub lendable_decided : Decides (Lendable R) (in_range wheel01 m k (fits R))
  lendable_decided =
      by_path
      (λ (p : Fit × InRange).
      let e = p.0.0 in
      let c = p.0.1.0 in
      let f = p.0.1.1 in
      record {
        around =
            record {
              ranges = record { room = p.1.0; nodes_most = p.1.1.0; some = p.1.1.1.0; entries_most = p.1.1.1.1 };
              ends = record { heads_len = e.0; tails_len = e.1.0 };
              entries = record { dated_len = refl; deadline_len = f.0; generation_len = f.1.0 };
            };
        nodes =
            record {
              next_len = refl;
              prev_len = c.0;
              bucket_len = c.1.0;
              entry_len = c.1.1.0;
              generation_len = c.1.1.1.0;
              serial_len = c.1.1.1.1.0;
            };
      })
      (λ (l : Lendable R). (
        (
          (l.around.ends.heads_len, (l.around.ends.tails_len, tt)),
          (
            (l.nodes.prev_len, (l.nodes.bucket_len, (l.nodes.entry_len, (l.nodes.generation_len, (l.nodes.serial_len, tt))))),
            (l.around.entries.deadline_len, (l.around.entries.generation_len, tt)),
          ),
        ),
        (l.around.ranges.room, (l.around.ranges.nodes_most, (l.around.ranges.some, l.around.ranges.entries_most))),
      ))
      refl
      (both_decided
      (both_decided (all_decided (buckets wheel01) ends) (both_decided (all_decided m columns) (all_decided k fields)))
      (both_decided (below_decided (buckets wheel01) m) (both_decided (most_decided m 4096) (both_decided (below_decided 0 k) (most_decided k 4096)))))

-- ---- the rows of each call
-- an enable is given the lent lengths
abbrev pub LentTo : Records → Call → Type 0
LentTo R (create n) = Unit {0}
LentTo R (enable m k f) = enable m k f ≡ enabling R
LentTo R (set_entry e o h) = Unit {0}
LentTo R (schedule e h) = Unit {0}
LentTo R (reschedule x n h) = Unit {0}
LentTo R (deschedule x n h) = Unit {0}
LentTo R (start q) = Unit {0}
LentTo R pull = Unit {0}
LentTo R abandon = Unit {0}
LentTo R armed_count = Unit {0}
LentTo R next_due = Unit {0}

abbrev lends : Call → Bool
lends (create n) = true
lends (enable i j f) = in_range wheel01 i j f
lends (set_entry e o h) = true
lends (schedule e h) = true
lends (reschedule x n h) = true
lends (deschedule x n h) = true
lends (start q) = true
lends pull = true
lends abandon = true
lends armed_count = true
lends next_due = true

enable_rows_lem : (R : Records) (on : Bool) → R.clock.enabled ≡ on → (i j : ℕ) (f : Bool) → enable i j f ≡ enabling R
    → Agree ((R.clock.enabled ≡ false, 2) ∷ (Lendable R, 3) ∷ []) ((not on, 2) ∷ (in_range wheel01 i j f, 3) ∷ [])
enable_rows_lem R on e i j f l = (
  refl,
  by_path (λ i. i) (λ i. i) (ap not e) (not_decided R.clock.enabled),
  λ _. (refl, subst (λ (c : Call). Decides (Lendable R) (lends c)) (sym l) (lendable_decided R), λ _. tt),
)

module _ (R : Records) (w : Wheel) (T : Tells R w) where
  enabled_is : R.clock.enabled ≡ w.enabled
  enabled_is = T.stands.enabled

  -- ---- handles
  module _ (s : Shows wheel01 R w) (on-w : w.enabled ≡ true) (x n : ℕ) where
    abbrev v : Node
    v = w.lists.node x

    live_node : Live R x n → (v.armed ≡ true) × (v ≡ node_at (buckets wheel01) R.nodes x)
    live_node l =
        let i : x < w.nodes = omega (arith, l.slot, s.nodes_len) in
        let a : v.armed ≡ true = s.armed x l.after i ∙ lt-ltb (home_of R.nodes.links x) (buckets wheel01) l.armed in
        (a, s.node x l.after i a)

    live_fresh : Live R x n → is_stale w x n ≡ false
    live_fresh l =
        let i : x < w.nodes = omega (arith, l.slot, s.nodes_len) in
        let a = live_node l in
        let e : v.serial ≡ n = ap (λ (u : Node). u.serial) a.1 ∙ l.serial in
        ap (λ (b : Bool). cond b true (cond v.armed (not (eqb v.serial n)) true)) (lt-leb w.nodes x i)
        ∙ ap (λ (b : Bool). cond b (not (eqb v.serial n)) true) a.0
        ∙ ap not (eq-eqb v.serial n e)

    fresh_live : is_stale w x n ≡ false → Live R x n
    fresh_live e =
        let j = fresh w x n e in
        let D : buckets wheel01 ≤ x = ((T.sound on-w).lists.slot x j.1).0 in
        record {
          slot = omega (arith, j.0, s.nodes_len);
          after = D;
          armed = ltb-true (home_of R.nodes.links x) (buckets wheel01) (sym (s.armed x D j.0) ∙ j.1);
          serial = sym (ap (λ (u : Node). u.serial) (s.node x D j.0 j.1)) ∙ j.2;
        }

    live_decided : Decides (Live R x n) (not (is_stale w x n))
    live_decided = go (is_stale w x n) refl
      where
        go : (b : Bool) → is_stale w x n ≡ b → Decides (Live R x n) (not b)
        go true e = record { sound = λ i. absurd (false≢true i); complete = λ l. absurd (false≢true (sym (live_fresh l) ∙ e)) }
        go false e = record { sound = λ _. fresh_live e; complete = λ _. refl }

  -- ---- the stages: what comes after them agrees, where they hold
  while_enabled_lem : (ts : List (Row (Type 0))) (bs : List (Row Bool)) → (w.enabled ≡ true → Shows wheel01 R w → Agree ts bs)
      → Agree ((R.clock.enabled ≡ true, 1) ∷ (SoundRecords wheel01 R, 4) ∷ ts) ((w.enabled, 1) ∷ (true, 4) ∷ bs)
  while_enabled_lem ts bs f = (
    refl,
    by_path (λ i. i) (λ i. i) enabled_is (is_decided R.clock.enabled),
    λ e. (
      refl,
      record { sound = λ _. T.kept e; complete = λ _. refl },
      λ _. f (sym enabled_is ∙ e) (T.stands.shows (sym enabled_is ∙ e)),
    ),
  )

  while_closed_lem : (ts : List (Row (Type 0))) (bs : List (Row Bool)) → (w.enabled ≡ true → Shows wheel01 R w → Agree ts bs)
      → Agree ((R.clock.enabled ≡ true, 1) ∷ (SoundRecords wheel01 R, 4) ∷ (R.clock.open ≡ false, 5) ∷ ts)
      ((w.enabled, 1) ∷ (true, 4) ∷ (not (is_open w.advance), 5) ∷ bs)
  while_closed_lem ts bs f =
      while_enabled_lem ((R.clock.open ≡ false, 5) ∷ ts) ((not (is_open w.advance), 5) ∷ bs)
      (λ e s. (
        refl,
        by_path (λ i. i) (λ i. i) (ap not (open_is R.clock w.advance s.advance)) (not_decided R.clock.open),
        λ _. f e s,
      ))

  while_open_lem : Agree ((R.clock.enabled ≡ true, 1) ∷ (SoundRecords wheel01 R, 4) ∷ (R.clock.open ≡ true, 6) ∷ [])
      ((w.enabled, 1) ∷ (true, 4) ∷ (is_open w.advance, 6) ∷ [])
  while_open_lem =
      while_enabled_lem ((R.clock.open ≡ true, 6) ∷ []) ((is_open w.advance, 6) ∷ [])
      (λ e s. (refl, by_path (λ i. i) (λ i. i) (open_is R.clock w.advance s.advance) (is_decided R.clock.open), λ _. tt))

  of_entry : (e : ℕ) → Shows wheel01 R w → Decides (e < R.clock.entries) (ltb e w.entries)
  of_entry e s =
      by_path (λ i. omega (arith, i, s.entries_len)) (λ i. omega (arith, i, s.entries_len)) refl (below_decided e w.entries)

  of_handle_lem : (x n h : ℕ) → w.enabled ≡ true → Shows wheel01 R w → Agree (((Live R x n), 12) ∷ (get_or R.nodes.generation x 0 ≡ h, 13) ∷ [])
      ((not (is_stale w x n), 12) ∷ (eqb (w.lists.node x).generation h, 13) ∷ [])
  of_handle_lem x n h e s = (
    refl,
    live_decided s e x n,
    λ l. (
      refl,
      let g : (w.lists.node x).generation ≡ get_or R.nodes.generation x 0 = ap (λ (u : Node). u.generation) (live_node s e x n l).1 in
          by_path (λ i. sym g ∙ i) (λ i. g ∙ i) refl (same_decided (w.lists.node x).generation h),
      λ _. tt,
    ),
  )

  -- the entry of a schedule, and room for it
  of_arming : (e h : ℕ) → Shows wheel01 R w → e < w.entries
      → Agree ((get_or R.entries.generation e 0 ≡ h, 8) ∷ (get_or R.entries.dated e false ≡ true, 9) ∷ ((R.clock.free ≡ no_slot → ⊥), 10) ∷
      ((R.clock.serial ≡ 2 ^ 64 - 1 → ⊥), 11) ∷ [])
      ((eqb (w.entry e).generation h, 8) ∷ (not (is_none (w.entry e).deadline), 9) ∷ (not (is_empty w.lists.free), 10) ∷
      (not (eqb w.next (2 ^ 64 - 1)), 11) ∷ [])
  of_arming e h s i =
      let g : (w.entry e).generation ≡ get_or R.entries.generation e 0 = ap (λ (v : Entry). v.generation) (s.entry e i) in
      let d : (w.entry e).deadline ≡ cond (get_or R.entries.dated e false) (some (get_or R.entries.deadline e 0)) none = ap (λ (v : Entry). v.deadline)
      (s.entry e i) in (
        refl,
        by_path (λ j. sym g ∙ j) (λ j. g ∙ j) refl (same_decided (w.entry e).generation h),
        λ _. (
          refl,
          by_path (λ j. j) (λ j. j) (ap (λ (o : Option ℕ). not (is_none o)) (sym d)) (dated_decided (get_or R.entries.dated e false) (get_or R.entries.deadline e 0)),
          λ _. (
            refl,
            by_path (λ j. j) (λ j. j) (ap (λ (xs : List ℕ). not (is_empty xs)) (sym s.free))
                (some_free s.lists.free R.clock.free s.free_is (λ y j. omega (arith, (s.rep.spare y j).0, s.rep.small))),
            λ _. (
              refl,
              by_path (λ j k. j (sym s.next ∙ k)) (λ j k. j (s.next ∙ k)) refl (other_decided w.next (2 ^ 64 - 1)),
              λ _. tt,
            ),
          ),
        ),
      )

  -- ---- every call
  pub agree : (c : Call) → LentTo R c → Agree (rows (tests_on R) c) (rows (tests_of wheel01 true w) c)
  agree (create n) l = tt
  agree (enable i j f) l = enable_rows_lem R w.enabled enabled_is i j f l
  agree (set_entry e o h) l =
      while_closed_lem ((e < R.clock.entries, 7) ∷ []) ((ltb e w.entries, 7) ∷ []) (λ _ s. (refl, of_entry e s, λ _. tt))
  agree (schedule e h) l =
      while_closed_lem (rest (later (rows (tests_on R) (schedule e h)))) (rest (later (rows (tests_of wheel01 true w) (schedule e h))))
      (λ _ s. (refl, of_entry e s, λ i. of_arming e h s (omega (arith, i, s.entries_len))))
  agree (reschedule x n h) l =
      while_closed_lem (rest (later (rows (tests_on R) (reschedule x n h)))) (rest (later (rows (tests_of wheel01 true w) (reschedule x n h)))) (of_handle_lem x n h)
  agree (deschedule x n h) l =
      while_closed_lem (rest (later (rows (tests_on R) (deschedule x n h)))) (rest (later (rows (tests_of wheel01 true w) (deschedule x n h)))) (of_handle_lem x n h)
  agree (start q) l = while_closed_lem [] [] (λ _ _. tt)
  agree pull l = while_open_lem
  agree abandon l = while_open_lem
  agree armed_count l = while_enabled_lem [] [] (λ _ _. tt)
  agree next_due l = while_closed_lem [] [] (λ _ _. tt)

  -- the number that the rows give on records is the rules' number
  pub number_is : (c : Call) → LentTo R c → (n : ℕ) → rows_on R c n → refusal wheel01 w c ≡ n
  number_is c l n r = picked (rows (tests_on R) c) (rows (tests_of wheel01 true w) c) (agree c l) n r

-- ---- whether the records are sound or not
pub tells_shown : (R : Records) → R.clock.enabled ≡ true → SoundRecords wheel01 R → Tells R (shown wheel01 R)
tells_shown R on s =
    record {
      stands = record { enabled = refl; reading = refl; next = refl; shows = λ _. sound_shows wheel01 R s on };
      sound = λ _. shown_sound wheel01 R s;
      kept = λ _. s;
    }

-- the calls of 1: enabled, sound, then the rows ts, which are bs on the wheel that the records show
module _ (R : Records) (ts : List (Row (Type 0))) (bs : List (Row Bool)) where
  abbrev all : List (Row (Type 0))
  all = (R.clock.enabled ≡ true, 1) ∷ (SoundRecords wheel01 R, 4) ∷ ts

  abbrev number : Bool → ℕ
  number s = cond R.clock.enabled (cond s (pick bs) 4) 1

  module _ (g : Tells R (shown wheel01 R) → Agree all ((R.clock.enabled, 1) ∷ (true, 4) ∷ bs)) where
    -- the number that the rows give is the rules' number
    pub judged_by : (n : ℕ) → given all n → (s : Bool) × (R.clock.enabled ≡ true → Decides (SoundRecords wheel01 R) s) × (number s ≡ n)
    judged_by n (inl p) =
        (false, λ e. absurd (p.0 e), ap (λ (b : Bool). cond b (cond false (pick bs) 4) 1) (not_true R.clock.enabled p.0) ∙ sym p.1)
    judged_by n (inr (on, inl p)) = (
      false,
      λ _. record { sound = λ i. absurd (false≢true i); complete = λ s. absurd (p.0 s) },
      ap (λ (b : Bool). cond b (cond false (pick bs) 4) 1) on ∙ sym p.1,
    )
    judged_by n (inr (on, inr p)) = (
      true,
      λ _. record { sound = λ _. p.0; complete = λ _. refl },
      picked all ((R.clock.enabled, 1) ∷ (true, 4) ∷ bs) (g (tells_shown R on p.0)) n (inr (on, inr p)),
    )

    -- and the rules' number is the one that the rows give
    pub given_by : (s : Bool) → (R.clock.enabled ≡ true → Decides (SoundRecords wheel01 R) s) → given all (number s)
    given_by s d = go R.clock.enabled refl s d
      where
        go : (b : Bool) → R.clock.enabled ≡ b → (s : Bool) → (R.clock.enabled ≡ true → Decides (SoundRecords wheel01 R) s) → given all (number s)
        go false e s d = inl (λ i. false≢true (sym e ∙ i), ap (λ (b : Bool). cond b (cond s (pick bs) 4) 1) e)
        go true e false d =
            inr (e, inl (λ i. false≢true ((d e).complete i), ap (λ (b : Bool). cond b (cond false (pick bs) 4) 1) e))
        go true e true d =
            given_picked all ((R.clock.enabled, 1) ∷ (true, 4) ∷ bs) (g (tells_shown R e ((d e).sound refl)))

-- ---- every call, on the wheel that the records show
module _ (R : Records) where
  abbrev w : Wheel
  w = shown wheel01 R

  module _ (c : Call) where
    abbrev ts : List (Row (Type 0))
    ts = later (rows (tests_on R) c)

    abbrev bs : List (Row Bool)
    bs = later (rows (tests_of wheel01 true w) c)

  pub numbered : (c : Call) → LentTo R c → (n : ℕ) → rows_on R c n → (s : Bool) × Looks c R s × (refusal_if wheel01 s w c ≡ n)
  numbered (create m) l n r = (false, tt, sym r)
  numbered (enable i j f) l n r = (false, l, picked (rows (tests_on R) (enable i j f)) (rows (tests_of wheel01 true w) (enable i j f)) (enable_rows_lem R R.clock.enabled refl i j f l) n r)
  numbered (set_entry e o h) l n r = judged_by R (ts (set_entry e o h)) (bs (set_entry e o h)) (λ T. agree R w T (set_entry e o h) tt) n r
  numbered (schedule e h) l n r = judged_by R (ts (schedule e h)) (bs (schedule e h)) (λ T. agree R w T (schedule e h) tt) n r
  numbered (reschedule x m h) l n r = judged_by R (ts (reschedule x m h)) (bs (reschedule x m h)) (λ T. agree R w T (reschedule x m h) tt) n r
  numbered (deschedule x m h) l n r = judged_by R (ts (deschedule x m h)) (bs (deschedule x m h)) (λ T. agree R w T (deschedule x m h) tt) n r
  numbered (start q) l n r = judged_by R (ts (start q)) (bs (start q)) (λ T. agree R w T (start q) tt) n r
  numbered pull l n r = judged_by R (ts pull) (bs pull) (λ T. agree R w T pull tt) n r
  numbered abandon l n r = judged_by R (ts abandon) (bs abandon) (λ T. agree R w T abandon tt) n r
  numbered armed_count l n r = judged_by R (ts armed_count) (bs armed_count) (λ T. agree R w T armed_count tt) n r
  numbered next_due l n r = judged_by R (ts next_due) (bs next_due) (λ T. agree R w T next_due tt) n r

  pub given_number : (c : Call) (s : Bool) → Looks c R s → rows_on R c (refusal_if wheel01 s w c)
  given_number (create m) s l = refl
  given_number (enable i j f) s l = given_picked (rows (tests_on R) (enable i j f)) (rows (tests_of wheel01 true w) (enable i j f)) (enable_rows_lem R R.clock.enabled refl i j f l)
  given_number (set_entry e o h) s l = given_by R (ts (set_entry e o h)) (bs (set_entry e o h)) (λ T. agree R w T (set_entry e o h) tt) s l
  given_number (schedule e h) s l = given_by R (ts (schedule e h)) (bs (schedule e h)) (λ T. agree R w T (schedule e h) tt) s l
  given_number (reschedule x m h) s l = given_by R (ts (reschedule x m h)) (bs (reschedule x m h)) (λ T. agree R w T (reschedule x m h) tt) s l
  given_number (deschedule x m h) s l = given_by R (ts (deschedule x m h)) (bs (deschedule x m h)) (λ T. agree R w T (deschedule x m h) tt) s l
  given_number (start q) s l = given_by R (ts (start q)) (bs (start q)) (λ T. agree R w T (start q) tt) s l
  given_number pull s l = given_by R (ts pull) (bs pull) (λ T. agree R w T pull tt) s l
  given_number abandon s l = given_by R (ts abandon) (bs abandon) (λ T. agree R w T abandon tt) s l
  given_number armed_count s l = given_by R (ts armed_count) (bs armed_count) (λ T. agree R w T armed_count tt) s l
  given_number next_due s l = given_by R (ts next_due) (bs next_due) (λ T. agree R w T next_due tt) s l

  pub lent_to : (c : Call) (s : Bool) → Looks c R s → LentTo R c
  lent_to (create m) s l = tt
  lent_to (enable i j f) s l = l
  lent_to (set_entry e o h) s l = tt
  lent_to (schedule e h) s l = tt
  lent_to (reschedule x m h) s l = tt
  lent_to (deschedule x m h) s l = tt
  lent_to (start q) s l = tt
  lent_to pull s l = tt
  lent_to abandon s l = tt
  lent_to armed_count s l = tt
  lent_to next_due s l = tt
