-- What the loop of `pull` keeps, and what a turn does to it.
use Prim.Native.Nat.{ℕ, suc, ◌<◌}
use native.Mathlib.Omega.{arith}
use mathlib.Core.Path.{◌≡◌, refl, sym, ap, subst, ◌∙◌}
use mathlib.Core.Bool.{Bool, true, false, cond}
use mathlib.Core.List.{List}
use lib.ListN.{length}
use Rattle.rules.specs.Places.{wheel01}
use Rattle.rules.specs.Wheel.{Wheel, Answer, pull}
use Rattle.rules.specs.Calls.{act}
use Rattle.rules.specs.Sound.{Sound}
use Rattle.wheel_rules.specs.Promise.{told}
use Rattle.wheel_rules.specs.declared.calls.Clock.{Clock}
use Rattle.wheel_rules.specs.Lent.{Nodes, entries, records, Shows}
use Rattle.wheel_rules.specs.declared.popping.Turn.{Turn}
use Rattle.wheel_rules.specs.popping.Pop.{left, TurnReady, going, event_of}
use Rattle.wheel_rules.specs.turns.Turns.{Turned}
use Rattle.wheel_rules.specs.pull.Pull.{Step, turns, pull_step, Pulls}

-- the lent lengths stay
pub record Lengths (N M : Nodes) : Type 0 where
  pub heads : length N.links.heads ≡ length M.links.heads
  pub tails : length N.links.tails ≡ length M.links.tails
  pub next : length N.links.next ≡ length M.links.next
  pub prev : length N.links.prev ≡ length M.links.prev
  pub home : length N.links.home ≡ length M.links.home
  pub entry : length N.entry ≡ length M.entry
  pub generation : length N.generation ≡ length M.generation
  pub serial : length N.serial ≡ length M.serial

-- of the records that the pull began with, those now are such that the rest of the work ends the same
pub record Pulling (M : Nodes) (t : List Bool) (d : List ℕ) (k : Clock) (N : Nodes) (c : Clock) : Type 0 where
  pub lengths : Lengths N M
  pub opened : c.open ≡ true
  pub rest : turns wheel01 t d (suc (left wheel01 N.links.home c)) N c ≡ pull_step wheel01 t d M k
  pub does :
      (ages : List ℕ) (w : Wheel) → Shows wheel01 (records M (entries t d ages) k) w → Sound wheel01 w
      → (v : Wheel) × Shows wheel01 (records N (entries t d ages) c) v × Sound wheel01 v × (act wheel01 v pull ≡ act wheel01 w pull)

pub pull_begins : (M : Nodes) (t : List Bool) (d : List ℕ) (k : Clock) → TurnReady wheel01 M t d k → Pulling M t d k M k
pull_begins M t d k y =
    record {
      lengths = record { heads = refl; tails = refl; next = refl; prev = refl; home = refl; entry = refl; generation = refl; serial = refl };
      opened = y.opened;
      rest = refl;
      does = λ ages w s o. (w, s, o, refl);
    }

-- a turn more
module _ (t : List Bool) (d : List ℕ) (N : Nodes) (c : Clock) (N' : Nodes) (r : Turn) (z : Turned wheel01 N t d c N' r) (j : ℕ) where
  unroll : turns wheel01 t d (suc j) N c ≡ cond (going r) (turns wheel01 t d j N' r.clock) (record { nodes = N'; turn = r })
  unroll = rw (z.turn_is, z.is) refl

  unroll_on : going r ≡ true → turns wheel01 t d (suc j) N c ≡ turns wheel01 t d j N' r.clock
  unroll_on h = unroll ∙ ap (λ (b : Bool). cond b (turns wheel01 t d j N' r.clock) (record { nodes = N'; turn = r })) h

  unroll_stop : going r ≡ false → turns wheel01 t d (suc j) N c ≡ record { nodes = N'; turn = r }
  unroll_stop h = unroll ∙ ap (λ (b : Bool). cond b (turns wheel01 t d j N' r.clock) (record { nodes = N'; turn = r })) h

-- two node records that show wheels with as many slots
same_lengths : (N M : Nodes) (t : List Bool) (d ages : List ℕ) (c k : Clock) (v w : Wheel) → Shows wheel01 (records N (entries t d ages) c) v
    → Shows wheel01 (records M (entries t d ages) k) w → v.nodes ≡ w.nodes → Lengths N M
same_lengths N M t d ages c k v w s u e =
    let q : s.lists.count ≡ u.lists.count = s.count ∙ sym u.count in
    let p : s.lists.slots ≡ u.lists.slots = s.slots ∙ e ∙ sym u.slots in
    record {
      heads = s.rep.heads_len ∙ q ∙ sym u.rep.heads_len;
      tails = s.rep.tails_len ∙ q ∙ sym u.rep.tails_len;
      next = s.rep.next_len ∙ p ∙ sym u.rep.next_len;
      prev = s.rep.prev_len ∙ p ∙ sym u.rep.prev_len;
      home = s.rep.home_len ∙ p ∙ sym u.rep.home_len;
      entry = s.entry_len ∙ e ∙ sym u.entry_len;
      generation = s.generation_len ∙ e ∙ sym u.generation_len;
      serial = s.serial_len ∙ e ∙ sym u.serial_len;
    }

-- what a turn's outcome on the wheel now says of the wheel at the beginning
finish : (a a' : Answer × Wheel) (x : Answer) (P : Wheel → Type 0) → a ≡ a' → (a.0 ≡ x) × P a.1 → (a'.0 ≡ x) × P a'.1
finish a a' x P e h = subst (λ (m : Answer × Wheel). (m.0 ≡ x) × P m.1) e h

module _ (M : Nodes) (t : List Bool) (d : List ℕ) (k : Clock) (y : TurnReady wheel01 M t d k) (N : Nodes) (c : Clock) (p : Pulling M t d k N c) where
  pub pull_asks : TurnReady wheel01 N t d c
  pull_asks =
      let u = p.does y.ages y.ready.w y.ready.shows y.ready.sound in
      record { ages = y.ages; ready = record { w = u.0; shows = u.1; sound = u.2 }; opened = p.opened }

  module _ (N' : Nodes) (r : Turn) (z : Turned wheel01 N t d c N' r) where
    pub pull_less : going r ≡ true → left wheel01 N'.links.home r.clock < left wheel01 N.links.home c
    pull_less h = omega (arith, z.nears.less h)

    goes_on : going r ≡ true → (ages : List ℕ) (w : Wheel) → Shows wheel01 (records M (entries t d ages) k) w → Sound wheel01 w
        → (v : Wheel) × Shows wheel01 (records N' (entries t d ages) r.clock) v × Sound wheel01 v × (act wheel01 v pull ≡ act wheel01 w pull)
    goes_on h ages w s o =
        let u = p.does ages w s o in
        let x = (z.does ages u.0 u.1 u.2).on h in
        (x.0, x.1, x.2, x.3 ∙ u.3)

    pub pull_again : going r ≡ true → Pulling M t d k N' r.clock
    pull_again h =
        let x = goes_on h y.ages y.ready.w y.ready.shows y.ready.sound in
        record {
          lengths = same_lengths N' M t d y.ages r.clock k x.0 y.ready.w x.1 y.ready.shows
              (ap (λ (m : Answer × Wheel). m.1.nodes) x.3);
          opened = z.nears.opened h;
          rest = ap (λ (j : ℕ). turns wheel01 t d j N' r.clock) (sym (z.nears.less h)) ∙ sym
              (unroll_on t d N c N' r z (left wheel01 N.links.home c) h) ∙ p.rest;
          does = goes_on h;
        }

    pub pull_ends : going r ≡ false → Pulls wheel01 M t d k N' r.clock (event_of r)
    pull_ends h =
        let e : record { nodes = N'; turn = r } ≡ pull_step wheel01 t d M k = sym (unroll_stop t d N c N' r z (left wheel01 N.links.home c) h) ∙ p.rest in
        record {
          is = ap (λ (s : Step). s.nodes) e;
          clock_is = ap (λ (s : Step). s.turn.clock) e;
          event_is = ap (λ (s : Step). event_of s.turn) e;
          enough = ap (λ (s : Step). going s.turn) (sym e) ∙ h;
          does = λ ages w s o.
              let u = p.does ages w s o in
              finish (act wheel01 u.0 pull) (act wheel01 w pull) (told (event_of r)) (Shows wheel01 (records N' (entries t d ages) r.clock)) u.3
              ((z.does ages u.0 u.1 u.2).stop h);
        }

    pub pull_kept : going r ≡ false → Lengths N' M
    pull_kept h =
        let u = p.does y.ages y.ready.w y.ready.shows y.ready.sound in
        same_lengths N' M t d y.ages r.clock k (act wheel01 u.0 pull).1 y.ready.w ((z.does y.ages u.0 u.1 u.2).stop h).1
        y.ready.shows
        (ap (λ (m : Answer × Wheel). m.1.nodes) u.3)
