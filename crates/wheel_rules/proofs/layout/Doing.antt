-- Enabling: its contract, of what it writes alone.
use Prim.Native.Nat.{ℕ, zero, suc, ◌≤◌}
use native.Mathlib.Omega.{arith}
use native.Mathlib.Numerals.{add-one}
use mathlib.Core.Bool.{true}
use mathlib.Core.Path.{◌≡◌, refl, subst}
use lib.ListN.{length, replicate}
use Rattle.deque_rules.specs.Links.{first, Links, fresh}
use Rattle.numbers.specs.Shared.{up_from}
use Rattle.deque_rules.specs.Layout.{LaysOut}
use Rattle.deque_rules.proofs.Laws.{pushes, lays}
use Rattle.rules.specs.Places.{wheel01}
use Rattle.rules.specs.Wheel.{Wheel, enable}
use Rattle.rules.specs.Calls.{act}
use Rattle.wheel_rules.specs.declared.calls.Clock.{Clock}
use Rattle.wheel_rules.specs.Lent.{Nodes, Entries, records, Shows}
use Rattle.wheel_rules.specs.records.Records.{join}
use Rattle.wheel_rules.specs.Promise.{bare_entries}
use Rattle.wheel_rules.specs.layout.Layout.{bare_nodes, enabled_with, SeatReady, Seats, LayReady, Lays}
use Rattle.wheel_rules.proofs.layout.Seating.{Seating, seating_begins, seating_asks, seating_again, seating_ends, laid}

-- ---- the sentinels, one after another
module _ (z : Links) (y : SeatReady z) where
  abbrev o : Links
  o = fresh (length z.heads) (length z.next)

  out : LaysOut z o (first (up_from (length z.next) 0))
  out = lays z y.sizes

  abbrev D : ℕ
  D = length o.heads

  abbrev n : ℕ
  n = length o.next

  -- b of them are linked
  seats_to : (b : ℕ) → b ≤ D → (a : Links) × (f : ℕ) × Seating D n o a f b
  seats_to zero l = (o, _, seating_begins z o _ y out)
  seats_to (suc b) l =
      let s = seats_to b (omega arith) in
      let h : suc b ≤ length s.0.heads = omega (arith, s.2.heads_len) in (
        _,
        _,
        subst (Seating D n o _ _) (add-one b)
            (seating_again D n o s.0 s.1 b s.2 h _ _ (pushes s.0 s.1 b (seating_asks D n o s.0 s.1 b s.2 h))),
      )

  seats : (a : Links) × Seats z a
  seats =
      let s = seats_to D (omega arith) in
      (s.0, seating_ends z o s.0 _ s.1 D out s.2 (omega (arith, s.2.heads_len)))

-- ---- all of the records
module _ (N : Nodes) (E : Entries) (c : Clock) (y : LayReady wheel01 N E) where
  abbrev slots : ℕ
  slots = length N.links.next

  abbrev total : ℕ
  total = length E.dated

  abbrev clock : Clock
  clock = enabled_with (length N.links.heads) slots total c

  lays_right : (a : Links) × Lays wheel01 N E c (join a (replicate (length N.entry) 0) (replicate (length N.entry) 0) (replicate (length N.entry) 0))
      (bare_entries total) clock
  lays_right =
      let a : Links = N.links in
      let s = seats a y.seat in
      let b : Links = s.0 in (
        b,
        laid a.heads a.tails a.next a.prev a.home N.entry N.generation N.serial b.heads b.tails b.next b.prev b.home
            _ _ _ E.dated E.deadline E.generation _ _ _ c clock y refl s.1
            (record { entry_is = refl; generation_is = refl; serial_is = refl }) (record { dated_is = refl; deadline_is = refl; generation_is = refl }),
      )

  -- what is written is the rules' enabling
  pub lay_does : (w : Wheel) → c.reading ≡ w.reading → c.serial ≡ w.next
      → Shows wheel01 (records (bare_nodes (length N.links.heads) slots) (bare_entries total) clock) (act wheel01 w (enable slots total true)).1
  lay_does w er es =
      let u = lays_right.1 in
      subst (λ (M : Nodes). Shows wheel01 (records M (bare_entries total) clock) (act wheel01 w (enable slots total true)).1) u.nodes_are (u.does w er es)
