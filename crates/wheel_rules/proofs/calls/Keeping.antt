-- What is done to the node records, as to the fields that a wheel does not show: a slot armed, freed, moved, a bucket
-- turned. All that is asked of the records are sound links, with each sentinel in its own bucket.
use Prim.Native.Nat.{ℕ, ◌≤◌, ◌<◌}
use native.Mathlib.Omega.{arith}
use mathlib.Core.Path.{◌≡◌, refl, sym, ap, ◌∙◌}
use mathlib.Core.Logic.{⊎_elim}
use mathlib.Core.List.{List, []}
use lib.ListN.{length, get_or, set, length-set}
use lib.Seq.{get_or-set_same, get_or-set_other}
use Rattle.deque_rules.specs.Links.{first, Links, Deques as Lists, home_of, Rep, link_back, removed, move_back}
use Rattle.numbers.specs.Shared.{no_slot as none}
use Rattle.deque_rules.specs.Lists.{push_back, take_out, turn, freed}
use Rattle.deque_rules.specs.Change.{turn_to}
use Rattle.deque_rules.proofs.Laws.{remove_rep, move_rep, turn_rep, home_linked, home_removed, home_moved, home_turned, idle_linked, idle_moved}
use Rattle.deque_rules.proofs.Laws.{idle_removed, idle_turned, prev_removed}
use Rattle.numbers.proofs.Cases.{same?}
use Rattle.wheel_rules.specs.Lent.{Nodes}
use Rattle.wheel_rules.specs.records.Records.{with_links}
use Rattle.wheel_rules.specs.timers.Change.{written, armed_in, freed_from, moved_to}
use Rattle.wheel_rules.specs.Promise.{payload_at, blank, DeadFields}

-- ---- a payload written
module _ (a : Links) (x e h n : ℕ) (N : Nodes) where
  payload_other : (y : ℕ) → (y ≡ x → ⊥) → payload_at (with_links a (written x e h n N)) y ≡ payload_at N y
  payload_other y k =
      rw (get_or-set_other N.entry x y e 0 k, get_or-set_other N.generation x y h 0 k, get_or-set_other N.serial x y n 0 k) refl

payload_own : (a : Links) (x : ℕ) (N : Nodes) → x < length N.entry → x < length N.generation → x < length N.serial
    → payload_at (with_links a (written x 0 0 0 N)) x ≡ blank
payload_own a x N i j k =
    rw (get_or-set_same N.entry x 0 0 i, get_or-set_same N.generation x 0 0 j, get_or-set_same N.serial x 0 0 k) refl

-- ---- what is kept: the fields, and that no free slot becomes armed
pub record Kept (D : ℕ) (N M : Nodes) : Type 0 where
  pub dead : DeadFields D N M
  pub stays : (x : ℕ) → x < length N.links.next → home_of N.links x ≡ none → home_of M.links x ≡ none
  pub long : length M.links.next ≡ length N.links.next

pub dead_same : (D : ℕ) (N : Nodes) → DeadFields D N N
dead_same D N = record { sentinel = λ x h. refl; idle = λ x l i j. (refl, refl); freed = λ x l n i. absurd (n i) }

pub kept_same : (D : ℕ) (N : Nodes) → Kept D N N
kept_same D N = record { dead = dead_same D N; stays = λ x l i. i; long = refl }

-- one after the other
pub kept_both : (D : ℕ) (N M P : Nodes) → Kept D N M → Kept D M P → Kept D N P
kept_both D N M P k m =
    let there : (x : ℕ) → x < length N.links.next → x < length M.links.next = λ x l. omega (arith, l, k.long) in
    record {
      dead =
          record {
            sentinel = λ x h. m.dead.sentinel x h ∙ k.dead.sentinel x h;
            idle = λ x l i j.
                let o = k.stays x l i in
                let u = k.dead.idle x l i o in
                let v = m.dead.idle x (there x l) o j in
                (v.0 ∙ u.0, v.1 ∙ u.1);
            freed = λ x l n j.
                ⊎_elim
                (λ (o : home_of M.links x ≡ none).
                let u = k.dead.freed x l n o in
                let v = m.dead.idle x (there x l) o j in
                (v.0 ∙ u.0, v.1 ∙ u.1))
                (λ (o : home_of M.links x ≡ none → ⊥). m.dead.freed x (there x l) o j)
                (same? (home_of M.links x) none);
          };
      stays = λ x l i. m.stays x (there x l) (k.stays x l i);
      long = m.long ∙ k.long;
    }

-- ---- what is asked
-- the node records N, with D buckets, have sound links with each sentinel in its own bucket, and f is the first free
-- slot
pub record Fit (D : ℕ) (N : Nodes) (f : ℕ) : Type 0 where
  pub lists : Lists
  pub rep : Rep N.links lists []
  pub free_is : first lists.free ≡ f
  pub count : lists.count ≡ D
  pub room : D < lists.slots
  pub own : (b : ℕ) → b < D → home_of N.links b ≡ b
  pub entry_len : length N.entry ≡ lists.slots
  pub generation_len : length N.generation ≡ lists.slots
  pub serial_len : length N.serial ≡ lists.slots

module _ (D : ℕ) (N : Nodes) (f : ℕ) (z : Fit D N f) where
  abbrev a : Links
  a = N.links

  few : D ≤ none
  few = omega (arith, z.rep.few, z.count)

  -- a sentinel is no free slot
  held_own : (b : ℕ) → b < D → home_of a b ≡ none → ⊥
  held_own b h e = omega (arith, z.own b h, e, h, few)

  slot : (y : ℕ) → y < length a.next → y < z.lists.slots
  slot y h = omega (arith, h, z.rep.next_len)

  at_home : (y : ℕ) {o o' : List ℕ} → o ≡ o' → get_or o y 0 ≡ get_or o' y 0
  at_home y e = ap (λ (o : List ℕ). get_or o y 0) e

  -- ---- the free slot x is armed in the bucket b
  module _ (b x e h n : ℕ) (hb : b < D) (lx : x < z.lists.slots) (ix : home_of a x ≡ none) where
    armed_own : home_of (link_back a b x) x ≡ b
    armed_own = at_home x (home_linked a b x) ∙ get_or-set_same a.home x b 0 (omega (arith, lx, z.rep.home_len))

    armed_other : (y : ℕ) → (y ≡ x → ⊥) → home_of (link_back a b x) y ≡ home_of a y
    armed_other y k = at_home y (home_linked a b x) ∙ get_or-set_other a.home x y b 0 k

    pub arm_dead : DeadFields D N (armed_in b x e h n N)
    arm_dead =
        record {
          sentinel = λ y l. payload_other (link_back a b x) x e h n N y (λ k. held_own y l (ap (home_of a) k ∙ ix));
          idle = λ y l i j.
              let k : y ≡ x → ⊥ = λ k. omega (arith, ap (home_of (link_back a b x)) k, armed_own, j, hb, few) in
              (idle_linked a b x y k, payload_other (link_back a b x) x e h n N y k);
          freed = λ y l i j. absurd (i (sym (armed_other y (λ k. i (ap (home_of a) k ∙ ix))) ∙ j));
        }

  -- ---- the armed slot x is freed, or moved to the bucket b
  module _ (x : ℕ) (past : D ≤ x) (lx : x < z.lists.slots) (held : home_of a x ≡ none → ⊥) where
    not_x : (y : ℕ) → home_of a y ≡ none → y ≡ x → ⊥
    not_x y i k = held (ap (home_of a) (sym k) ∙ i)

    no_sentinel : (y : ℕ) → y < D → y ≡ x → ⊥
    no_sentinel y l k = omega (arith, l, k, past)

    freed_own : home_of (removed a f x) x ≡ none
    freed_own = at_home x (home_removed a f x) ∙ get_or-set_same a.home x none 0 (omega (arith, lx, z.rep.home_len))

    freed_other : (y : ℕ) → (y ≡ x → ⊥) → home_of (removed a f x) y ≡ home_of a y
    freed_other y k = at_home y (home_removed a f x) ∙ get_or-set_other a.home x y none 0 k

    free_rep : Rep (removed a f x) (freed x (take_out (home_of a x) x z.lists)) []
    free_rep = remove_rep a z.lists f x z.rep z.free_is lx held

    free_dead : DeadFields D N (freed_from x f N)
    free_dead =
        record {
          sentinel = λ y l. payload_other (removed a f x) x 0 0 0 N y (no_sentinel y l);
          idle = λ y l i j. (
            idle_removed a z.lists [] z.rep x lx held f y (slot y l) i,
            payload_other (removed a f x) x 0 0 0 N y (not_x y i),
          );
          freed = λ y l i j.
              ⊎_elim
              (λ (k : y ≡ x).
              rw k (
                prev_removed a z.lists [] z.rep x lx held f,
                payload_own (removed a f x) x N (omega (arith, lx, z.entry_len)) (omega (arith, lx, z.generation_len)) (omega (arith, lx, z.serial_len)),
              ))
              (λ (k : y ≡ x → ⊥). absurd (i (sym (freed_other y k) ∙ j)))
              (same? y x);
        }

    pub free_kept : Kept D N (freed_from x f N)
    free_kept =
        record {
          dead = free_dead;
          stays = λ y l i. freed_other y (not_x y i) ∙ i;
          long = free_rep.next_len ∙ sym z.rep.next_len;
        }

    pub free_fit : Fit D (freed_from x f N) x
    free_fit =
        record {
          lists = freed x (take_out (home_of a x) x z.lists);
          rep = free_rep;
          free_is = refl;
          count = z.count;
          room = z.room;
          own = λ b l. freed_other b (no_sentinel b l) ∙ z.own b l;
          entry_len = simp length-set z.entry_len;
          generation_len = simp length-set z.generation_len;
          serial_len = simp length-set z.serial_len;
        }

    module _ (b : ℕ) (hb : b < D) where
      moved_own : home_of (move_back a b x) x ≡ b
      moved_own =
          at_home x (home_moved a b x) ∙ get_or-set_same (set a.home x none) x b 0 (simp length-set (omega (arith, lx, z.rep.home_len)))

      moved_other : (y : ℕ) → (y ≡ x → ⊥) → home_of (move_back a b x) y ≡ home_of a y
      moved_other y k = at_home y (home_moved a b x) ∙ get_or-set_other (set a.home x none) x y b 0 k ∙ get_or-set_other a.home x y none 0 k

      moved_rep : Rep (move_back a b x) (push_back b x (take_out (home_of a x) x z.lists)) []
      moved_rep = move_rep a z.lists [] b x z.rep lx held (omega (arith, hb, z.count))

      move_dead : DeadFields D N (moved_to b x N)
      move_dead =
          record {
            sentinel = λ y l. refl;
            idle = λ y l i j. (idle_moved a z.lists [] z.rep x lx held b y (slot y l) i, refl);
            freed = λ y l i j.
                ⊎_elim
                (λ (k : y ≡ x). absurd (omega (arith, ap (home_of (move_back a b x)) k, moved_own, j, hb, few)))
                (λ (k : y ≡ x → ⊥). absurd (i (sym (moved_other y k) ∙ j)))
                (same? y x);
          }

      pub move_kept : Kept D N (moved_to b x N)
      move_kept =
          record {
            dead = move_dead;
            stays = λ y l i. moved_other y (not_x y i) ∙ i;
            long = moved_rep.next_len ∙ sym z.rep.next_len;
          }

      pub move_fit : Fit D (moved_to b x N) f
      move_fit =
          record {
            lists = push_back b x (take_out (home_of a x) x z.lists);
            rep = moved_rep;
            free_is = z.free_is;
            count = z.count;
            room = z.room;
            own = λ y l. moved_other y (no_sentinel y l) ∙ z.own y l;
            entry_len = z.entry_len;
            generation_len = z.generation_len;
            serial_len = z.serial_len;
          }

  -- ---- the bucket b is turned until its sentinel is last
  module _ (b : ℕ) (hb : b < D) where
    in-slots : b < z.lists.slots
    in-slots = omega (arith, hb, z.room)

    in_count : b < z.lists.count
    in_count = omega (arith, hb, z.count)

    turned_home : (y : ℕ) → home_of (turn_to a b b) y ≡ home_of a y
    turned_home y = at_home y (home_turned a b b)

    turned_rep : Rep (turn_to a b b) (turn b b z.lists) []
    turned_rep = turn_rep a z.lists [] b b z.rep in-slots in_count (z.own b hb)

    pub turn_kept : Kept D N (with_links (turn_to a b b) N)
    turn_kept =
        record {
          dead =
              record {
                sentinel = λ y l. refl;
                idle = λ y l i j. (idle_turned a z.lists [] z.rep b b y in-slots in_count (z.own b hb) (slot y l) i, refl);
                freed = λ y l i j. absurd (i (sym (turned_home y) ∙ j));
              };
          stays = λ y l i. turned_home y ∙ i;
          long = turned_rep.next_len ∙ sym z.rep.next_len;
        }

    pub turn_fit : Fit D (with_links (turn_to a b b) N) f
    turn_fit =
        record {
          lists = turn b b z.lists;
          rep = turned_rep;
          free_is = z.free_is;
          count = z.count;
          room = z.room;
          own = λ y l. turned_home y ∙ z.own y l;
          entry_len = z.entry_len;
          generation_len = z.generation_len;
          serial_len = z.serial_len;
        }
