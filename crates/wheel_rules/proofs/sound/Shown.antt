-- Records that show a sound wheel on lists are sound, where the lengths are in their ranges and the level is one that
-- there is.
use Prim.Native.Nat.{ℕ, ◌<◌}
use native.Mathlib.Omega.{arith}
use mathlib.Core.Path.{◌≡◌, refl, sym, ap, ◌∙◌}
use mathlib.Core.Logic.{◌⊎◌, inl, inr, ⊎_elim}
use mathlib.Core.Bool.{true, false≢true}
use mathlib.Core.List.{List, [], ◌∷◌}
use lib.ListN.{length, get_or}
use borrow.Author.Tests.{lt-ltb}
use Rattle.numbers.specs.Shared.{no_slot as none}
use Rattle.numbers.proofs.Members.{in-same, app_right}
use Rattle.deque_rules.proofs.Laws.{home_in}
use Rattle.rules.specs.Places.{Geometry, buckets, visited_at, SoundPosition}
use Rattle.rules.specs.Wheel.{Slot as Node, Advance, closed, poised, within, Wheel}
use Rattle.rules.specs.Sound.{Sound}
use Rattle.numbers.proofs.Cases.{same?}
use Rattle.wheel_rules.specs.declared.calls.Clock.{Clock}
use Rattle.wheel_rules.specs.Lent.{Records, node_at, ShowsAdvance, Shows, Armed, SoundRecords}
use Rattle.wheel_rules.specs.sound.Sound.{InRange}

-- the position that a clock shows is sound
pub position_shown : (g : Geometry) (c : Clock) (A : Advance) → ShowsAdvance g c A → c.open ≡ true → SoundPosition g c.previous c.reading c.level
    c.step
position_shown g c closed s o = absurd (false≢true (sym s ∙ o))
position_shown g c (poised p bs) s o = inl (s.2, s.3)
position_shown g c (within p b bs) s o =
    let k : s.0 < visited_at g c.previous c.reading c.level = rw s.2 s.4 in
    inr (omega (arith, s.3), omega (arith, s.3, k))

module _ (g : Geometry) (R : Records) (w : Wheel) (h : Shows g R w) (s : Sound g w) (i : InRange g R.clock) where
  abbrev D : ℕ
  D = buckets g

  abbrev home : List ℕ
  home = R.nodes.links.home

  home_len : length home ≡ w.nodes
  home_len = h.rep.home_len ∙ h.slots

  -- a sentinel names its own bucket
  own : (b : ℕ) → b < D → get_or home b 0 ≡ b
  own b l =
      home_in R.nodes.links h.lists [] h.rep b b (omega (arith, l, h.count))
      (in-same b (sym (h.bucket b l)) (app_right (w.lists.bucket b).early (b ∷ (w.lists.bucket b).late) b (inl refl)))

  other : (x : ℕ) → x < length home → (get_or home x 0 < D) ⊎ (get_or home x 0 ≡ none)
  other x l =
      ⊎_elim
      (λ e. inr e)
      (λ (n : get_or home x 0 ≡ none → ⊥). inl (omega (arith, (h.rep.homed x (omega (arith, l, h.rep.home_len)) n).0, h.count)))
      (same? (get_or home x 0) none)

  -- an armed slot is an armed node, with the fields of its record
  node_armed : (x : ℕ) → Armed D home x → (w.lists.node x).armed ≡ true
  node_armed x a = h.armed x a.after (omega (arith, a.lent, home_len)) ∙ lt-ltb (get_or home x 0) D a.names

  node_is : (x : ℕ) → Armed D home x → w.lists.node x ≡ node_at D R.nodes x
  node_is x a = h.node x a.after (omega (arith, a.lent, home_len)) (node_armed x a)

  pub shows_sound : SoundRecords g R
  shows_sound =
      record {
        kinds = record { each = λ x l. record { sentinel = own x; other = λ _. other x l } };
        linked = record { v = h.lists; rep = h.rep; free_is = h.free_is };
        exist =
            record {
              each = λ x a.
                  omega (arith, ap (λ (n : Node). n.entry) (node_is x a), s.lists.entry x (node_armed x a), h.entries_len);
            };
        differ =
            record {
              each = λ x y a b e.
                  s.lists.differ x y (node_armed x a) (node_armed y b)
                  (ap (λ (n : Node). n.serial) (node_is x a) ∙ e ∙ sym (ap (λ (n : Node). n.serial) (node_is y b)));
            };
        below =
            record { each = λ x a. omega (arith, ap (λ (n : Node). n.serial) (node_is x a), s.lists.below x (node_armed x a), h.next) };
        lengths =
            record {
              ranges =
                  record {
                    room = omega (arith, h.room, h.nodes_len);
                    nodes_most = omega (arith, h.rep.small, h.slots, h.nodes_len);
                    some = i.some;
                    entries_most = i.most;
                  };
              ends = record { heads_len = h.rep.heads_len ∙ h.count; tails_len = h.rep.tails_len ∙ h.count };
              nodes =
                  record {
                    next_len = h.rep.next_len ∙ h.slots ∙ sym h.nodes_len;
                    prev_len = h.rep.prev_len ∙ h.slots ∙ sym h.nodes_len;
                    bucket_len = home_len ∙ sym h.nodes_len;
                    entry_len = h.entry_len ∙ sym h.nodes_len;
                    generation_len = h.generation_len ∙ sym h.nodes_len;
                    serial_len = h.serial_len ∙ sym h.nodes_len;
                  };
              entries =
                  record {
                    dated_len = h.dated_len ∙ sym h.entries_len;
                    deadline_len = h.deadline_len ∙ sym h.entries_len;
                    generation_len = h.entries_generation_len ∙ sym h.entries_len;
                  };
            };
        advance =
            record { stands = λ o. record { known = i.known o; position = position_shown g R.clock w.advance h.advance o } };
      }
