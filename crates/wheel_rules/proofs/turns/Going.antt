-- The next bucket is entered, or the advance ends.
use Prim.Native.Nat.{ℕ, suc, ◌-◌, ◌<◌}
use native.Mathlib.Omega.{arith}
use mathlib.Core.Path.{◌≡◌, refl, sym, ap, subst, ◌∙◌}
use mathlib.Core.Logic.{inl}
use mathlib.Core.Bool.{true, false}
use mathlib.Core.List.{List, [], ◌∷◌}
use lib.ListN.{length}
use Rattle.std.specs.Prelude.{Option}
use Rattle.numbers.specs.Shared.{In}
use Rattle.deque_rules.specs.Links.{Links, deq}
use Rattle.deque_rules.specs.Lists.{turn as turnLists}
use Rattle.deque_rules.specs.Change.{turn_to, HeldBy, Turns}
use Rattle.numbers.proofs.Members.{app_right, in-same}
use Rattle.deque_rules.proofs.Laws.{home_turned}
use Rattle.rules.specs.Places.{wheel01, buckets, visited_at, bucket_at, ahead}
use Rattle.rules.specs.Wheel.{enter, closed, within, Wheel, Answer, end}
use Rattle.rules.specs.Calls.{swept, pulled, with_lists, with_clock}
use Rattle.rules.specs.Sound.{Sound}
use Rattle.numbers.proofs.Cases.{not_both}
use Rattle.rules.proofs.SoundLists.{sound_enter}
use Rattle.wheel_rules.specs.declared.calls.Clock.{Clock}
use Rattle.wheel_rules.specs.Lent.{Entries, records, Shows}
use Rattle.wheel_rules.specs.records.Records.{join}
use Rattle.wheel_rules.specs.records.Clocks.{standing}
use Rattle.wheel_rules.specs.records.Counts.{armed_among}
use Rattle.wheel_rules.specs.records.Moments.{EndsAdvance}
use Rattle.wheel_rules.proofs.records.Showing.{tied_enter}
use Rattle.wheel_rules.proofs.records.Tying.{tied, untied_nodes}
use Rattle.wheel_rules.proofs.records.Retiming.{retimed}
use Rattle.wheel_rules.specs.declared.popping.Position.{Position}
use Rattle.wheel_rules.specs.declared.calls.Event.TheVariants.{End}
use Rattle.wheel_rules.specs.popping.Position.{onward, more, level_of, step_of}
use Rattle.wheel_rules.specs.popping.Pop.{goes, stops, next_position, Outcome}
use Rattle.wheel_rules.specs.turns.Turns.{OnReady, GoesOn}
use Rattle.wheel_rules.proofs.popping.Positions.{Leads, leads, bucket_at_in}
use Rattle.wheel_rules.proofs.popping.Turning.{after}
use Rattle.wheel_rules.proofs.popping.Waiting.{to_sweep}

module _ (a : Links) (c : Clock) (y : OnReady wheel01 a c) (r : Option Position) (e : r ≡ onward wheel01 c.previous c.reading c.level c.step) where
  lead : Leads wheel01 c.previous c.reading c.level c.step r
  lead = subst (Leads wheel01 c.previous c.reading c.level c.step) (sym e) (leads wheel01 c.previous c.reading c.level c.step)

  -- the advance ends
  pub on_ends : (k : Clock) → more r ≡ false → EndsAdvance wheel01 c k → GoesOn wheel01 a c a (stops k End)
  on_ends k m z =
      let f : more (next_position wheel01 c) ≡ false = ap (λ (x : Option Position). more x) (sym e) ∙ m in
      record {
        is = rw f;
        turn_is = rw f (ap (λ (x : Clock). stops x End) z.is);
        nears = record { less = λ i. absurd (not_both i); opened = λ i. absurd (not_both i) };
        does = λ pe ph pn E w s o.
            let q : pulled wheel01 w.entry w.reading w.advance w.lists ≡ record { answer = end; advance = closed; lists = w.lists } =
            to_sweep wheel01 (join a pe ph pn) E c w s o y.turn.opened y.front
            ∙ ap (λ (l : List ℕ). swept wheel01 w.entry c.previous w.reading l w.lists) (lead.none m) in
            record {
              on = λ i. absurd (not_both i);
              stop = λ i.
                  subst (λ (x : Answer × Wheel). (x.0 ≡ end) × Shows wheel01 (records (join a pe ph pn) E k) x.1) (sym (ap (after w) q))
                  (refl, z.does (join a pe ph pn) E w s);
            };
      }

  module _ (m : more r ≡ true) where
    some : (i : ℕ) × (step_of r ≡ suc i) × (i < visited_at wheel01 c.previous c.reading (level_of r))
        × (ahead wheel01 c.previous c.reading c.level c.step ≡ bucket_at wheel01 c.previous (level_of r) i ∷ ahead wheel01 c.previous
        c.reading (level_of r) (suc i))
    some = lead.some m

    pub step_some : 0 < (step_of r)
    step_some = omega (arith, some.1)

    module _ (b : ℕ) (eb : b ≡ bucket_at wheel01 c.previous (level_of r) ((step_of r) - 1)) where
      hb : b < buckets wheel01
      hb = omega (arith, eb, bucket_at_in wheel01 c.previous (level_of r) ((step_of r) - 1))

      pub enter_asks : HeldBy a b b
      enter_asks =
          let z = y.turn.ready.shows in
          let i : In b (deq z.lists b) = in-same b (sym (z.bucket b hb))
          (app_right (y.turn.ready.w.lists.bucket b).early (b ∷ (y.turn.ready.w.lists.bucket b).late) b (inl refl)) in
          record {
            v = z.lists;
            loose = [];
            rep = z.rep;
            slot = omega (arith, hb, z.room, z.slots);
            deque = omega (arith, hb, z.count);
            homed = (z.rep.member b b (omega (arith, hb, z.count)) i).1;
          }

      module _ (a' : Links) (u : Turns a a' b b) where
        on_does : (pe ph pn : List ℕ) (E : Entries) (w : Wheel) → Shows wheel01 (records (join a pe ph pn) E c) w → Sound wheel01 w
            → Outcome wheel01 (records (join a' pe ph pn) E (standing (level_of r) (step_of r) c)) (goes (standing (level_of r) (step_of r) c)) w
        on_does pe ph pn E w s o =
            let i : ℕ = some.0 in
            let p : ℕ = c.previous in
            let bs : List ℕ = ahead wheel01 p c.reading (level_of r) (suc i) in
            let ei : (step_of r) - 1 ≡ i = omega (arith, some.1) in
            let bi : b ≡ bucket_at wheel01 p (level_of r) i = eb ∙ ap (bucket_at wheel01 p (level_of r)) ei in
            let s1 : Shows wheel01 (records (join a' pe ph pn) E c) (with_lists (enter b w.lists) w) =
            untied_nodes wheel01 (join a pe ph pn) (join a' pe ph pn) E c w (turnLists b b s.lists) (enter b w.lists) s
            (tied_enter (buckets wheel01) w.nodes w.entries w.next (join a pe ph pn) s.lists w.lists
            (tied wheel01 (records (join a pe ph pn) E c) w s) o.lists b a' hb
            (u.does s.lists [] s.rep) (ap (λ (x : Links). x.home) u.is ∙ home_turned a b b)) s.free_is in
            let s2 : Shows wheel01 (records (join a' pe ph pn) E (standing (level_of r) (step_of r) c))
            (with_clock w.reading (within p b bs) (with_lists (enter b w.lists) w)) =
            retimed wheel01 (join a' pe ph pn) E c (with_lists (enter b w.lists) w) c.open p (level_of r) (step_of r) c.reading w.reading
            (within p b bs) s1 s.reading
            (i, y.turn.opened, refl, some.1, some.2, bi, refl) in
            let q : pulled wheel01 w.entry w.reading w.advance w.lists ≡ swept wheel01 w.entry p w.reading (b ∷ bs) w.lists =
            to_sweep wheel01 (join a pe ph pn) E c w s o y.turn.opened y.front
            ∙ ap (λ (l : List ℕ). swept wheel01 w.entry p w.reading l w.lists) (some.3 ∙ ap (λ (k : ℕ). k ∷ bs) (sym bi)) in
            record {
              on = λ z. (
                with_clock w.reading (within p b bs) (with_lists (enter b w.lists) w),
                s2,
                record {
                  lists = sound_enter (buckets wheel01) w.nodes w.entries w.next b w.lists o.lists;
                  advance = subst (λ (k : ℕ). (l : ℕ) × (j : ℕ) × (j < visited_at wheel01 p k l) × (b ≡ bucket_at wheel01 p l j) ×
                      (bs ≡ ahead wheel01 p k l (suc j))) s.reading
                      ((level_of r), i, some.2, bi, refl);
                },
                sym (ap (after w) q),
              );
              stop = λ z. absurd (not_both (sym z));
            }

        pub on_goes : GoesOn wheel01 a c a' (goes (standing (level_of r) (step_of r) c))
        on_goes =
            let f : more (next_position wheel01 c) ≡ true = ap (λ (x : Option Position). more x) (sym e) ∙ m in
            record {
              is = rw f (u.is ∙ ap (λ (k : ℕ). turn_to a k k) eb ∙ ap
                  (λ (x : Option Position). turn_to a (bucket_at wheel01 c.previous (level_of x) ((step_of x) - 1))
                  (bucket_at wheel01 c.previous (level_of x) ((step_of x) - 1))) e);
              turn_is = rw f (ap (λ (x : Option Position). goes (standing (level_of x) (step_of x) c)) e);
              nears = record {
                less = λ i.
                    let h : a'.home ≡ a.home = ap (λ (x : Links). x.home) u.is ∙ home_turned a b b in
                    let k : length (ahead wheel01 c.previous c.reading c.level c.step) ≡ suc
                    (length (ahead wheel01 c.previous c.reading (level_of r) (step_of r))) =
                    ap length some.3 ∙ ap (λ (j : ℕ). suc (length (ahead wheel01 c.previous c.reading (level_of r) j))) (sym some.1) in
                    omega (arith, k, ap (λ (l : List ℕ). armed_among (buckets wheel01) l (length l)) h);
                opened = λ i. y.turn.opened;
              };
              does = on_does;
            }
