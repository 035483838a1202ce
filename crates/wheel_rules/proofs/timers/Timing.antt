-- Arming, disarming, rearming: what each asks of its steps, and what they come to.
use Prim.Native.Nat.{ℕ, suc, ◌+◌, ◌<◌}
use native.Mathlib.Omega.{arith}
use mathlib.Core.Path.{◌≡◌, refl, sym, ap, subst, ◌∙◌}
use mathlib.Core.Option.{Option, some}
use mathlib.Core.List.{List, [], ◌∷◌}
use lib.ListN.{length}
use Rattle.numbers.specs.Lists.{rest}
use Rattle.deque_rules.specs.Links.{Links, links, home_of, Deques as Held, link_back, move_back}
use Rattle.deque_rules.specs.Lists.{push_back, take_out, taken as takenFree, freed as freedSlot}
use Rattle.deque_rules.specs.Change.{Pushable, PushesBack, Held as HeldSlot, Removes, Movable, MovesBack}
use Rattle.deque_rules.proofs.Laws.{home_linked, home_removed, home_moved}
use Rattle.rules.specs.Places.{wheel01, buckets, bucket_of}
use Rattle.rules.specs.Wheel.{new_node, placed_in, link, unlink, release, claim, Wheel, Answer, schedule, reschedule, deschedule, handle, ok}
use Rattle.rules.specs.Calls.{armed, rearmed, with_lists, with_next, act}
use Rattle.rules.specs.Sound.{Sound}
use Rattle.rules.proofs.Placing.{bucket_of_in}
use Rattle.rules.proofs.SoundLists.{first_free}
use Rattle.wheel_rules.specs.place.Promises.{InBucket}
use Rattle.wheel_rules.specs.declared.calls.Clock.{Clock}
use Rattle.wheel_rules.specs.Lent.{Nodes, nodes, Entries, records, Shows}
use Rattle.wheel_rules.specs.records.Records.{join}
use Rattle.wheel_rules.specs.records.Clocks.{set_free, counted}
use Rattle.wheel_rules.specs.timers.Change.{armed_in, Writes}
use Rattle.wheel_rules.specs.timers.Timers.{ArmReady, SlotReady, MoveReady, Arms, Disarms, Rearms}
use Rattle.wheel_rules.proofs.records.Showing.{Tied, tied_arm, tied_free, tied_move}
use Rattle.wheel_rules.proofs.records.Tying.{tied, untied, untied_nodes, past, there, alive}

joined : {a a' : Links} {e e' h h' n n' : List ℕ} → a ≡ a' → e ≡ e' → h ≡ h' → n ≡ n' → join a e h n ≡ join a' e' h' n'
joined p q r s = rw (p, q, r, s) refl

-- ---- arm
module _ (h t n p o e γ s : List ℕ) (c : Clock) (d f b : ℕ) (i : InBucket c.reading d b) where
  module _ (h' t' n' p' o' e' γ' s' : List ℕ) (i' j : ℕ) (w : Writes e γ s e' γ' s' c.free i' j c.serial)
      (l : PushesBack (links h t n p o) (links h' t' n' p' o') c.free b f) where
    abbrev N : Nodes
    N = nodes h t n p o e γ s

    abbrev N' : Nodes
    N' = nodes h' t' n' p' o' e' γ' s'

    arm_is : N' ≡ armed_in (bucket_of wheel01 c.reading d) c.free i' j c.serial N
    arm_is = joined (l.is ∙ ap (λ (k : ℕ). link_back (links h t n p o) k c.free) i.is) w.entry_is w.generation_is w.serial_is

    pub arm_shows : (E : Entries) (W : Wheel) → Shows wheel01 (records N E c) W → Sound wheel01 W → (W.entry i').deadline ≡ some d
        → ((act wheel01 W (schedule i' j)).0 ≡ handle c.free c.serial) × Shows wheel01 (records N' E (counted f c)) (act wheel01 W (schedule i' j)).1
    arm_shows E W z q due =
        let x : ℕ = c.free in
        let v : Held = z.lists in
        let r = l.does v z.rep z.free_is in
        let fs : List ℕ = rest v.free in
        let u = first_free (buckets wheel01) W.nodes W.entries W.next x W.lists q.lists fs (z.free ∙ r.2) in
        let eb : b ≡ bucket_of wheel01 W.reading d = i.is ∙ ap (λ (m : ℕ). bucket_of wheel01 m d) z.reading in
        let td = tied_arm (buckets wheel01) W.nodes W.entries W.next N v W.lists (tied wheel01 (records N E c) W z) q.lists x u.0 u.1
        (links h' t' n' p' o') b i' j c.serial fs (omega (arith, i.is, bucket_of_in wheel01 c.reading d)) r.2 r.0
        (ap (λ (m : Links). m.home) l.is ∙ home_linked (links h t n p o) b x) in
        let td' : Tied (buckets wheel01) W.nodes N' (push_back b x (takenFree v)) (link b x (new_node b i' j c.serial) (claim fs W.lists)) =
        subst (λ (m : Nodes). Tied (buckets wheel01) W.nodes m (push_back b x (takenFree v)) (link b x (new_node b i' j c.serial) (claim fs W.lists)))
        (joined refl (sym w.entry_is) (sym w.generation_is) (sym w.serial_is)) td in
        let sh : Shows wheel01 (records N' E (counted f c))
        (with_next (suc W.next) (with_lists (link b x (new_node b i' j c.serial) (claim fs W.lists)) W)) =
        untied wheel01 N N' E c W (push_back b x (takenFree v)) _ f (c.serial + 1) (suc W.next) z td' r.1 (omega (arith, z.next)) in
        let at : act wheel01 W (schedule i' j) ≡ armed wheel01 W i' j (some d) (x ∷ fs) =
        ap (λ (m : Option ℕ). armed wheel01 W i' j m W.lists.free) due ∙ ap (armed wheel01 W i' j (some d)) (z.free ∙ r.2) in
        subst (λ (m : Answer × Wheel). (m.0 ≡ handle x c.serial) × Shows wheel01 (records N' E (counted f c)) m.1) (sym at) (
          ap (handle x) (sym z.next),
          subst (λ (m : ℕ). Shows wheel01 (records N' E (counted f c))
              (with_next (suc W.next) (with_lists (link m x (new_node m i' j W.next) (claim fs W.lists)) W))) eb
              (subst (λ (m : ℕ). Shows wheel01 (records N' E (counted f c))
              (with_next (suc W.next) (with_lists (link b x (new_node b i' j m) (claim fs W.lists)) W))) z.next sh),
        )

-- what `arm` asks of its steps, and its contract
module _ (h t n p o e γ s : List ℕ) (c : Clock) (y : ArmReady wheel01 (nodes h t n p o e γ s) c) (d f b : ℕ) (i : InBucket c.reading d b) where
  pub arm_asks : Pushable (links h t n p o) c.free b
  arm_asks =
      let z = y.ready.shows in
      record {
        v = z.lists;
        rep = z.rep;
        free_is = z.free_is;
        slot = omega (arith, y.slot, z.rep.next_len);
        deque = omega (arith, i.is, bucket_of_in wheel01 c.reading d, z.count);
      }

  module _ (h' t' n' p' o' e' γ' s' : List ℕ) (i' j : ℕ) (w : Writes e γ s e' γ' s' c.free i' j c.serial)
      (l : PushesBack (links h t n p o) (links h' t' n' p' o') c.free b f) where
    pub arm_does : Arms wheel01 (nodes h t n p o e γ s) c (nodes h' t' n' p' o' e' γ' s')
        (record { clock = counted f c; answer = record { slot = c.free; serial = c.serial } }) i' j d
    arm_does =
        record {
          is = arm_is h t n p o e γ s c d f b i h' t' n' p' o' e' γ' s' i' j w l;
          clock_is = ap (λ (m : ℕ). counted m c) l.free_is;
          slot_is = refl;
          serial_is = refl;
          does = arm_shows h t n p o e γ s c d f b i h' t' n' p' o' e' γ' s' i' j w l;
        }

-- ---- disarm
module _ (h t n p o e γ s : List ℕ) (c : Clock) (x : ℕ) (y : SlotReady wheel01 (nodes h t n p o e γ s) c x) where
  pub disarm_asks : HeldSlot (links h t n p o) x
  disarm_asks =
      let z = y.ready.shows in
      record {
        v = z.lists;
        loose = [];
        rep = z.rep;
        slot = omega (arith, y.slot, z.rep.next_len);
        homed = λ i. omega (arith, y.armed, z.rep.heads_len, z.rep.few, i);
      }

  pub disarm_writes : (x < length e) × (x < length γ) × (x < length s)
  disarm_writes =
      let z = y.ready.shows in
      let k : x < y.ready.w.nodes = there wheel01 (nodes h t n p o e γ s) y.E c y.ready.w z x y.slot in
      (omega (arith, z.entry_len, k), omega (arith, z.generation_len, k), omega (arith, z.serial_len, k))

  module _ (h' t' n' p' o' e' γ' s' : List ℕ) (u : Removes (links h t n p o) (links h' t' n' p' o') c.free x) (w : Writes e γ s e' γ' s' x 0 0 0) where
    abbrev M : Nodes
    M = nodes h t n p o e γ s

    abbrev M' : Nodes
    M' = nodes h' t' n' p' o' e' γ' s'

    disarm_shows : (E : Entries) (W : Wheel) → Shows wheel01 (records M E c) W → Sound wheel01 W → (i j : ℕ)
        → Shows wheel01 (records M' E (set_free x c)) (act wheel01 W (deschedule x i j)).1
    disarm_shows E W z q i j =
        let v : Held = z.lists in
        let td = tied_free (buckets wheel01) W.nodes W.entries W.next M v W.lists (tied wheel01 (records M E c) W z) q.lists x
        (past wheel01 M E c W z x y.after) (there wheel01 M E c W z x y.slot) (alive wheel01 M E c W z x y.after y.slot y.armed)
        (links h' t' n' p' o') 0 0 0 (u.does v z.rep z.free_is) (ap (λ (m : Links). m.home) u.is ∙ home_removed (links h t n p o) c.free x) in
        let td' : Tied (buckets wheel01) W.nodes M' (freedSlot x (take_out (home_of (links h t n p o) x) x v)) (release x (unlink x W.lists)) =
        subst (λ (m : Nodes). Tied (buckets wheel01) W.nodes m (freedSlot x (take_out (home_of (links h t n p o) x) x v)) (release x (unlink x W.lists)))
        (joined refl (sym w.entry_is) (sym w.generation_is) (sym w.serial_is)) td in
        untied wheel01 M M' E c W (freedSlot x (take_out (home_of (links h t n p o) x) x v)) _ x c.serial W.next z td' refl z.next

    pub disarm_does : Disarms wheel01 M c M' (set_free x c) x
    disarm_does =
        record {
          is = joined u.is w.entry_is w.generation_is w.serial_is;
          clock_is = refl;
          does = disarm_shows;
        }

-- ---- rearm
module _ (a : Links) (r x : ℕ) (y : MoveReady wheel01 a r x) (d b : ℕ) (i : InBucket r d b) where
  pub rearm_asks : Movable a b x
  rearm_asks =
      let z = y.ready.ready.shows in
      record {
        v = z.lists;
        loose = [];
        rep = z.rep;
        slot = omega (arith, y.ready.slot, z.rep.next_len);
        homed = λ i. omega (arith, y.ready.armed, z.rep.heads_len, z.rep.few, i);
        deque = omega (arith, i.is, bucket_of_in wheel01 r d, z.count);
      }

  module _ (a' : Links) (u : MovesBack a a' b x) where
    rearm_shows : (pe ph pn : List ℕ) (E : Entries) (c : Clock) (W : Wheel) → Shows wheel01 (records (join a pe ph pn) E c) W → Sound wheel01 W → c.reading ≡ r
        → (W.entry (W.lists.node x).entry).deadline ≡ some d → (n h : ℕ)
        → ((act wheel01 W (reschedule x n h)).0 ≡ ok) × Shows wheel01 (records (join a' pe ph pn) E c) (act wheel01 W (reschedule x n h)).1
    rearm_shows pe ph pn E c W z q er due n h =
        let N : Nodes = join a pe ph pn in
        let v : Held = z.lists in
        let eb : b ≡ bucket_of wheel01 W.reading d = i.is ∙ ap (λ (m : ℕ). bucket_of wheel01 m d) (sym er ∙ z.reading) in
        let td = tied_move (buckets wheel01) W.nodes W.entries W.next N v W.lists (tied wheel01 (records N E c) W z) q.lists x
        (past wheel01 N E c W z x y.ready.after) (there wheel01 N E c W z x y.ready.slot)
        (alive wheel01 N E c W z x y.ready.after y.ready.slot y.ready.armed) a' b (omega (arith, i.is, bucket_of_in wheel01 r d))
        (u.does v [] z.rep)
        (ap (λ (m : Links). m.home) u.is ∙ home_moved a b x) in
        let sh : Shows wheel01 (records (join a' pe ph pn) E c) (with_lists (link b x (placed_in b (W.lists.node x)) (unlink x W.lists)) W) =
        untied_nodes wheel01 N (join a' pe ph pn) E c W _ _ z td z.free_is in
        let at : act wheel01 W (reschedule x n h) ≡ rearmed wheel01 W x (some d) = ap (rearmed wheel01 W x) due in
        subst (λ (m : Answer × Wheel). (m.0 ≡ ok) × Shows wheel01 (records (join a' pe ph pn) E c) m.1) (sym at) (
          refl,
          subst (λ (m : ℕ). Shows wheel01 (records (join a' pe ph pn) E c) (with_lists (link m x (placed_in m (W.lists.node x)) (unlink x W.lists)) W))
              eb sh,
        )

    pub rearm_does : Rearms wheel01 a a' r x d
    rearm_does = record { is = u.is ∙ ap (λ (m : ℕ). move_back a m x) i.is; does = rearm_shows }
