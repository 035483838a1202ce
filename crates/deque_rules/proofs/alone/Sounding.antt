-- The records are sound exactly where they stand for lists, and these are unique.
use Prim.Native.Nat.{ℕ, ◌<◌}
use native.Mathlib.Omega.{arith}
use mathlib.Core.Path.{◌≡◌, refl, sym, ap, subst, ◌∙◌}
use mathlib.Core.Logic.{inl, inr, ⊎_elim}
use mathlib.Core.List.{List, []}
use lib.ListN.{length, get_or}
use Rattle.deque_rules.specs.Links.{Chain, Path, first, Deques as Lists, home_of, slot_after as step, deq, listed, Whole}
use Rattle.numbers.specs.Shared.{no_slot as none}
use Rattle.numbers.proofs.Cases.{same?}
use Rattle.numbers.proofs.Members.{in-same}
use Rattle.deque_rules.proofs.Laws.{each_len, each_at, deq_is, free_is, listed_is, in-home, home_free}
use Rattle.deque_rules.specs.Deque.{State, deque_count as deques, node_count as nodes, Stands, Sound, held, chain}
use Rattle.deque_rules.specs.alone.State.{Shows}

-- lists that the records stand for make them sound
pub shows_sound : (a : State) (free : ℕ) (v : Lists) → Shows a free v → Sound a free
shows_sound a free v s =
    let r = s.rep in
    let in_count : (d : ℕ) → d < deques a → d < v.count = λ d h. rw r.heads_len at h in
    let same : (d : ℕ) → d < deques a → held a d ≡ deq v d = λ d h. deq_is a.links v [] r d (in_count d h) in
    let fs : chain a free ≡ v.free = free_is a.links v [] r free s.free_is in
    record {
      lent = s.lent;
      nodes = λ x l.
          ⊎_elim
          (λ (e : home_of a.links x ≡ none). inr e)
          (λ (n : home_of a.links x ≡ none → ⊥). inl (rw r.heads_len (r.homed x (rw r.next_len at l) n).0))
          (same? (home_of a.links x) none);
      links = λ d h.
          record {
            runs =
                subst (λ (xs : List ℕ). Chain none (step a.links.heads a.links.next d) (step a.links.tails a.links.prev d) none xs)
                (sym (same d h)) (r.linked d (in_count d h));
            only = λ x m. let u = r.member d x (in_count d h) (in-same x (same d h) m) in (rw r.next_len u.0, u.1);
            all = λ x l e. in-same x (sym (same d h)) (in-home a.links v [] r x d (rw r.next_len at l) (in_count d h) e);
          };
      free_chain =
          record {
            starts = ap first fs ∙ s.free_is;
            runs = subst (λ (xs : List ℕ). Path (λ (x : ℕ). get_or a.links.next x 0) xs) (sym fs) r.chained;
            only = λ x m. let u = r.spare x (in-same x fs m) in (rw r.next_len u.0, u.1);
            all = λ x l e. in-same x (sym fs) (home_free a.links v r x (rw r.next_len at l) e);
          };
      lengths = λ d h. s.lengths d (in_count d h) ∙ ap length (sym (same d h));
      cursors = λ d h. subst (λ (xs : List ℕ). Stands (get_or a.cursors d 0) xs) (sym (same d h)) (s.cursors d (in_count d h));
    }

-- sound records stand for the lists computed from them
pub sound_shows : (a : State) (free : ℕ) → Sound a free → Shows a free (listed a.links free)
sound_shows a free s =
    let at_d : (d : ℕ) → d < deques a → deq (listed a.links free) d ≡ held a d = λ d h. each_at (nodes a) a.links.next a.links.heads d h in
    record {
      lent = s.lent;
      rep =
          record {
            heads_len = refl;
            tails_len = s.lent.deques.tails_len;
            next_len = refl;
            prev_len = s.lent.nodes.prev_len;
            home_len = s.lent.nodes.home_len;
            few = omega (arith, s.lent.deques.few);
            small = s.lent.nodes.small;
            held_len = each_len (nodes a) a.links.next a.links.heads;
            linked = λ d h.
                subst (λ (xs : List ℕ). Chain none (step a.links.heads a.links.next d) (step a.links.tails a.links.prev d) none xs)
                (sym (at_d d h)) (s.links d h).runs;
            member = λ d x h m. (s.links d h).only x (in-same x (at_d d h) m);
            homed = λ x l n.
                ⊎_elim
                (λ (h : home_of a.links x < deques a). (h, in-same x (sym (at_d (home_of a.links x) h)) ((s.links (home_of a.links x) h).all x l refl)))
                (λ e. absurd (n e))
                (s.nodes x l);
            chained = s.free_chain.runs;
            spare = s.free_chain.only;
            apart = λ x m. absurd m;
            once = tt;
            covered = λ x l e. inl (s.free_chain.all x l e);
          };
      free_is = s.free_chain.starts;
      lengths = λ d h. s.lengths d h ∙ ap length (sym (at_d d h));
      cursors = λ d h. subst (λ (xs : List ℕ). Stands (get_or a.cursors d 0) xs) (sym (at_d d h)) (s.cursors d h);
    }

-- and for no others
pub shows_unique : (a : State) (free : ℕ) (v w : Lists) → Shows a free v → Shows a free w → v ≡ w
shows_unique a free v w s t = sym (listed_is a.links v [] s.rep free s.free_is) ∙ listed_is a.links w [] t.rep free t.free_is

-- the links of records that stand for lists are whole
abbrev pub shows_whole : (a : State) (free : ℕ) (v : Lists) → Shows a free v → Whole a.links free
shows_whole a free v s = record { v = v; rep = s.rep; free_is = s.free_is }
