-- Push, remove, move to the back: what each makes of whatever lists the records stand for.
use Prim.Native.Nat.{ℕ, ◌<◌}
use mathlib.Core.Path.{◌≡◌, ap}
use mathlib.Core.List.{List, [], ◌∷◌}
use lib.ListN.{get_or}
use Rattle.deque_rules.specs.Links.{first, Links, Deques as Lists, links, Rep, home_of, hand_back, link_back, cut_out, removed, move_back}
use Rattle.numbers.specs.Shared.{no_slot as none}
use Rattle.deque_rules.specs.Lists.{push_back, take_out, taken, freed}
use Rattle.deque_rules.specs.Free.{Takes, GivesBack}
use Rattle.deque_rules.specs.Change.{Pushable, Linkable, LinksBack, PushesBack, CutsOut, Removes}
use Rattle.deque_rules.proofs.Freeing.{take_does, give_rep}
use Rattle.deque_rules.proofs.Linking.{link_rep}
use Rattle.deque_rules.proofs.Cutting.{cut_rep}

pub push_rep : (a : Links) (v : Lists) (free d : ℕ) → Rep a v [] → first v.free ≡ free → free < v.slots → d < v.count
    → Rep (link_back a d free) (push_back d free (taken v)) [] × (first (taken v).free ≡ get_or a.next free 0) × (v.free ≡ free ∷ (taken v).free)
push_rep a v free d r f l h =
    let k = (take_does a.next free (rw r.next_len l)).does a.heads a.tails a.prev a.home v [] r f in
    (link_rep a (taken v) [] d free k.0 h, k.1, k.2)

pub remove_rep : (a : Links) (v : Lists) (free s : ℕ) → Rep a v [] → first v.free ≡ free → s < v.slots → (home_of a s ≡ none → ⊥)
    → Rep (removed a free s) (freed s (take_out (home_of a s) s v)) []
unfolding removed hand_back
remove_rep a v free s r f l h = give_rep _ _ _ _ _ (take_out (home_of a s) s v) [] s free none (cut_rep a v [] s r l h) f

pub move_rep : (a : Links) (v : Lists) (loose : List ℕ) (d s : ℕ) → Rep a v loose → s < v.slots → (home_of a s ≡ none → ⊥) → d < v.count
    → Rep (move_back a d s) (push_back d s (take_out (home_of a s) s v)) loose
unfolding move_back
move_rep a v loose d s r l h k = link_rep (cut_out a s) (take_out (home_of a s) s v) loose d s (cut_rep a v loose s r l h) k

-- ---- push: what it asks of its second step, and what both come to
module _ (h t n p o : List ℕ) (free d r : ℕ) (k : Takes n free r) where
  pub push_asks : Pushable (links h t n p o) free d → Linkable (links h t n p o) d free
  push_asks y = record { v = taken y.v; loose = []; rep = (k.does h t p o y.v [] y.rep y.free_is).0; slot = y.slot; deque = y.deque }

  pub push_does : (b : Links) → LinksBack (links h t n p o) b d free → PushesBack (links h t n p o) b free d r
  push_does b l =
      record { is = l.is; free_is = k.is; does = λ v i f. let u = k.does h t p o v [] i f in (l.does (taken v) [] u.0, u.1, u.2) }

-- ---- remove
module _ (h t n p o h' t' n' p' o' : List ℕ) (s : ℕ) (k : CutsOut (links h t n p o) (links h' t' n' p' o') s) where
  pub remove_does : (n'' p'' : List ℕ) (free : ℕ) → GivesBack n' p' n'' p'' s free → Removes (links h t n p o) (links h' t' n'' p'' o') free s
  unfolding removed hand_back
  remove_does n'' p'' free g =
      record {
        is = rw (g.next_is, g.prev_is) (ap (λ (z : Links). hand_back z s free) k.is);
        does = λ v i f. g.does h' t' o' _ [] (k.does v [] i) f;
      }
