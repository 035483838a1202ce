-- Taken out and linked again: what `move_back` asks of its two steps and what they come to, and that `move_to_back`
-- writes the same.
use Prim.Native.Nat.{ℕ, ◌*◌, ◌^◌, ◌<◌}
use native.Mathlib.Omega.{arith}
use mathlib.Core.Path.{◌≡◌, sym, ap, subst, ◌∙◌}
use mathlib.Core.List.{List, [], ◌∷◌, ◌++◌}
use lib.ListN.{length, get_or, set, length-set}
use lib.Seq.{set-get_or, set-set}
use borrow.Author.Tests.{ne_eqb}
use borrow.Author.Rules.{scaled_Fits}
use mir.Syntax.{w64}
use mir.Val.{Fits}
use Rattle.deque_rules.specs.Chain.{last}
use Rattle.numbers.specs.Shared.{no_slot as none, In, before_in as before, after_in as after}
use Rattle.deque_rules.specs.Links.{Links, links, home_of, deq, end_at, link_back, cut_out, move_back}
use Rattle.deque_rules.specs.Lists.{take_out}
use Rattle.deque_rules.specs.Change.{CanPut, Held, Movable, Linkable, Ahead, CutsOut, LinksBack, MovesBack}
use Rattle.numbers.proofs.Members.{split, after_in_lem, last_back}
use Rattle.deque_rules.proofs.Slots.{none_first}
use Rattle.deque_rules.proofs.Swap.{slot_real}
use Rattle.deque_rules.proofs.Reading.{tail_is}
use Rattle.deque_rules.proofs.Cutting.{cut_rep, cut_asks}
use Rattle.deque_rules.proofs.Linking.{link_rep}
use Rattle.deque_rules.proofs.Turning.{s_in, after_first, q_small, tail_index, tail_bytes}

pub move_asks_2 : (a b : Links) (d s : ℕ) → Movable a d s → CutsOut a b s → Linkable b d s
move_asks_2 a b d s k u = record { v = _; loose = k.loose; rep = u.does k.v k.loose k.rep; slot = k.slot; deque = k.deque }

pub move_does : (a b c : Links) (d s : ℕ) → CutsOut a b s → LinksBack b c d s → MovesBack a c d s
unfolding move_back
move_does a b c d s u l =
    record { is = l.is ∙ ap (λ (x : Links). link_back x d s) u.is; does = λ v loose r. l.does _ loose (u.does v loose r) }

-- ---- s is not last, and goes to the back of its own deque d
module _ (h t n p o : List ℕ) (d s : ℕ) (k : Ahead (links h t n p o) d s) where
  abbrev a : Links
  a = links h t n p o

  abbrev q : ℕ
  q = get_or n s 0

  own : Held a s
  own = record {
    v = k.held.v;
    loose = k.held.loose;
    rep = k.held.rep;
    slot = k.held.slot;
    homed = λ e. omega
        (arith, e, k.held.homed, k.held.deque, k.held.rep.few);
  }

  member : In s (deq k.held.v d)
  member = s_in a k.held.v k.held.loose d s k.held.rep k.held.slot k.held.deque k.held.homed

  -- one that nothing follows is last
  followed : q ≡ none → ⊥
  followed e =
      let r = k.held.rep in
      let xs = deq k.held.v d in
      let alone : after s xs ≡ [] =
      none_first (after s xs) (λ x m. slot_real a k.held.v k.held.loose r d k.held.deque x (after_in_lem xs s x m))
      (after_first a k.held.v k.held.loose d s r k.held.slot k.held.deque k.held.homed ∙ e) in
      let whole : xs ≡ before s xs ++ (s ∷ []) = split xs s member ∙ ap (λ (ys : List ℕ). before s xs ++ (s ∷ ys)) alone in
      k.not_last (tail_is a k.held.v k.held.loose r d k.held.deque ∙ ap last whole ∙ last_back (before s xs) none s)

  tail_real : get_or t d 0 ≡ none → ⊥
  tail_real e = omega (arith, e, tail_index h t n p o d s k.held, k.held.rep.next_len, k.held.rep.small)

  pub after_index : q < length p
  after_index =
      rw k.held.rep.prev_len
      (k.held.rep.member d q k.held.deque (q_small a k.held.v k.held.loose d s k.held.rep k.held.slot k.held.deque k.held.homed
      followed)).0

  pub after_bytes : length p * 8 < 2 ^ 63 → Fits w64 (q * 8)
  after_bytes g = scaled_Fits q (length p) 8 after_index g

  pub send_asks : CanPut h n d (get_or p s 0)
  send_asks = subst (λ (x : ℕ). CanPut h n x (get_or p s 0)) k.held.homed (cut_asks a s own)

  -- the old tail is a slot, once next has been written elsewhere
  pub last_index : (n' : List ℕ) (i w j x : ℕ) → n' ≡ set n i w → get_or t d 0 < length (set n' j x)
  last_index n' i w j x e = rw e (simp length-set (tail_index h t n p o d s k.held))

  pub last_bytes : length n * 8 < 2 ^ 63 → Fits w64 (get_or t d 0 * 8)
  last_bytes g = tail_bytes h t n p o d s k.held g

  home_stays : set (set o s none) s d ≡ o
  home_stays = simp set-set (rw (sym k.held.homed) (set-get_or o s 0))

  pub send_does : (h' n' : List ℕ) → h' ≡ end_at h d (get_or p s 0) (get_or n s 0) → n' ≡ set n (get_or p s 0) (get_or n s 0) → MovesBack (links h t n p o)
      (links h' (set t d s) (set (set n' s none) (get_or t d 0) s) (set (set p (get_or n s 0) (get_or p s 0)) s (get_or t d 0)) o) d s
  unfolding move_back link_back cut_out
  send_does h' n' i j =
      let e : links h' (set t d s) (set (set n' s none) (get_or t d 0) s) (set (set p (get_or n s 0) (get_or p s 0)) s (get_or t d 0)) o ≡ move_back a d s =
      rw (i, j) (simp (k.held.homed, ne_eqb q none followed, ne_eqb (get_or t d 0) none tail_real, home_stays)) in
      record {
        is = e;
        does = λ v loose r.
            rw e
            (link_rep (cut_out a s) (take_out (home_of a s) s v) loose d s
            (cut_rep a v loose s r (omega (arith, r.home_len, k.held.rep.home_len, k.held.slot)) own.homed)
            (omega (arith, r.heads_len, k.held.rep.heads_len, k.held.deque)));
      }
