-- The contracts of push, remove, move to the back, turn and laying out, of what these write alone.
use Prim.Native.Nat.{ℕ, ◌<◌}
use native.Mathlib.Omega.{arith}
use mathlib.Core.Path.{refl, subst}
use mathlib.Core.Logic.{⊎_elim}
use mathlib.Core.List.{List}
use lib.ListN.{length, get_or}
use Rattle.numbers.proofs.Cases.{below?}
use Rattle.deque_rules.specs.Links.{first, Links, Deques as Lists, Rep, link_back, removed, move_back, fresh}
use Rattle.numbers.specs.Shared.{up_from}
use Rattle.deque_rules.specs.Lists.{turn}
use Rattle.deque_rules.specs.Change.{turn_to, Pushable, Held, Movable, HeldBy, PushesBack, Removes, MovesBack, Turns}
use Rattle.deque_rules.specs.Layout.{Sizes, LaysOut}
use Rattle.deque_rules.proofs.Pushing.{push_rep, remove_rep, move_rep}
use Rattle.deque_rules.proofs.Turning.{turn_stays, turn_does}
use Rattle.deque_rules.proofs.Laying.{fresh_rep}

-- lists of the same records have as many slots and deques
same_slots : (a : Links) (v w : Lists) (loose loose' : List ℕ) (s : ℕ) → Rep a v loose → Rep a w loose' → s < v.slots → s < w.slots
same_slots a v w loose loose' s r q l = omega (arith, r.next_len, q.next_len)

same_count : (a : Links) (v w : Lists) (loose loose' : List ℕ) (d : ℕ) → Rep a v loose → Rep a w loose' → d < v.count → d < w.count
same_count a v w loose loose' d r q l = omega (arith, r.heads_len, q.heads_len)

pub pushes : (a : Links) (free d : ℕ) → Pushable a free d → PushesBack a (link_back a d free) free d (get_or a.next free 0)
pushes a free d y =
    record {
      is = refl;
      free_is = refl;
      does = λ v r f.
          push_rep a v free d r f (same_slots a y.v v _ _ free y.rep r y.slot) (same_count a y.v v _ _ d y.rep r y.deque);
    }

pub removes : (a : Links) (free s : ℕ) → Held a s → Removes a (removed a free s) free s
removes a free s y = record { is = refl; does = λ v r f. remove_rep a v free s r f (same_slots a y.v v _ _ s y.rep r y.slot) y.homed }

pub moves : (a : Links) (d s : ℕ) → Movable a d s → MovesBack a (move_back a d s) d s
moves a d s y =
    record {
      is = refl;
      does = λ v loose r.
          move_rep a v loose d s r (same_slots a y.v v _ _ s y.rep r y.slot) y.homed (same_count a y.v v _ _ d y.rep r y.deque);
    }

-- what a turn has written is what its definition says
as_written : (a b : Links) (d s : ℕ) → Turns a b d s → Turns a (turn_to a d s) d s
as_written a b d s u = record { is = refl; does = λ v loose r. subst (λ (x : Links). Rep x (turn d s v) loose) u.is (u.does v loose r) }

pub turns : (a : Links) (d s : ℕ) → HeldBy a d s → Turns a (turn_to a d s) d s
turns a d s y =
    ⊎_elim
    (λ l. as_written a _ d s (turn_does a d s y l))
    (λ l. as_written a a d s (turn_stays a d s y l))
    (below? (get_or a.next s 0) (length a.next))

pub lays : (a : Links) → Sizes a → LaysOut a (fresh (length a.heads) (length a.next)) (first (up_from (length a.next) 0))
lays a z = record { is = refl; free_is = refl; does = fresh_rep (length a.heads) (length a.next) z.few z.small }
