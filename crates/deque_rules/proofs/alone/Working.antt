-- What the unchecked functions ask of the links' functions, and what their stores come to.
use Prim.Native.Nat.{ℕ, ◌+◌, ◌-◌, ◌≤◌, ◌<◌}
use native.Mathlib.Omega.{arith}
use mathlib.Core.Path.{◌≡◌, refl, ap, ◌∙◌}
use mathlib.Core.Logic.{⊎_elim}
use mathlib.Core.List.{List, []}
use Rattle.numbers.proofs.Cases.{same?}
use lib.ListN.{length, get_or, set}
use borrow.Author.Tests.{eq-eqb, ne_eqb}
use mir.Syntax.{w64}
use mir.Val.{Fits}
use Rattle.numbers.specs.Shared.{no_slot as none}
use Rattle.deque_rules.specs.Links.{Links, Deques as Lists, links, home_of}
use Rattle.deque_rules.specs.Change.{Pushable, PushesBack, Held, HeldBy, Removes, Ahead, MovesBack}
use Rattle.deque_rules.specs.Deque.{State, state, moved_on, step_off, pushed, released, moved_back}
use Rattle.deque_rules.specs.alone.State.{Shows}
use Rattle.deque_rules.specs.alone.Ready.{DequeReady, PushReady, NodeReady}
use Rattle.std.specs.Prelude.{Some, None}
use Rattle.deque_rules.proofs.alone.Keeping.{front_in}
use Rattle.deque_rules.proofs.alone.Looking.{head_none, real}
use Rattle.deque_rules.specs.alone.Work.{Pushes, Drops, Moves, Pops, Shifts}
use Rattle.deque_rules.proofs.alone.Relinking.{length_small, length_some, pushed_shows, released_shows, moved_shows}

-- a cursor that stood at s, moved on
pub off_does : (c n : List ℕ) (d s q : ℕ) → get_or c d 0 ≡ s → q ≡ moved_on n s → set c d q ≡ step_off c n d s
off_does c n d s q i j = simp (eq-eqb (get_or c d 0) s i) (ap (λ (x : ℕ). set c d x) j)

-- two records whose links are the same
same_links : {x y : Links} (l c e : List ℕ) → x ≡ y → ◌≡◌ {A = State} (record { links = x; lens = l; cursors = c; elements = e })
    (record { links = y; lens = l; cursors = c; elements = e })
same_links l c e i = ap (λ (z : Links). record { links = z; lens = l; cursors = c; elements = e }) i

-- and whose cursors are
both : {x y : Links} {c c' : List ℕ} (l e : List ℕ) → x ≡ y → c ≡ c' → ◌≡◌ {A = State} (record { links = x; lens = l; cursors = c; elements = e })
    (record { links = y; lens = l; cursors = c'; elements = e })
both l e i j = λ k. record { links = i k; lens = l; cursors = j k; elements = e }

module _ (h t l c n p o e : List ℕ) (free d : ℕ) where
  abbrev a : State
  a = state h t l c n p o e

  -- ---- push
  module _ (y : PushReady (state h t l c n p o e) free d) where
    counts_same : (v : Lists) → Shows (state h t l c n p o e) free v → (free < v.slots) × (d < v.count)
    counts_same v s = (omega (arith, s.rep.home_len, y.shows.rep.home_len, y.slot), omega (arith, s.rep.heads_len, y.shows.rep.heads_len, y.deque))

    pub push_asks : Pushable (links h t n p o) free d
    push_asks = record { v = y.v; rep = y.shows.rep; free_is = y.shows.free_is; slot = y.slot; deque = y.deque }

    pub push_fits : Fits w64 (get_or l d 0 + 1)
    push_fits = omega (arith, length_small a free y.v y.shows d y.deque, y.shows.rep.small)

    pub push_does : (h' t' n' p' o' : List ℕ) (x r : ℕ) → PushesBack (links h t n p o) (links h' t' n' p' o') free d r → Pushes (state h t l c n p o e)
        (state h' t' (set l d (get_or l d 0 + 1)) c n' p' o' (set e free x)) free d x r
    push_does h' t' n' p' o' x r b =
        let i : state h' t' (set l d (get_or l d 0 + 1)) c n' p' o' (set e free x) ≡ pushed a free d x = same_links (set l d (get_or l d 0 + 1)) c (set e free x)
        b.is in
        record {
          is = i;
          free_is = b.free_is;
          does = λ v s.
              let u = counts_same v s in
              rw (i, b.free_is) (pushed_shows a free v s d x u.0 u.1);
        }

  -- ---- a node of d
  module _ (s : ℕ) (y : NodeReady (state h t l c n p o e) free d s) where
    node_same : (v : Lists) → Shows (state h t l c n p o e) free v → (s < v.slots) × (d < v.count)
    node_same v k = (omega (arith, k.rep.home_len, y.shows.rep.home_len, y.slot), omega (arith, k.rep.heads_len, y.shows.rep.heads_len, y.deque))

    homed : home_of (links h t n p o) s ≡ none → ⊥
    homed i = omega (arith, y.homed, i, y.deque, y.shows.rep.few)

    pub node_held : Held (links h t n p o) s
    node_held = record { v = y.v; loose = []; rep = y.shows.rep; slot = y.slot; homed = homed }

    pub node_some : 1 ≤ get_or l d 0
    node_some = length_some a free y.v y.shows d s y.slot y.deque y.homed

    pub release_does : (c' h' t' n' p' o' : List ℕ) (r : ℕ) → r ≡ get_or e s 0 → c' ≡ step_off c n d s → Removes (links h t n p o) (links h' t' n' p' o') free s →
        Drops (state h t l c n p o e) (state h' t' (set l d (get_or l d 0 - 1)) c' n' p' o' (set e s 0)) free d s r
    release_does c' h' t' n' p' o' r i j k =
        let q : state h' t' (set l d (get_or l d 0 - 1)) c' n' p' o' (set e s 0) ≡ released a free d s =
        rw j (same_links (set l d (get_or l d 0 - 1)) (step_off c n d s) (set e s 0) k.is) in
        record {
          is = q;
          element_is = i;
          does = λ v m. let u = node_same v m in rw q (released_shows a free v m d s u.0 u.1 y.homed);
        }

    -- ---- move to back
    pub node_ahead : (get_or t d 0 ≡ s → ⊥) → Ahead (links h t n p o) d s
    node_ahead i = record { held = record { v = y.v; loose = []; rep = y.shows.rep; slot = y.slot; deque = y.deque; homed = y.homed }; not_last = i }

    pub move_stays : get_or t d 0 ≡ s → Moves (state h t l c n p o e) (state h t l c n p o e) free d s
    move_stays i =
        let q : a ≡ moved_back a d s = simp (eq-eqb (get_or t d 0) s i) in
        record { is = q; does = λ v m. let u = node_same v m in rw q (moved_shows a free v m d s u.0 u.1 y.homed) }

    pub move_does : (c' h' t' n' p' o' : List ℕ) → (get_or t d 0 ≡ s → ⊥) → c' ≡ step_off c n d s → MovesBack (links h t n p o) (links h' t' n' p' o') d s →
        Moves (state h t l c n p o e) (state h' t' l c' n' p' o' e) free d s
    move_does c' h' t' n' p' o' i j k =
        let q : state h' t' l c' n' p' o' e ≡ moved_back a d s = simp (ne_eqb (get_or t d 0) s i) (rw j (same_links l (step_off c n d s) e k.is)) in
        record { is = q; does = λ v m. let u = node_same v m in rw q (moved_shows a free v m d s u.0 u.1 y.homed) }

    pub shift_asks : HeldBy (links h t n p o) d s × (d < length c)
    shift_asks = (
      record { v = y.v; loose = []; rep = y.shows.rep; slot = y.slot; deque = y.deque; homed = y.homed },
      omega (arith, y.deque, y.shows.rep.heads_len, y.shows.lent.deques.cursors_len),
    )

    pub shift_does : (b : Links) (c' : List ℕ) → Shifts (links h t n p o) c b c' d s →
        Moves (state h t l c n p o e) (record { links = b; lens = l; cursors = c'; elements = e }) free d s
    shift_does b c' k =
        let q : ◌≡◌ {A = State} (record { links = b; lens = l; cursors = c'; elements = e }) (moved_back a d s) =
        ⊎_elim
        (λ (i : get_or t d 0 ≡ s). simp (eq-eqb (get_or t d 0) s i) (both l e (k.stays i).0 (k.stays i).1))
        (λ (i : get_or t d 0 ≡ s → ⊥). simp (ne_eqb (get_or t d 0) s i) (both l e (k.moves i).0 (k.moves i).1))
        (same? (get_or t d 0) s)
        in
        record { is = q; does = λ v m. let u = node_same v m in rw q (moved_shows a free v m d s u.0 u.1 y.homed) }

  -- ---- a deque
  module _ (y : DequeReady (state h t l c n p o e) free d) where
    -- ---- pop front
    pub pop_empty : length n ≤ get_or h d 0 → Pops (state h t l c n p o e) (state h t l c n p o e) free d None
    pop_empty i =
        let k = head_none h t l c n p o e free d y i in
        record { is = simp (eq-eqb (get_or h d 0) none k); told = simp (eq-eqb (get_or h d 0) none k) }

    pub pop_asks : get_or h d 0 < length n → NodeReady (state h t l c n p o e) free d (get_or h d 0)
    pop_asks i =
        let m = front_in a free y.v y.shows d y.deque (real h t l c n p o e free d y (get_or h d 0) i) in
        let u = y.shows.rep.member d (get_or h d 0) y.deque m in
        record { v = y.v; shows = y.shows; slot = u.0; deque = y.deque; homed = u.1 }

    pub pop_does : (b : State) (s r : ℕ) → s ≡ get_or h d 0 → s < length n → Drops (state h t l c n p o e) b free d s r → Pops (state h t l c n p o e) b free d
        (Some (record { slot = s; element = r; free = s }))
    pop_does b s r i j k =
        let m : get_or h d 0 ≡ none → ⊥ = λ z. real h t l c n p o e free d y s j (i ∙ z) in
        record {
          is = simp (ne_eqb (get_or h d 0) none m) (k.is ∙ ap (λ (x : ℕ). released a free d x) i);
          told = simp (ne_eqb (get_or h d 0) none m) (rw (k.element_is, i) refl);
        }
