-- A history on small records, computed: one deque over two nodes, and whatever the records held before. Before the make
-- a pop is refused 4; after it a push takes node 0, a push into a deque that there is not is refused 16, and a pop
-- answers node 0 and frees it.
use native.Mathlib.Omega.{arith}
use mathlib.Core.Path.{refl}
use mathlib.Core.Logic.{inl, inr, ⊎_elim}
use mathlib.Core.List.{List, [], ◌∷◌}
use Rattle.numbers.specs.Shared.{no_slot as none}
use Rattle.deque_rules.specs.Links.{fresh, link_back, cut_out, removed, hand_back}
use Rattle.deque_rules.specs.Deque.{State, state, Lent, Sound, make, push_back, pop_front, DequePromised as Promised, Event, event, DequeLeads as Leads}
use Rattle.deque_rules.specs.Deque.{done, then}
use Rattle.std.specs.Prelude.{Ok, Err, Some}
use Rattle.numbers.specs.declared.refusals.Refusal.TheVariants as why
use Rattle.deque_rules.proofs.alone.Meeting.{no, yes_by}
use Rattle.deque_rules.proofs.alone.Kept.{make_sound, keeps}

-- ---- heads, tails, lens, cursors; next, prev, home, element
abbrev found : State
found = state (9 ∷ []) (9 ∷ []) (9 ∷ []) (9 ∷ []) (9 ∷ 9 ∷ []) (9 ∷ 9 ∷ []) (9 ∷ 9 ∷ []) (9 ∷ 9 ∷ [])

abbrev empty : State
empty = state (none ∷ []) (none ∷ []) (0 ∷ []) (none ∷ []) (1 ∷ none ∷ []) (none ∷ none ∷ []) (none ∷ none ∷ []) (0 ∷ 0 ∷ [])

abbrev one : State
one = state (0 ∷ []) (0 ∷ []) (1 ∷ []) (none ∷ []) (none ∷ none ∷ []) (none ∷ none ∷ []) (0 ∷ none ∷ []) (7 ∷ 0 ∷ [])

-- ---- the steps
-- the nodes name a deque that there is not
not_sound : Sound found 9 → ⊥
not_sound s = ⊎_elim (λ h. omega (arith, h)) (λ e. omega (arith, e)) (s.nodes 0 (omega arith))

pop_before : Promised (pop_front 0) found 9 found (Err why.NotSound)
pop_before = record { meets = no _ found _ _ 4 (inl (not_sound, refl)) (λ i. omega (arith, i)) }

lent : Lent found
lent =
    record {
      deques = record { some = omega arith; few = omega arith; tails_len = refl; lens_len = refl; cursors_len = refl };
      nodes = record { some = omega arith; small = omega arith; prev_len = refl; home_len = refl; elements_len = refl };
    }

makes : Promised make found 9 empty (Ok 0)
unfolding fresh
makes = record { meets = yes_by _ found empty _ _ _ 0 (inr (lent, refl)) refl refl refl }

empty_sound : Sound empty 0
empty_sound = make_sound found empty 9 0 makes

push_7 : Promised (push_back 0 7) empty 0 one (Ok (record { slot = 0; free = 1 }))
unfolding link_back
push_7 = record { meets = yes_by _ empty one _ _ _ 0 (inr (empty_sound, inr ((λ i. omega (arith, i)), inr (omega arith, refl)))) refl refl refl }

one_sound : Sound one 1
one_sound = keeps (push_back 0 7) empty 0 one (Ok (record { slot = 0; free = 1 })) empty_sound push_7

push_elsewhere : Promised (push_back 3 7) one 1 one (Err why.NoSuchDeque)
push_elsewhere = record {
  meets = no _ one _ _ 16 (inr (one_sound, inr ((λ i. omega (arith, i)), inl ((λ h. omega (arith, h)), refl)))) (λ i. omega (arith, i));
}

pop_7 : Promised (pop_front 0) one 1 empty (Ok (Some (record { slot = 0; element = 7; free = 0 })))
unfolding removed cut_out hand_back
pop_7 = record { meets = yes_by _ one empty _ _ _ 0 (inr (one_sound, inr (omega arith, refl))) refl refl refl }

-- ---- the history
abbrev events : List Event
events =
    event (pop_front 0) (Err why.NotSound)
    ∷ event make (Ok 0)
    ∷ event (push_back 0 7) (Ok (record { slot = 0; free = 1 }))
    ∷ event (push_back 3 7) (Err why.NoSuchDeque)
    ∷ event (pop_front 0) (Ok (Some (record { slot = 0; element = 7; free = 0 })))
    ∷ []

pub example : Leads found 9 events empty 0
example = then pop_before (then makes (then push_7 (then push_elsewhere (then pop_7 done))))
