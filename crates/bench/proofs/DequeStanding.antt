-- The records stay those of one deque: what each call of the workloads asks, and what it leaves.
use Rattle.std.proofs.Common.{◌≡◌, ℕ, ◌<◌, ◌≤◌, true, List, [], ◌∷◌, ◌++◌, length, sym, refl, ◌∙◌, subst, inl, ⊎_elim, arith}
use Rattle.std.specs.Prelude.{Option}
use Rattle.deque_rules.specs.Links.{first, home_of, deq}
use Rattle.numbers.specs.Shared.{no_slot as none, In}
use Rattle.deque_rules.specs.Lists.{take_out, freed, taken, push_back}
use Rattle.deque_rules.specs.Deque.{State, node_count as nodes, front_of}
use Rattle.deque_rules.specs.alone.Sound.{Judged}
use Rattle.deque_rules.specs.alone.Ready.{DequeReady, PushReady, NodeReady}
use Rattle.deque_rules.specs.alone.Work.{Steps, Pushes, Drops, Moves}
use Rattle.deque_rules.proofs.Laws.{deq_at, head_is}
use Rattle.deque_rules.proofs.alone.Keeping.{stepped_shows}
use Rattle.deque_rules.proofs.alone.Sounding.{sound_shows}
use Rattle.deque_rules.specs.declared.alone.Node.{Node}
use Rattle.bench.specs.Ready.{Ready, Full}

module _ (a : State) (free : ℕ) where
  pub tested : Judged a free true → length a.links.heads ≡ 1 → Ready a free
  tested j o = let s = sound_shows a free (j.sound refl) in record { v = _; shows = s; one = sym s.rep.heads_len ∙ o }

  pub deque_asks : Ready a free → DequeReady a free 0
  deque_asks y = record { v = y.v; shows = y.shows; deque = omega (arith, y.one) }

  pub stepped_ready : (b : State) (r : Option Node) → Ready a free → Steps a b 0 r → Ready b free
  stepped_ready b r y s =
      subst (λ (x : State). Ready x free) (sym s.is)
      (record { v = y.v; shows = stepped_shows a free y.v y.shows 0 (omega (arith, y.one)); one = y.one })

  -- every node is in the deque
  pub node_asks : (s : ℕ) → Full a free → s < nodes a → NodeReady a free 0 s
  node_asks s y h =
      let r = y.shows.rep in
      let l : s < y.v.slots = rw r.next_len at h in
      let no : home_of a.links s ≡ none → ⊥ = λ k. ⊎_elim (λ (i : In s y.v.free). subst (λ (xs : List ℕ). In s xs) y.none_free i) (λ (i : In s []). i)
      (r.covered s l k) in
      record { v = y.v; shows = y.shows; slot = l; deque = omega (arith, y.one); homed = omega (arith, (r.homed s l no).0, y.one) }

  pub moved_full : (b : State) (s : ℕ) → Full a free → Moves a b free 0 s → Full b free
  moved_full b s y m = record { v = _; shows = m.does y.v y.shows; one = y.one; none_free = y.none_free }

  -- where the first free node is no node, none is free
  none_left : (xs : List ℕ) → first xs ≡ free → ((x : ℕ) → In x xs → x < nodes a) → nodes a ≤ free → xs ≡ []
  none_left [] e k h = refl
  none_left (x ∷ xs) e k h = absurd (omega (arith, e, h, k x (inl refl)))

  pub full_asks : (n : ℕ) → Ready a free → nodes a ≤ n → n ≤ free → Full a free
  full_asks n y i h =
      record {
        v = y.v;
        shows = y.shows;
        one = y.one;
        none_free = none_left y.v.free y.shows.free_is (λ x j. rw y.shows.rep.next_len (y.shows.rep.spare x j).0) (omega (arith, i, h));
      }

  -- ---- a node leaves a deque that has every node, and is taken again
  pub left_asks : (b : State) (s r : ℕ) → Full a free → s < nodes a → Drops a b free 0 s r → PushReady b s 0
  left_asks b s r y h d = record {
    v = _;
    shows = d.does y.v y.shows;
    slot = omega (arith, h, y.shows.rep.next_len);
    deque = omega (arith, y.one);
  }

  pub turned_full : (b c : State) (s e x r : ℕ) → Full a free → Drops a b free 0 s e → Pushes b c s 0 x r → Full c r
  turned_full b c s e x r y d p =
      let w = freed s (take_out 0 s y.v) in
      record { v = _; shows = p.does w (d.does y.v y.shows); one = y.one; none_free = y.none_free }

  -- ---- a node is pushed, and the front leaves
  pub push_asks : Ready a free → free < nodes a → PushReady a free 0
  push_asks y h = record { v = y.v; shows = y.shows; slot = omega (arith, h, y.shows.rep.next_len); deque = omega (arith, y.one) }

  front_in : (xs : List ℕ) (s : ℕ) → In (first (xs ++ (s ∷ []))) (xs ++ (s ∷ []))
  front_in [] s = inl refl
  front_in (x ∷ xs) s = inl refl

  pub pushed_front : (b : State) (x r : ℕ) → PushReady a free 0 → Pushes a b free 0 x r → NodeReady b r 0 (front_of b 0)
  pushed_front b x r y p =
      let w = push_back 0 free (taken y.v) in
      let s = p.does y.v y.shows in
      let i : deq w 0 ≡ deq (taken y.v) 0 ++ (free ∷ []) = deq_at 0 (deq (taken y.v) 0 ++ (free ∷ [])) (taken y.v)
      (omega (arith, y.deque, y.shows.rep.held_len)) in
      let f : In (first (deq w 0)) (deq w 0) = subst (λ (xs : List ℕ). In (first xs) xs) (sym i) (front_in (deq (taken y.v) 0) free) in
      let m = s.rep.member 0 (front_of b 0) y.deque (subst (λ (k : ℕ). In k (deq w 0)) (sym (head_is b.links w [] s.rep 0 y.deque)) f) in
      record { v = w; shows = s; slot = m.0; deque = y.deque; homed = m.1 }

  pub popped_asks : (b : State) (s e : ℕ) → NodeReady a free 0 s → Drops a b free 0 s e → PushReady b s 0
  popped_asks b s e n d = record { v = _; shows = d.does n.v n.shows; slot = n.slot; deque = n.deque }
