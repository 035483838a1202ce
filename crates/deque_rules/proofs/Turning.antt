-- The records once a deque is turned until a member is last, in one splice.
use Prim.Native.Nat.{ℕ, ◌*◌, ◌^◌, ◌≤◌, ◌<◌}
use native.Mathlib.Omega.{arith}
use mathlib.Core.Path.{◌≡◌, refl, sym, ap, subst, ◌∙◌}
use mathlib.Core.Logic.{inl, inr, ⊎_elim}
use mathlib.Core.List.{List, [], ◌∷◌, ◌++◌}
use lib.ListN.{length, get_or, set, length-set}
use lib.Seq.{get_or-set_same, get_or-set_other, set-get_or}
use borrow.Author.Tests.{eq-eqb, ne_eqb}
use borrow.Author.Rules.{scaled_Fits}
use mir.Syntax.{w64}
use mir.Val.{Fits}
use Rattle.deque_rules.specs.Chain.{turned}
use Rattle.deque_rules.specs.Links.{Chain, first, Links, Deques as Lists, links, slot_after as step, home_of, deq, Rep}
use Rattle.numbers.specs.Lists.{rest}
use Rattle.numbers.specs.Shared.{no_slot as none, In, Once, before_in as before, after_in as after}
use Rattle.deque_rules.specs.Lists.{turn}
use Rattle.deque_rules.specs.Change.{turn_now, turn_to, HeldBy, Turns}
use Rattle.numbers.proofs.Cases.{same?}
use Rattle.numbers.proofs.Members.{in-at, app_left, app_right, once_left, once_right, split}
use Rattle.deque_rules.proofs.Slots.{in-turned, turned_in, some_first}
use Rattle.deque_rules.proofs.Chains.{Real, chain_start, chain_end, next_in, prev_in, undo_start, undo_end, parts, joined, agree, bend}
use Rattle.deque_rules.proofs.Arrays.{step_slot}
use Rattle.deque_rules.proofs.Swap.{Local, Suits, swapped, slot_real, deq_once}

-- ---- a ring turned, over the slot after and the slot before: none goes from between the last and the first to between
-- s and q
module _ (f g f' g' : ℕ → ℕ) (s q : ℕ)
    (f-none : f' none ≡ q) (f_s : f' s ≡ none) (f-t : f' (g none) ≡ f none)
    (g-q : g' q ≡ none) (g-none : g' none ≡ s) (g-h : g' (f none) ≡ g none)
    (f-other : (x : ℕ) → (x ≡ none → ⊥) → (x ≡ s → ⊥) → (x ≡ g none → ⊥) → f' x ≡ f x)
    (g-other : (x : ℕ) → (x ≡ none → ⊥) → (x ≡ q → ⊥) → (x ≡ f none → ⊥) → g' x ≡ g x)
    (end_t : f (g none) ≡ none) (start_h : g (f none) ≡ none) where
  -- the slots from q on lead to the old head now
  back_part : (ws : List ℕ) → Real none (q ∷ ws) → (In s (q ∷ ws) → ⊥) → Once (q ∷ ws) → Chain none f g q ws → Chain (f none) f' g' q ws
  back_part ws real out o c =
      bend none (f none) f g f' g' q ws (λ x m. real x (inr m)) f-t g-h
      (λ x w n. f-other x (real x w) (λ e. out (in-at (q ∷ ws) e w)) n)
      (λ x m.
      g-other x (real x (inr m)) (λ e. o.0 (in-at ws e m))
      (λ e. ⊎_elim (λ (k : g x ≡ q). real q (inl refl) (sym k ∙ ap g e ∙ start_h)) (λ k. real (g x) (inr k) (ap g e ∙ start_h)) (prev_in none f g q ws c x m)))
      c

  -- the slots before s lead to s as they did
  front_part : (u : ℕ) (us : List ℕ) → f none ≡ u → Real none (u ∷ us) → (s ≡ none → ⊥) → (In s (u ∷ us) → ⊥) → (In q (u ∷ us) → ⊥) → (s ≡ q → ⊥) → Once
      (u ∷ us) → Chain s f g u us → Chain s f' g' u us
  front_part u us h real r-s out off n o c =
      agree s f g f' g' u us
      (f-other u (real u (inl refl)) (λ e. out (inl (sym e)))
      (λ e. ⊎_elim (λ (k : f u ≡ s). r-s (sym k ∙ ap f e ∙ end_t)) (λ k. real (f u) (inr k) (ap f e ∙ end_t)) (chain_start s f g u us c)))
      (λ x m. (
        f-other x (real x (inr m)) (λ e. out (in-at (u ∷ us) e (inr m)))
            (λ e. ⊎_elim (λ (k : f x ≡ s). r-s (sym k ∙ ap f e ∙ end_t)) (λ k. real (f x) (inr k) (ap f e ∙ end_t)) (next_in s f g u us c x m)),
        g-other x (real x (inr m)) (λ e. off (in-at (u ∷ us) e (inr m))) (λ e. o.0 (in-at us (e ∙ h) m)),
      ))
      (g-other s r-s n (λ e. out (inl (e ∙ h))))
      c

  ring : (us ws : List ℕ) → Real none (us ++ (s ∷ q ∷ ws)) → Once (us ++ (s ∷ q ∷ ws)) → Chain none f g none (us ++ (s ∷ q ∷ ws)) → Chain none f' g' q
      (ws ++ (us ++ (s ∷ [])))
  ring [] ws real o c =
      joined none f' g' q ws s []
      (subst (λ (z : ℕ). Chain z f' g' q ws) c.0 (back_part ws (λ x m. real x (inr m)) o.0 o.1 c.2.2))
      (f_s, g-none)
  ring (u ∷ us) ws real o c =
      let p = parts none f g u us s (q ∷ ws) c.2 in
      let os : Once (s ∷ q ∷ ws) = once_right (u ∷ us) (s ∷ q ∷ ws) o in
      joined none f' g' q ws u (us ++ (s ∷ []))
      (subst (λ (z : ℕ). Chain z f' g' q ws) c.0 (back_part ws (λ x m. real x (app_right (u ∷ us) (s ∷ q ∷ ws) x (inr m))) os.0 os.1 p.1.2))
      (joined none f' g' u us s []
      (front_part u us c.0 (λ x m. real x (app_left (u ∷ us) (s ∷ q ∷ ws) x m))
      (real s (app_right (u ∷ us) (s ∷ q ∷ ws) s (inl refl)))
      (λ m. once_left (u ∷ us) (s ∷ q ∷ ws) o s m (inl refl))
      (λ m. once_left (u ∷ us) (s ∷ q ∷ ws) o q m (inr (inl refl)))
      (λ e. os.0 (inl e))
      (go (u ∷ us) (s ∷ q ∷ ws) o)
      p.0)
      (f_s, g-none))
    where
      go : (xs ys : List ℕ) → Once (xs ++ ys) → Once xs
      go [] ys k = tt
      go (x ∷ xs) ys k = ((λ m. k.0 (app_left xs ys x m)), go xs ys k.1)

  pub turned_ring : (us ws : List ℕ) → Real none (us ++ (s ∷ q ∷ ws)) → Once (us ++ (s ∷ q ∷ ws)) → Chain none f g none (us ++ (s ∷ q ∷ ws)) → Chain none f' g'
      none (q ∷ (ws ++ (us ++ (s ∷ []))))
  turned_ring us ws real o c = (f-none, g-q, ring us ws real o c)

-- ---- the records
module _ (a : Links) (v : Lists) (loose : List ℕ) (d s : ℕ) (r : Rep a v loose) (s_slot : s < v.slots) (hd : d < v.count) (s_home : home_of a s ≡ d) where
  abbrev q : ℕ
  q = get_or a.next s 0

  abbrev h : ℕ
  h = get_or a.heads d 0

  abbrev t : ℕ
  t = get_or a.tails d 0

  abbrev f : ℕ → ℕ
  f = step a.heads a.next d

  abbrev g : ℕ → ℕ
  g = step a.tails a.prev d

  pub s_in : In s (deq v d)
  s_in = rw s_home at (r.homed s s_slot (λ e. omega (arith, s_home, e, r.few, hd))).1

  real : Real none (deq v d)
  real = slot_real a v loose r d hd

  s_real : s ≡ none → ⊥
  s_real = real s s_in

  f_s : f s ≡ q
  f_s = step_slot a.heads a.next d s s_real

  -- a deque that has s has a head and a tail
  some : (xs : List ℕ) → In s xs → Chain none f g none xs → In h xs × In t xs
  some (x ∷ xs) m c =
      (inl c.0, ⊎_elim (λ (e : t ≡ x). inl e) (λ k. inr k) (chain_end none f g x xs c.2))
  some [] m c = elim m [ ]

  pub h_in : In h (deq v d)
  h_in = (some (deq v d) s_in (r.linked d hd)).0

  pub t_in : In t (deq v d)
  t_in = (some (deq v d) s_in (r.linked d hd)).1

  -- what stands after s
  cut_in : Chain none f g s (after s (deq v d))
  cut_in = (parts none f g none (before s (deq v d)) s (after s (deq v d))
      (subst (λ (xs : List ℕ). Chain none f g none xs) (split (deq v d) s s_in) (r.linked d hd))).1

  pub after_first : first (after s (deq v d)) ≡ q
  after_first = go (after s (deq v d)) cut_in ∙ f_s
    where
      go : (xs : List ℕ) → Chain none f g s xs → first xs ≡ f s
      go [] c = sym c.0
      go (x ∷ xs) c = sym c.0

  pub q_small : (q ≡ none → ⊥) → In q (deq v d)
  q_small n = ⊎_elim (λ e. absurd (n (sym f_s ∙ e))) (λ m. in-at (deq v d) f_s m) (next_in none f g none (deq v d) (r.linked d hd) s s_in)

  slot : (x : ℕ) → In x (deq v d) → x < v.slots
  slot x m = (r.member d x hd m).0

  home : (x : ℕ) → In x (deq v d) → home_of a x ≡ d
  home x m = (r.member d x hd m).1

  module _ (n : q ≡ none → ⊥) where
    abbrev b : Links
    b = turn_now a d s q

    q_in : In q (deq v d)
    q_in = q_small n

    end_t : get_or a.next t 0 ≡ none
    end_t = sym (step_slot a.heads a.next d t (real t t_in)) ∙ undo_end none f g none (deq v d) (r.linked d hd)

    start_h : get_or a.prev h 0 ≡ none
    start_h = sym (step_slot a.tails a.prev d h (real h h_in)) ∙ undo_start none f g none (deq v d) (r.linked d hd)

    t_not_s : t ≡ s → ⊥
    t_not_s e = n (ap (λ (x : ℕ). get_or a.next x 0) (sym e) ∙ end_t)

    back_q : get_or a.prev q 0 ≡ s
    back_q = sym (step_slot a.tails a.prev d q (real q q_in)) ∙ ap g (sym f_s) ∙ undo_s
      where
        undo_s : g (f s) ≡ s
        undo_s = go none (deq v d) (r.linked d hd) s_in
          where
            go : (b : ℕ) (xs : List ℕ) → Chain none f g b xs → In s xs → g (f s) ≡ s
            go b (x ∷ xs) c (inl e) = rw e (undo_start none f g x xs c.2)
            go b (x ∷ xs) c (inr m) = go x xs c.2 m
            go b [] c x'' = elim x'' [ ]

    h_not_q : h ≡ q → ⊥
    h_not_q e = s_real (sym back_q ∙ ap (λ (x : ℕ). get_or a.prev x 0) (sym e) ∙ start_h)

    off : (y : ℕ) → In y (deq v d) → (x : ℕ) → (home_of a x ≡ d → ⊥) → x ≡ y → ⊥
    off y m x k e = k (ap (home_of a) e ∙ home y m)

    pub turn_local : Local a b d s
    turn_local =
        record {
          heads_len = simp length-set;
          tails_len = simp length-set;
          next_len = simp length-set;
          prev_len = simp length-set;
          home_len = refl;
          heads_off = λ e k. get_or-set_other a.heads d e q 0 k;
          tails_off = λ e k. get_or-set_other a.tails d e s 0 k;
          next_off = λ x l k m. get_or-set_other (set a.next t h) s x none 0 m ∙ get_or-set_other a.next t x h 0 (off t t_in x k);
          prev_off = λ x l k m. get_or-set_other (set a.prev h t) q x none 0 (off q q_in x k) ∙ get_or-set_other a.prev h x t 0 (off h h_in x k);
          home_off = λ x k. refl;
        }

    abbrev ws : List ℕ
    ws = rest (after s (deq v d))

    after_is : after s (deq v d) ≡ q ∷ ws
    after_is = some_first (after s (deq v d)) q after_first n

    whole_is : deq v d ≡ before s (deq v d) ++ (s ∷ q ∷ ws)
    whole_is = split (deq v d) s s_in ∙ ap (λ (xs : List ℕ). before s (deq v d) ++ (s ∷ xs)) after_is

    turned_is : turned s (deq v d) ≡ q ∷ (ws ++ (before s (deq v d) ++ (s ∷ [])))
    turned_is = ap (λ (xs : List ℕ). xs ++ (before s (deq v d) ++ (s ∷ []))) after_is

    in-next : (x : ℕ) → x < v.slots → x < length a.next
    in-next x l = rw r.next_len l

    in-prev : (x : ℕ) → x < v.slots → x < length a.prev
    in-prev x l = rw r.prev_len l

    linked : Chain none (step b.heads b.next d) (step b.tails b.prev d) none (turned s (deq v d))
    linked =
        rw turned_is
        (turned_ring f g (step b.heads b.next d) (step b.tails b.prev d) s q
        (get_or-set_same a.heads d q 0 (rw r.heads_len hd))
        (simp (ne_eqb s none s_real) (get_or-set_same (set a.next t h) s none 0 (simp length-set (in-next s s_slot))))
        (simp (ne_eqb t none (real t t_in)) (get_or-set_other (set a.next t h) s t none 0 t_not_s ∙ get_or-set_same a.next t h 0 (in-next t (slot t t_in))))
        (simp (ne_eqb q none n) (get_or-set_same (set a.prev h t) q none 0 (simp length-set (in-prev q (slot q q_in)))))
        (get_or-set_same a.tails d s 0 (rw r.tails_len hd))
        (simp (ne_eqb h none (real h h_in)) (get_or-set_other (set a.prev h t) q h none 0 h_not_q ∙ get_or-set_same a.prev h t 0 (in-prev h (slot h h_in))))
        (λ x k l m. simp (ne_eqb x none k) (get_or-set_other (set a.next t h) s x none 0 l ∙ get_or-set_other a.next t x h 0 m))
        (λ x k l m. simp (ne_eqb x none k) (get_or-set_other (set a.prev h t) q x none 0 l ∙ get_or-set_other a.prev h x t 0 m))
        (undo_end none f g none (deq v d) (r.linked d hd))
        (undo_start none f g none (deq v d) (r.linked d hd))
        (before s (deq v d)) ws
        (subst (λ (xs : List ℕ). Real none xs) whole_is real)
        (subst (λ (xs : List ℕ). Once xs) whole_is (deq_once a v loose r d hd))
        (subst (λ (xs : List ℕ). Chain none f g none xs) whole_is (r.linked d hd)))

    turn_fits : Suits a b v loose loose d s (turned s (deq v d))
    turn_fits =
        record {
          deque = hd;
          near = inl s_home;
          not_free = λ m. omega (arith, s_home, (r.spare s m).1, hd, r.few);
          linked = linked;
          member = λ x m. r.member d x hd (in-turned (deq v d) s x s_in m);
          homed = λ x l e. turned_in (deq v d) s x s_in (rw e at (r.homed x l (λ k. omega (arith, e, k, hd, r.few))).1);
          now = inl s_home;
          apart = r.apart;
          once = r.once;
          covered = λ x l e w. ⊎_elim (λ (k : x ≡ s). absurd (omega (arith, ap (home_of a) k, s_home, e, hd, r.few))) (λ m. m) w;
        }

    pub turn_now_lem : Rep b (turn d s v) loose
    turn_now_lem = swapped a b v loose loose d s (turned s (deq v d)) r turn_local turn_fits

  -- where s is last the turned list is the list
  last_same : q ≡ none → turned s (deq v d) ≡ deq v d
  last_same e =
      let n : after s (deq v d) ≡ [] = none_after (after s (deq v d)) (after_first ∙ e)
      (λ x m. real x (rw (split (deq v d) s s_in) (app_right (before s (deq v d)) (s ∷ after s (deq v d)) x (inr m)))) in
      ap (λ (xs : List ℕ). xs ++ (before s (deq v d) ++ (s ∷ []))) n
      ∙ ap (λ (xs : List ℕ). before s (deq v d) ++ (s ∷ xs)) (sym n)
      ∙ sym (split (deq v d) s s_in)
    where
      none_after : (xs : List ℕ) → first xs ≡ none → Real none xs → xs ≡ []
      none_after [] i p = refl
      none_after (x ∷ xs) i p = absurd (p x (inl refl) i)

  pub turn_same : q ≡ none → Rep a (turn d s v) loose
  turn_same e = rw (last_same e, set-get_or v.held d []) r

  pub turn_rep : Rep (turn_to a d s) (turn d s v) loose
  unfolding turn_to
  turn_rep =
      ⊎_elim (λ (e : q ≡ none). simp (eq-eqb q none e) (turn_same e)) (λ (n : q ≡ none → ⊥). simp (ne_eqb q none n) (turn_now_lem n)) (same? q none)

-- ---- what `turn` needs: the old tail and head, and the slot after s, are slots; the index, and the index in bytes
module _ (h t n p o : List ℕ) (d s : ℕ) (k : HeldBy (links h t n p o) d s) where
  pub tail_index : get_or t d 0 < length n
  tail_index = rw k.rep.next_len (k.rep.member d _ k.deque (t_in (links h t n p o) k.v k.loose d s k.rep k.slot k.deque k.homed)).0

  pub tail_bytes : length n * 8 < 2 ^ 63 → Fits w64 (get_or t d 0 * 8)
  tail_bytes g = scaled_Fits (get_or t d 0) (length n) 8 tail_index g

  pub head_index : get_or h d 0 < length p
  head_index = rw k.rep.prev_len (k.rep.member d _ k.deque (h_in (links h t n p o) k.v k.loose d s k.rep k.slot k.deque k.homed)).0

  pub head_bytes : length p * 8 < 2 ^ 63 → Fits w64 (get_or h d 0 * 8)
  head_bytes g = scaled_Fits (get_or h d 0) (length p) 8 head_index g

-- ---- what `turn` ensures
module _ (a : Links) (d s : ℕ) (k : HeldBy a d s) where
  slots_same : (v : Lists) (loose : List ℕ) → Rep a v loose → (s < v.slots) × (d < v.count)
  slots_same v loose r = (omega (arith, r.home_len, k.rep.home_len, k.slot), omega (arith, r.heads_len, k.rep.heads_len, k.deque))

  pub turn_stays : length a.next ≤ get_or a.next s 0 → Turns a a d s
  unfolding turn_to
  turn_stays l =
      let e : get_or a.next s 0 ≡ none =
      ⊎_elim (λ i. i)
      (λ (n : get_or a.next s 0 ≡ none → ⊥).
      absurd (omega (
        arith,
        l,
        k.rep.next_len,
        (k.rep.member d _ k.deque (q_small a k.v k.loose d s k.rep k.slot k.deque k.homed n)
            ).0,
      )))
      (same? (get_or a.next s 0) none)
      in
      record {
        is = simp (eq-eqb (get_or a.next s 0) none e);
        does = λ v loose r. let u = slots_same v loose r in turn_same a v loose d s r u.0 u.1 k.homed e;
      }

  pub turn_does : get_or a.next s 0 < length a.next → Turns a (turn_now a d s (get_or a.next s 0)) d s
  unfolding turn_to
  turn_does l =
      let n : get_or a.next s 0 ≡ none → ⊥ = λ e. omega (arith, l, e, k.rep.next_len, k.rep.small) in
      record {
        is = simp (ne_eqb (get_or a.next s 0) none n);
        does = λ v loose r. let u = slots_same v loose r in turn_now_lem a v loose d s r u.0 u.1 k.homed n;
      }
