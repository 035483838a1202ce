-- Turning in one splice writes what moving nodes from front to back until s is last writes, record for record.
use Prim.Native.Nat.{ℕ, zero, suc, ◌≤◌, ◌<◌}
use native.Mathlib.Omega.{arith}
use mathlib.Core.Path.{◌≡◌, refl, sym, ap, subst, ◌∙◌}
use mathlib.Core.Logic.{inl, inr, ⊎_elim}
use mathlib.Core.List.{List, [], ◌∷◌, ◌++◌, append_assoc}
use lib.ListN.{length, get_or, set}
use lib.Seq.{set-set, set-get_or, ext_get_or}
use borrow.Author.Tests.{eq-eqb, ne_eqb}
use Rattle.deque_rules.specs.Chain.{last}
use Rattle.deque_rules.specs.Links.{first, Links, Deques as Lists, slot_after as step, home_of, deq, Rep, link_back, cut_out}
use Rattle.numbers.specs.Lists.{last_or}
use Rattle.numbers.specs.Shared.{no_slot as none, In, Once, before_in as before, after_in as after}
use Rattle.deque_rules.specs.Lists.{with_deque, push_back, take_out, turn}
use Rattle.deque_rules.specs.Change.{turn_now, turn_to}
use Rattle.deque_rules.specs.Turn.{front_to_back, until_last}
use Rattle.numbers.proofs.Cases.{same?}
use Rattle.numbers.proofs.Members.{in-at, in-same, app_right, once_right, last_back, split}
use Rattle.deque_rules.proofs.Chains.{agreed}
use Rattle.deque_rules.proofs.Arrays.{step_slot}
use Rattle.deque_rules.proofs.Swap.{Local, slot_real, deq_once}
use Rattle.deque_rules.proofs.Linking.{link_rep, link_local}
use Rattle.deque_rules.proofs.Cutting.{cut_rep, cut_local}
use Rattle.deque_rules.proofs.Turning.{turn_now_lem, turn_local, after_first}
use Rattle.deque_rules.proofs.Reading.{head_is, tail_is}
use Rattle.deque_rules.proofs.Members.{deq_at, deq_twice, in-home}

-- only the ends of d and the links of its slots are others
pub record Kept (a b : Links) (d : ℕ) : Type 0 where
  pub heads_off : (e : ℕ) → (e ≡ d → ⊥) → get_or b.heads e 0 ≡ get_or a.heads e 0
  pub tails_off : (e : ℕ) → (e ≡ d → ⊥) → get_or b.tails e 0 ≡ get_or a.tails e 0
  pub next_off : (x : ℕ) → x < length a.next → (home_of a x ≡ d → ⊥) → get_or b.next x 0 ≡ get_or a.next x 0
  pub prev_off : (x : ℕ) → x < length a.prev → (home_of a x ≡ d → ⊥) → get_or b.prev x 0 ≡ get_or a.prev x 0
  pub home_is : b.home ≡ a.home

kept_both : (a b c : Links) (d : ℕ) → length b.next ≡ length a.next → length b.prev ≡ length a.prev → Kept a b d → Kept b c d → Kept a c d
kept_both a b c d p q k l =
    let home : (x : ℕ) → home_of b x ≡ home_of a x = λ x. ap (λ (o : List ℕ). get_or o x 0) k.home_is in
    record {
      heads_off = λ e n. l.heads_off e n ∙ k.heads_off e n;
      tails_off = λ e n. l.tails_off e n ∙ k.tails_off e n;
      next_off = λ x i n. l.next_off x (rw p i) (λ e. n (sym (home x) ∙ e)) ∙ k.next_off x i n;
      prev_off = λ x i n. l.prev_off x (rw q i) (λ e. n (sym (home x) ∙ e)) ∙ k.prev_off x i n;
      home_is = l.home_is ∙ k.home_is;
    }

-- records that keep the rest of a and stand for the same lists are the same
pub same_records : (a b c : Links) (v w : Lists) (k l : List ℕ) (d : ℕ) → Rep a v k → Rep b w l → Rep c w l → d < w.count → v.slots ≡ w.slots → Kept a b d →
    Kept a c d → b ≡ c
same_records a b c v w k l d ra rb rc hd sl kb kc =
    same
    (ext_get_or 0 b.heads c.heads (rb.heads_len ∙ sym rc.heads_len)
    (λ e i. ⊎_elim (λ (q : e ≡ d). rw q (sym u.0)) (λ (n : e ≡ d → ⊥). kb.heads_off e n ∙ sym (kc.heads_off e n)) (same? e d)))
    (ext_get_or 0 b.tails c.tails (rb.tails_len ∙ sym rc.tails_len)
    (λ e i. ⊎_elim (λ (q : e ≡ d). rw q (sym u.2)) (λ (n : e ≡ d → ⊥). kb.tails_off e n ∙ sym (kc.tails_off e n)) (same? e d)))
    (ext_get_or 0 b.next c.next (rb.next_len ∙ sym rc.next_len)
    (λ x i.
    let s : x < w.slots = rw rb.next_len at i in
    ⊎_elim
    (λ (q : home_of a x ≡ d). sym (step_slot b.heads b.next d x (real x (there x s q))) ∙ sym (u.1 x (there x s q)).0 ∙ step_slot c.heads c.next d
    x (real x (there x s q)))
    (λ (n : home_of a x ≡ d → ⊥). let j : x < length a.next = omega (arith, s, sl, ra.next_len) in kb.next_off x j n ∙ sym (kc.next_off x j n))
    (same? (home_of a x) d)))
    (ext_get_or 0 b.prev c.prev (rb.prev_len ∙ sym rc.prev_len)
    (λ x i.
    let s : x < w.slots = rw rb.prev_len at i in
    ⊎_elim
    (λ (q : home_of a x ≡ d). sym (step_slot b.tails b.prev d x (real x (there x s q))) ∙ sym (u.1 x (there x s q)).1 ∙ step_slot c.tails c.prev d
    x (real x (there x s q)))
    (λ (n : home_of a x ≡ d → ⊥). let j : x < length a.prev = omega (arith, s, sl, ra.prev_len) in kb.prev_off x j n ∙ sym (kc.prev_off x j n))
    (same? (home_of a x) d)))
    (kb.home_is ∙ sym kc.home_is)
  where
    u : (step c.heads c.next d none ≡ step b.heads b.next d none) ×
        ((x : ℕ) → In x (deq w d) → (step c.heads c.next d x ≡ step b.heads b.next d x) ×
        (step c.tails c.prev d x ≡ step b.tails b.prev d x)) × (step c.tails c.prev d none ≡ step b.tails b.prev d none)
    u = agreed none (step b.heads b.next d) (step b.tails b.prev d) (step c.heads c.next d) (step c.tails c.prev d) none (deq w d)
        (rb.linked d hd) (rc.linked d hd)

    there : (x : ℕ) → x < w.slots → home_of a x ≡ d → In x (deq w d)
    there x s q = in-home b w l rb x d s hd (ap (λ (o : List ℕ). get_or o x 0) kb.home_is ∙ q)

    real : (x : ℕ) → In x (deq w d) → x ≡ none → ⊥
    real = slot_real b w l rb d hd

    same : b.heads ≡ c.heads → b.tails ≡ c.tails → b.next ≡ c.next → b.prev ≡ c.prev → b.home ≡ c.home → b ≡ c
    same p q r s t = λ i. record { heads = p i; tails = q i; next = r i; prev = s i; home = t i }

-- ---- one node from front to back
module _ (a : Links) (v : Lists) (loose : List ℕ) (d : ℕ) (r : Rep a v loose) (hd : d < v.count) (h : ℕ) (ys : List ℕ) (e : deq v d ≡ h ∷ ys) where
  h_in : In h (deq v d)
  h_in = in-same h (sym e) (inl refl)

  h_slot : h < v.slots
  h_slot = (r.member d h hd h_in).0

  h_home : home_of a h ≡ d
  h_home = (r.member d h hd h_in).1

  h_held : home_of a h ≡ none → ⊥
  h_held k = omega (arith, h_home, k, hd, r.few)

  h_is : get_or a.heads d 0 ≡ h
  h_is = head_is a v loose r d hd ∙ ap first e

  cut_v : take_out (home_of a h) h v ≡ with_deque d ys v
  cut_v = rw (h_home, e) (simp (eq-eqb h h refl))

  cut_r : Rep (cut_out a h) (with_deque d ys v) (h ∷ loose)
  cut_r = subst (λ (w : Lists). Rep (cut_out a h) w (h ∷ loose)) cut_v (cut_rep a v loose h r h_slot h_held)

  link_v : push_back d h (with_deque d ys v) ≡ with_deque d (ys ++ (h ∷ [])) v
  link_v = rw (deq_at d ys v (rw r.held_len hd)) (simp set-set)

  front_rep : Rep (link_back (cut_out a h) d h) (with_deque d (ys ++ (h ∷ [])) v) loose
  front_rep = subst (λ (w : Lists). Rep (link_back (cut_out a h) d h) w loose) link_v (link_rep (cut_out a h) (with_deque d ys v) loose d h cut_r hd)

  front_kept : Kept a (link_back (cut_out a h) d h) d
  unfolding link_back cut_out
  front_kept =
      let k : Local a (cut_out a h) d h = subst (λ (y : ℕ). Local a (cut_out a h) y h) h_home (cut_local a v loose h r h_slot h_held) in
      let l : Local (cut_out a h) (link_back (cut_out a h) d h) d h = link_local (cut_out a h) (with_deque d ys v) loose d h cut_r hd in
      let off : (x : ℕ) → (home_of a x ≡ d → ⊥) → x ≡ h → ⊥ = λ x n i. n (ap (home_of a) i ∙ h_home) in
      record {
        heads_off = λ x n. l.heads_off x n ∙ k.heads_off x n;
        tails_off = λ x n. l.tails_off x n ∙ k.tails_off x n;
        next_off = λ x i n. l.next_off x (rw k.next_len i) (λ j. n (sym (k.home_off x (off x n)) ∙ j)) (off x n) ∙ k.next_off x i n (off x n);
        prev_off = λ x i n. l.prev_off x (rw k.prev_len i) (λ j. n (sym (k.home_off x (off x n)) ∙ j)) (off x n) ∙ k.prev_off x i n (off x n);
        home_is = set-set a.home h none d ∙ ap (λ (y : ℕ). set a.home h y) (sym h_home) ∙ set-get_or a.home h 0;
      }

  moves : front_to_back a d ≡ link_back (cut_out a h) d h
  moves = rw h_is refl

  pub front_done : Rep (front_to_back a d) (with_deque d (ys ++ (h ∷ [])) v) loose × Kept a (front_to_back a d) d
  front_done = rw moves (front_rep, front_kept)

-- ---- until s is last
-- where it is, nothing happens
stops : (k : ℕ) (a : Links) (d s : ℕ) → get_or a.tails d 0 ≡ s → until_last k a d s ≡ a
stops zero a d s e = refl
stops (suc k) a d s e = simp (eq-eqb (get_or a.tails d 0) s e)

-- where it is not, the front goes to the back
goes : (k : ℕ) (a : Links) (d s : ℕ) → (get_or a.tails d 0 ≡ s → ⊥) → until_last (suc k) a d s ≡ until_last k (front_to_back a d) d s
goes k a d s n = simp (ne_eqb (get_or a.tails d 0) s n)

last_app : (us : List ℕ) (b w : ℕ) (ws : List ℕ) → last_or b (us ++ (w ∷ ws)) ≡ last_or w ws
last_app [] b w ws = refl
last_app (u ∷ us) b w ws = last_app us u w ws

in-last : (b : ℕ) (ws : List ℕ) → In (last_or b ws) (b ∷ ws)
in-last b [] = inl refl
in-last b (w ∷ ws) = inr (in-last w ws)

module _ (d s : ℕ) (loose : List ℕ) where
  -- what holds of the records once s is last
  abbrev Done : Links → Lists → List ℕ → Links → Type 0
  Done a v xs b = Rep b (with_deque d xs v) loose × Kept a b d

  not_last : (a : Links) (v : Lists) (us : List ℕ) (w : ℕ) (ws : List ℕ) → Rep a v loose → d < v.count → deq v d ≡ us ++ (s ∷ w ∷ ws) → get_or a.tails d 0 ≡
      s → ⊥
  not_last a v us w ws r hd e i =
      let t : last_or w ws ≡ s = sym (last_app us none s (w ∷ ws)) ∙ sym (ap last e) ∙ sym (tail_is a v loose r d hd) ∙ i in
      let o : Once (us ++ (s ∷ w ∷ ws)) = subst (λ (xs : List ℕ). Once xs) e (deq_once a v loose r d hd) in
      (once_right us (s ∷ w ∷ ws) o).0 (in-at (w ∷ ws) t (in-last w ws))

  walks : (us : List ℕ) (k : ℕ) (a : Links) (v : Lists) (w : ℕ) (ws : List ℕ) → length us < k → Rep a v loose → d < v.count → deq v d ≡ us ++ (s ∷ w ∷ ws) →
      Done a v ((w ∷ ws) ++ (us ++ (s ∷ []))) (until_last k a d s)
  walks us zero a v w ws l r hd e = absurd (omega (arith, l))
  walks [] (suc k) a v w ws l r hd e =
      let f = front_done a v loose d r hd s (w ∷ ws) e in
      let t : get_or (front_to_back a d).tails d 0 ≡ s =
      tail_is (front_to_back a d) (with_deque d ((w ∷ ws) ++ (s ∷ [])) v) loose f.0 d hd
      ∙ ap last (deq_at d ((w ∷ ws) ++ (s ∷ [])) v (rw r.held_len hd))
      ∙ last_back (w ∷ ws) none s in
      rw (goes k a d s (not_last a v [] w ws r hd e), stops k (front_to_back a d) d s t) f
  walks (u ∷ us) (suc k) a v w ws l r hd e =
      let f = front_done a v loose d r hd u (us ++ (s ∷ w ∷ ws)) e in
      let e' : deq (with_deque d ((us ++ (s ∷ w ∷ ws)) ++ (u ∷ [])) v) d ≡ us ++ (s ∷ w ∷ (ws ++ (u ∷ []))) =
      deq_at d ((us ++ (s ∷ w ∷ ws)) ++ (u ∷ [])) v (rw r.held_len hd) ∙ append_assoc us (s ∷ w ∷ ws) (u ∷ []) in
      let g = walks us k (front_to_back a d) (with_deque d ((us ++ (s ∷ w ∷ ws)) ++ (u ∷ [])) v) w (ws ++ (u ∷ [])) (omega (arith, l)) f.0 hd e' in
      let same : with_deque d ((w ∷ (ws ++ (u ∷ []))) ++ (us ++ (s ∷ []))) (with_deque d ((us ++ (s ∷ w ∷ ws)) ++ (u ∷ [])) v) ≡ with_deque d
      ((w ∷ ws) ++ ((u ∷ us) ++ (s ∷ []))) v =
      deq_twice d ((us ++ (s ∷ w ∷ ws)) ++ (u ∷ [])) ((w ∷ (ws ++ (u ∷ []))) ++ (us ++ (s ∷ []))) v
      ∙ ap (λ (xs : List ℕ). with_deque d (w ∷ xs) v) (append_assoc ws (u ∷ []) (us ++ (s ∷ []))) in
      rw (goes k a d s (not_last a v (u ∷ us) w ws r hd e)) (
        subst (λ (x : Lists). Rep (until_last k (front_to_back a d) d s) x loose) same g.0,
        kept_both a (front_to_back a d) (until_last k (front_to_back a d) d s) d (f.0.next_len ∙ sym r.next_len) (f.0.prev_len ∙ sym r.prev_len) f.1
            g.1,
      )

-- Local records keep what Kept says where s is in d and no home changes
turn_kept : (a : Links) (v : Lists) (loose : List ℕ) (d s : ℕ) (r : Rep a v loose) (l : s < v.slots) (hd : d < v.count) (i : home_of a s ≡ d)
    (n : get_or a.next s 0 ≡ none → ⊥) → Kept a (turn_now a d s (get_or a.next s 0)) d
turn_kept a v loose d s r l hd i n =
    let k = turn_local a v loose d s r l hd i n in
    let off : (x : ℕ) → (home_of a x ≡ d → ⊥) → x ≡ s → ⊥ = λ x m j. m (ap (home_of a) j ∙ i) in
    record {
      heads_off = k.heads_off;
      tails_off = k.tails_off;
      next_off = λ x j m. k.next_off x j m (off x m);
      prev_off = λ x j m. k.prev_off x j m (off x m);
      home_is = refl;
    }

-- the splice is the rule, however long the rule may take from as many steps on as the deque has slots
pub turn_is_rule : (a : Links) (v : Lists) (loose : List ℕ) (d s k : ℕ) → Rep a v loose → s < v.slots → d < v.count → home_of a s ≡ d → length (deq v d) ≤ k →
    turn_to a d s ≡ until_last k a d s
unfolding turn_to
turn_is_rule a v loose d s k r l hd i f = go (after s (deq v d)) refl
  where
    s_in : In s (deq v d)
    s_in = in-home a v loose r s d l hd i

    parted : deq v d ≡ before s (deq v d) ++ (s ∷ after s (deq v d))
    parted = split (deq v d) s s_in

    short : (us ys : List ℕ) → length us < length (us ++ (s ∷ ys))
    short [] ys = omega arith
    short (u ∷ us) ys = omega (arith, short us ys)

    next_s : (ys : List ℕ) → after s (deq v d) ≡ ys → get_or a.next s 0 ≡ first ys
    next_s ys e = sym (turn_first) ∙ ap first e
      where
        turn_first : first (after s (deq v d)) ≡ get_or a.next s 0
        turn_first = after_first a v loose d s r l hd i

    go : (ys : List ℕ) → after s (deq v d) ≡ ys → turn_to a d s ≡ until_last k a d s
    go [] e =
        let t : get_or a.tails d 0 ≡ s =
        tail_is a v loose r d hd ∙ ap last (parted ∙ ap (λ (xs : List ℕ). before s (deq v d) ++ (s ∷ xs)) e) ∙ last_back (before s (deq v d)) none s in
        simp (eq-eqb (get_or a.next s 0) none (next_s [] e)) (sym (stops k a d s t))
    go (w ∷ ws) e =
        let n : get_or a.next s 0 ≡ none → ⊥ =
        λ j. slot_real a v loose r d hd w (in-same w (sym parted)
        (app_right (before s (deq v d)) (s ∷ after s (deq v d)) w (inr (in-same w (sym e) (inl refl))))) (sym (next_s (w ∷ ws) e) ∙ j) in
        let whole : deq v d ≡ before s (deq v d) ++ (s ∷ w ∷ ws) = parted ∙ ap (λ (xs : List ℕ). before s (deq v d) ++ (s ∷ xs)) e in
        let g = walks d s loose (before s (deq v d)) k a v w ws (omega (arith, f, ap length whole, short (before s (deq v d)) (w ∷ ws))) r hd whole in
        let t : with_deque d ((w ∷ ws) ++ (before s (deq v d) ++ (s ∷ []))) v ≡ turn d s v =
        ap (λ (xs : List ℕ). with_deque d (xs ++ (before s (deq v d) ++ (s ∷ []))) v) (sym e) in
        simp (ne_eqb (get_or a.next s 0) none n)
        (same_records a (turn_now a d s (get_or a.next s 0)) (until_last k a d s) v (turn d s v) loose loose d r
        (turn_now_lem a v loose d s r l hd i n)
        (subst (λ (x : Lists). Rep (until_last k a d s) x loose) t g.0)
        hd refl
        (turn_kept a v loose d s r l hd i n)
        g.1)
