-- What a loop over the deques keeps that walks each of them, and why each answer of the test is right.
use Prim.Native.Nat.{ℕ, ◌+◌, ◌*◌, ◌≤◌, ◌<◌}
use native.Mathlib.Omega.{arith}
use mathlib.Core.Path.{◌≡◌, refl, sym, ap, ◌∙◌}
use mathlib.Core.Logic.{inl, ⊎_elim}
use mathlib.Core.List.{List, [], ◌∷◌, ◌++◌}
use lib.ListN.{length, get_or, length-append, get_or-append}
use lib.Seq.{get_or_at}
use Rattle.numbers.specs.Shared.{no_slot as none, In, Once}
use Rattle.deque_rules.specs.Links.{Links, slot_after as step, home_of, deq, Whole}
use Rattle.deque_rules.specs.Layout.{Sizes}
use Rattle.deque_rules.specs.Sound.{Runs, Spares, Walked, WalkedFree}
use Rattle.numbers.proofs.Cases.{same?}
use Rattle.numbers.proofs.Members.{in-same, in_app, app_left, app_right, once_app}
use Rattle.deque_rules.proofs.Chains.{chain_once, chain_way, alike, path_once, path_alike}
use Rattle.numbers.proofs.Counting.{flat, flat_at, at_flat, flat_back, once_flat, at_most, at_least, all_there}

-- the deques below d have been walked: these are their lists, with total slots
pub record Upto (a : Links) (d total : ℕ) : Type 0 where
  pub sizes : Sizes a
  pub within : d ≤ length a.heads
  pub bound : total ≤ 4096 * d
  pub qs : List (List ℕ)
  pub qs_len : length qs ≡ d
  pub runs : (i : ℕ) → i < d → Runs a i none (get_or qs i [])
  pub sum : length (flat qs) ≡ total

module _ (a : Links) where
  pub begin : Sizes a → Upto a 0 0
  begin z = record { sizes = z; within = omega arith; bound = omega arith; qs = []; qs_len = refl; runs = λ i l. absurd (omega (arith, l)); sum = refl }

  pub more : (d total c : ℕ) → Upto a d total → d < length a.heads → Walked a d c → c ≤ none → Upto a (d + 1) (total + c)
  more d total c u h w l =
      let f = w.found l in
      let at_d : get_or (u.qs ++ (f.0 ∷ [])) d [] ≡ f.0 = get_or_at u.qs f.0 [] [] d u.qs_len in
      record {
        sizes = u.sizes;
        within = omega arith;
        bound = omega (arith, u.bound, l);
        qs = u.qs ++ (f.0 ∷ []);
        qs_len = simp length-append (omega (arith, u.qs_len));
        runs = λ i k.
            ⊎_elim
            (λ (e : i ≡ d). rw (e, at_d) f.1)
            (λ (n : i ≡ d → ⊥). rw (get_or-append u.qs (f.0 ∷ []) [] i (omega (arith, u.qs_len, k, n))) (u.runs i (omega (arith, k, n))))
            (same? i d);
        sum = omega (arith, flat_back u.qs f.0, u.sum, f.2);
      }

  module _ (free : ℕ) where
    pub whole_sizes : Whole a free → Sizes a
    whole_sizes w =
        let r = w.rep in
        record {
          tails_len = r.tails_len ∙ sym r.heads_len;
          prev_len = r.prev_len ∙ sym r.next_len;
          home_len = r.home_len ∙ sym r.next_len;
          few = rw r.heads_len r.few;
          small = rw r.next_len r.small;
        }

    -- what whole records have at d is what a walk finds there
    has : (w : Whole a free) (d : ℕ) → d < length a.heads → Runs a d none (deq w.v d)
    has w d h =
        let r = w.rep in
        let k : d < w.v.count = rw r.heads_len at h in
        (r.linked d k, λ x m. (rw r.next_len (r.member d x k m).0, (r.member d x k m).1))

    has_free : (w : Whole a free) → Spares a.next a.home free w.v.free
    has_free w = let r = w.rep in (w.free_is, r.chained, λ x m. (rw r.next_len (r.spare x m).0, (r.spare x m).1))

    -- a walk that fails refutes, a walk that does not counts the slots that whole records have there
    pub no_walk : (d c : ℕ) → d < length a.heads → Walked a d c → none < c → Whole a free → ⊥
    no_walk d c h k l w = k.bad l (deq w.v d) (has w d h)

    pub no_walk_free : (c : ℕ) → WalkedFree a.next a.home free c → none < c → Whole a free → ⊥
    no_walk_free c k l w = k.bad l w.v.free (has_free w)

    same_runs : Sizes a → (d : ℕ) (xs ys : List ℕ) → Runs a d none xs → Runs a d none ys → xs ≡ ys
    same_runs z d xs ys p q =
        alike none (step a.heads a.next d) none xs ys
        (λ x m e. omega (arith, (p.1 x m).0, z.small, e))
        (λ x m e. omega (arith, (q.1 x m).0, z.small, e))
        (chain_way none (step a.heads a.next d) (step a.tails a.prev d) none xs p.0)
        (chain_way none (step a.heads a.next d) (step a.tails a.prev d) none ys q.0)

    pub walk_counts : (d c : ℕ) → d < length a.heads → Walked a d c → c ≤ none → (w : Whole a free) → length (deq w.v d) ≡ c
    walk_counts d c h k l w =
        ap length (same_runs (whole_sizes w) d (deq w.v d) (k.found l).0 (has w d h) (k.found l).1) ∙ (k.found l).2

    module _ (d total c : ℕ) (u : Upto a d total) (h : length a.heads ≤ d) (k : WalkedFree a.next a.home free c) (l : c ≤ none) where
      abbrev N : ℕ
      N = length a.next

      abbrev qs : List (List ℕ)
      qs = u.qs

      abbrev fs : List ℕ
      fs = (k.found l).0

      abbrev all : List ℕ
      all = flat qs ++ fs

      real : (i : ℕ) → i < d → (x : ℕ) → In x (get_or qs i []) → x ≡ none → ⊥
      real i j x m e = omega (arith, ((u.runs i j).1 x m).0, u.sizes.small, e)

      real_free : (x : ℕ) → In x fs → x ≡ none → ⊥
      real_free x m e = omega (arith, ((k.found l).1.2 x m).0, u.sizes.small, e)

      in-d : (i : ℕ) → i < length qs → i < d
      in-d i j = omega (arith, j, u.qs_len)

      all_below : (x : ℕ) → In x all → x < N
      all_below x m =
          ⊎_elim
          (λ j. let v = flat_at qs x j in ((u.runs v.0 (in-d v.0 v.1)).1 x v.2).0)
          (λ j. ((k.found l).1.2 x j).0)
          (in_app (flat qs) fs x m)

      once_all : Once all
      once_all =
          once_app (flat qs) fs
          (once_flat (home_of a) 0 qs
          (λ i j. chain_once none (step a.heads a.next i) (step a.tails a.prev i) none (get_or qs i []) (u.runs i (in-d i j)).0 (real i (in-d i j)))
          (λ i x j m. omega (arith, ((u.runs i (in-d i j)).1 x m).1)))
          (path_once _ fs (k.found l).1.1 real_free)
          (λ x i j.
          let v = flat_at qs x i in
          omega (arith, ((u.runs v.0 (in-d v.0 v.1)).1 x v.2).1, v.1, u.qs_len, u.within, u.sizes.few, ((k.found l).1.2 x j).1))

      length_all : length all ≡ total + c
      length_all = omega (arith, length-append (flat qs) fs, u.sum, (k.found l).2)

      -- whole records have at each deque, and free, what was walked there
      same_deq : (w : Whole a free) (i : ℕ) → i < w.v.count → deq w.v i ≡ get_or qs i []
      same_deq w i j =
          let j' : i < length a.heads = rw w.rep.heads_len j in
          same_runs u.sizes i (deq w.v i) (get_or qs i []) (has w i j') (u.runs i (omega (arith, j', h)))

      same_free : (w : Whole a free) → w.v.free ≡ fs
      same_free w =
          let p = has_free w in
          path_alike _ w.v.free fs (λ x m e. omega (arith, (p.2 x m).0, u.sizes.small, e)) real_free (p.0 ∙ sym (k.found l).1.0) p.1
          (k.found l).1.1

      -- so they have no slot that was not walked
      pub too_few : (total + c ≡ N → ⊥) → Whole a free → ⊥
      too_few n w =
          let r = w.rep in
          let e : (x : ℕ) → x < N → In x all =
          λ x i.
          ⊎_elim
          (λ (j : home_of a x ≡ none).
          ⊎_elim (λ m. app_right (flat qs) fs x (in-same x (same_free w) m)) (λ m. absurd m) (r.covered x (rw r.next_len at i) j))
          (λ (j : home_of a x ≡ none → ⊥).
          let v = r.homed x (rw r.next_len at i) j in
          app_left (flat qs) fs x (at_flat qs (home_of a x) x (in-same x (same_deq w (home_of a x) v.0) v.1)))
          (same? (home_of a x) none)
          in
          n (omega (arith, length_all, at_most N all once_all all_below, at_least N all e))

      pub is_whole : total + c ≡ N → Whole a free
      is_whole e =
          let there : (x : ℕ) → x < N → In x all = all_there N all once_all all_below (omega (arith, length_all, e)) in
          record {
            v = record { count = length a.heads; slots = N; held = qs; free = fs };
            free_is = (k.found l).1.0;
            rep =
                record {
                  heads_len = refl;
                  tails_len = u.sizes.tails_len;
                  next_len = refl;
                  prev_len = u.sizes.prev_len;
                  home_len = u.sizes.home_len;
                  few = u.sizes.few;
                  small = u.sizes.small;
                  held_len = omega (arith, u.qs_len, u.within, h);
                  linked = λ i j. (u.runs i (omega (arith, j, h))).0;
                  member = λ i x j m. (u.runs i (omega (arith, j, h))).1 x m;
                  homed = λ x i n.
                      ⊎_elim
                      (λ j.
                      let v = flat_at qs x j in
                      let o : home_of a x ≡ v.0 = ((u.runs v.0 (in-d v.0 v.1)).1 x v.2).1 in
                      (omega (arith, o, v.1, u.qs_len, u.within), rw o v.2))
                      (λ j. absurd (n ((k.found l).1.2 x j).1))
                      (in_app (flat qs) fs x (there x i));
                  chained = (k.found l).1.1;
                  spare = (k.found l).1.2;
                  apart = λ x m. absurd m;
                  once = tt;
                  covered = λ x i n.
                      ⊎_elim
                      (λ j.
                      let v = flat_at qs x j in
                      let o : home_of a x ≡ v.0 = ((u.runs v.0 (in-d v.0 v.1)).1 x v.2).1 in
                      absurd (omega (arith, o, n, v.1, u.qs_len, u.within, u.sizes.few)))
                      (λ j. inl j)
                      (in_app (flat qs) fs x (there x i));
                };
          }
