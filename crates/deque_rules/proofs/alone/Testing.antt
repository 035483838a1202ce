-- What the loop of the soundness test keeps, and why each of its answers is right.
use Prim.Native.Nat.{ℕ, ◌+◌, ◌≤◌, ◌<◌}
use native.Mathlib.Omega.{arith}
use mathlib.Core.Path.{◌≡◌, sym, ◌∙◌}
use mathlib.Core.Logic.{inl, inr, ⊎_elim}
use mathlib.Core.Bool.{Bool, true, false, false≢true, not}
use mathlib.Core.List.{List, []}
use lib.ListN.{length, get_or}
use lib.Dec.{eqb}
use borrow.Author.Tests.{eq-eqb, eqb-true, not-true, not-false}
use Rattle.numbers.specs.Shared.{no_slot as none}
use Rattle.deque_rules.specs.Links.{home_of, deq, Whole}
use Rattle.deque_rules.specs.Layout.{Sizes}
use Rattle.deque_rules.specs.Sound.{Walked, WalkedFree, SizesFree}
use Rattle.numbers.proofs.Cases.{same?}
use Rattle.deque_rules.proofs.Laws.{in-home, Upto, begin, more, no_walk, no_walk_free, walk_counts, too_few, is_whole}
use Rattle.deque_rules.specs.Deque.{State, state, deque_count as deques, node_count as nodes, Lent, Sound}
use Rattle.deque_rules.specs.alone.Sound.{IsLent, Judged, StandsBy, StandsOk}
use Rattle.deque_rules.proofs.alone.Sounding.{shows_sound, sound_shows, shows_whole}

-- ---- the loop: the deques below d have been walked, their lengths are those recorded and their cursors stand
pub record Seen (a : State) (d total : ℕ) : Type 0 where
  pub lent : Lent a
  pub walked : Upto a.links d total
  pub lengths : (i : ℕ) → i < d → (free : ℕ) (w : Whole a.links free) → get_or a.lens i 0 ≡ length (deq w.v i)
  pub stand : (i : ℕ) → i < d → StandsBy (get_or a.cursors i 0) a.links.home i

module _ (a : State) where
  sizes : Lent a → Sizes a.links
  sizes z =
      record {
        tails_len = z.deques.tails_len;
        prev_len = z.nodes.prev_len;
        home_len = z.nodes.home_len;
        few = omega (arith, z.deques.few);
        small = z.nodes.small;
      }

  pub begins : (r : Bool) → IsLent a r → not r ≡ false → Seen a 0 0
  begins r z e =
      let l = z.sound (not-false r e) in
      record { lent = l; walked = begin a.links (sizes l); lengths = λ i j. absurd (omega (arith, j)); stand = λ i j. absurd (omega (arith, j)) }

  pub goes : (d total c : ℕ) (r : Bool) → Seen a d total → d < deques a → Walked a.links d c → c ≤ none → get_or a.lens d 0 ≡ c → StandsOk
      (get_or a.cursors d 0) a.links.home d r → not r ≡ false → Seen a (d + 1) (total + c)
  goes d total c r s h w l e k n =
      record {
        lent = s.lent;
        walked = more a.links d total c s.walked h w l;
        lengths = λ i j free u.
            ⊎_elim
            (λ (q : i ≡ d). rw q (e ∙ sym (walk_counts a.links free d c h w l u)))
            (λ (m : i ≡ d → ⊥). s.lengths i (omega (arith, j, m)) free u)
            (same? i d);
        stand = λ i j. ⊎_elim (λ (q : i ≡ d). rw q (k.sound (not-false r n))) (λ (m : i ≡ d → ⊥). s.stand i (omega (arith, j, m))) (same? i d);
      }

  module _ (free : ℕ) where
    nay : (Sound a free → ⊥) → Judged a free false
    nay n = record { sound = λ e. absurd (false≢true e); complete = λ s. absurd (n s) }

    whole : Sound a free → Whole a.links free
    whole s = shows_whole a free _ (sound_shows a free s)

    pub not_lent : (r : Bool) → IsLent a r → not r ≡ true → Judged a free false
    not_lent r z e = nay (λ s. false≢true (sym (not-true r e) ∙ z.complete s.lent))

    pub bad_links : (d total c : ℕ) → Seen a d total → d < deques a → Walked a.links d c → none < c → Judged a free false
    bad_links d total c s h w l = nay (λ z. no_walk a.links free d c h w l (whole z))

    pub bad_length : (d total c : ℕ) → Seen a d total → d < deques a → Walked a.links d c → c ≤ none → (get_or a.lens d 0 ≡ c → ⊥) → Judged a free false
    bad_length d total c s h w l n =
        nay (λ z.
        let u = sound_shows a free z in
        n (u.lengths d h ∙ walk_counts a.links free d c h w l (shows_whole a free _ u)))

    pub bad_cursor : (d total : ℕ) (r : Bool) → Seen a d total → d < deques a → StandsOk (get_or a.cursors d 0) a.links.home d r → not r ≡ true → Judged a
        free false
    bad_cursor d total r s h k n =
        nay (λ z.
        let u = sound_shows a free z in
        false≢true
        (sym (not-true r n)
        ∙ k.complete
        (⊎_elim
        (λ e. inl e)
        (λ q.
        ⊎_elim
        (λ e. inr (inl e))
        (λ m. let y = u.rep.member d (get_or a.cursors d 0) h m in inr (inr (omega (arith, y.0, z.lent.nodes.home_len), y.1)))
        q)
        (u.cursors d h))))

    pub bad_free : (c : ℕ) → WalkedFree a.links.next a.links.home free c → none < c → Judged a free false
    bad_free c k l = nay (λ z. no_walk_free a.links free c k l (whole z))

    pub counted : (d total c : ℕ) → Seen a d total → deques a ≤ d → WalkedFree a.links.next a.links.home free c → c ≤ none → Judged a free
        (eqb (total + c) (nodes a))
    counted d total c s h k l =
        record {
          sound = λ e.
              let w = is_whole a.links free d total c s.walked h k l (eqb-true (total + c) (nodes a) e) in
              let r = w.rep in
              let below : (i : ℕ) → i < w.v.count → i < d = λ i j. omega (arith, j, r.heads_len, h) in
              shows_sound a free w.v
              record {
                lent = s.lent;
                rep = r;
                free_is = w.free_is;
                lengths = λ i j. s.lengths i (below i j) free w;
                cursors = λ i j.
                    ⊎_elim
                    (λ q. inl q)
                    (λ q.
                    ⊎_elim
                    (λ y. inr (inl y))
                    (λ (y : (get_or a.cursors i 0 < length a.links.home) × (home_of a.links (get_or a.cursors i 0) ≡ i)).
                    inr (inr (in-home a.links w.v [] r (get_or a.cursors i 0) i (omega (arith, y.0, r.home_len)) j y.1)))
                    q)
                    (s.stand i (below i j));
              };
          complete = λ z.
              ⊎_elim
              (λ e. eq-eqb (total + c) (nodes a) e)
              (λ (n : total + c ≡ nodes a → ⊥). absurd (too_few a.links free d total c s.walked h k l n (whole z)))
              (same? (total + c) (nodes a));
        }

-- what the walks ask
module _ (h t l c n p o e : List ℕ) where
  pub asks_free : (d total : ℕ) → Seen (state h t l c n p o e) d total → SizesFree n o
  asks_free d total s = record { home_len = s.lent.nodes.home_len; small = s.lent.nodes.small }

-- the laws of the ways out
pub ruleset exits = (not_lent, bad_links, bad_length, bad_cursor, bad_free, counted)
