-- What the loop of `string` keeps, and the records that `lay_out` comes to.
use Prim.Native.Nat.{ℕ, zero, suc, ◌+◌, ◌-◌, ◌≤◌, ◌<◌}
use native.Mathlib.Omega.{arith}
use mathlib.Core.Path.{◌≡◌, refl, sym, ap, ◌∙◌}
use mathlib.Core.Logic.{inl}
use mathlib.Core.List.{List, [], ◌∷◌}
use lib.ListN.{length, get_or, length-replicate, get_or-replicate}
use lib.Seq.{ext_get_or}
use Rattle.deque_rules.specs.Links.{Path, first, Links, links, Rep, home_of, deq, nexts, fresh}
use Rattle.numbers.specs.Shared.{no_slot as none, up_from}
use Rattle.deque_rules.specs.Lists.{all_free}
use Rattle.deque_rules.specs.Layout.{Sizes, Empties, Strings, LaysOut}
use Rattle.numbers.proofs.Members.{in-same}
use Rattle.numbers.proofs.Counting.{up_range, range_up, length_up}

-- ---- string: the slots from s on are free, each followed by the one above it
first_same : (k k' i i' : ℕ) → k ≡ k' → i ≡ i' → first (up_from k i) ≡ first (up_from k' i')
first_same k k' i i' p q = rw (p, q) refl

pub record Strung (n₀ n : List ℕ) (s free : ℕ) : Type 0 where
  pub next_len : length n ≡ length n₀
  pub within : s ≤ length n₀
  pub free_is : free ≡ first (up_from (length n₀ - s) s)
  pub nexts_are : (x : ℕ) → s ≤ x → x < length n₀ → get_or n x 0 ≡ first (up_from (length n₀ - suc x) (suc x))

pub length_nexts : (xs : List ℕ) → length (nexts xs) ≡ length xs
length_nexts [] = refl
length_nexts (x ∷ xs) = ap suc (length_nexts xs)

nexts_at : (k i j : ℕ) → j < k → get_or (nexts (up_from k i)) j 0 ≡ first (up_from (k - suc j) (i + suc j))
nexts_at zero i j l = absurd (omega (arith, l))
nexts_at (suc k) i zero l = first_same k (suc k - 1) (suc i) (i + 1) (omega arith) (omega arith)
nexts_at (suc k) i (suc j) l =
    nexts_at k (suc i) j (omega (arith, l)) ∙ first_same (k - suc j) (suc k - suc (suc j)) (suc i + suc j) (i + suc (suc j)) (omega arith) (omega arith)

module _ (n₀ n : List ℕ) (s free : ℕ) (l : s ≤ 0) (k : Strung n₀ n s free) where
  pub string_links : n ≡ nexts (up_from (length n₀) 0)
  string_links =
      ext_get_or 0 n (nexts (up_from (length n₀) 0)) (k.next_len ∙ sym (length_nexts (up_from (length n₀) 0) ∙ length_up (length n₀) 0))
      (λ i j.
      let j' : i < length n₀ = rw k.next_len at j in
      k.nexts_are i (omega (arith, l)) j'
      ∙ first_same (length n₀ - suc i) (length n₀ - suc i) (suc i) (0 + suc i) refl (omega arith)
      ∙ sym (nexts_at (length n₀) 0 i j'))

  pub string_first : free ≡ first (up_from (length n₀) 0)
  string_first = k.free_is ∙ first_same (length n₀ - s) (length n₀) s 0 (omega (arith, l)) (omega (arith, l))

-- ---- lay_out
pub path_up : (n k i : ℕ) → i + k ≡ n → Path (λ (x : ℕ). get_or (nexts (up_from n 0)) x 0) (up_from k i)
path_up n zero i e = tt
path_up n (suc k) i e =
    (nexts_at n 0 i (omega (arith, e)) ∙ first_same (n - suc i) k (0 + suc i) (suc i) (omega (arith, e)) (omega arith), path_up n k (suc i) (omega (arith, e)))

pub fresh_rep : (c n : ℕ) → c ≤ none → n ≤ none → Rep (fresh c n) (all_free c n) []
unfolding fresh
fresh_rep c n f s =
    let empty : (d : ℕ) → d < c → deq (all_free c n) d ≡ [] = λ d h. get_or-replicate c d [] [] h in
    let homes : (x : ℕ) → x < n → home_of (fresh c n) x ≡ none = λ x h. get_or-replicate n x none 0 h in
    record {
      heads_len = length-replicate c none;
      tails_len = length-replicate c none;
      next_len = length_nexts (up_from n 0) ∙ length_up n 0;
      prev_len = length-replicate n none;
      home_len = length-replicate n none;
      few = f;
      small = s;
      held_len = length-replicate c [];
      linked = λ d h. rw (empty d h) (get_or-replicate c d none 0 h, get_or-replicate c d none 0 h);
      member = λ d x h m. absurd (in-same x (empty d h) m);
      homed = λ x h m. absurd (m (homes x h));
      chained = path_up n n 0 (omega arith);
      spare = λ x m. let u : x < n = omega (arith, (up_range n 0 x m).1) in (u, homes x u);
      apart = λ x m. absurd m;
      once = tt;
      covered = λ x h e. inl (range_up n 0 x (omega arith) (omega (arith, h)));
    }

pub lay_does : (a : Links) (h t n p o : List ℕ) (r : ℕ) → Sizes a → Empties a.heads h t → Strings a.next n p o r → LaysOut a (links h t n p o) r
unfolding fresh
lay_does a h t n p o r z e s =
    record {
      is = rw (e.heads_is, e.tails_is, s.next_is, s.prev_is, s.home_is) refl;
      free_is = s.free_is;
      does = rw (e.heads_is, e.tails_is, s.next_is, s.prev_is, s.home_is) (fresh_rep (length a.heads) (length a.next) z.few z.small);
    }
