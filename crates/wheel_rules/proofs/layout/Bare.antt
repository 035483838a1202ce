-- The records that enabling lays out, field by field: D buckets over n slots, with the sentinel b alone in the bucket b
-- for b below D, and the other slots free.
--     bare_heads, bare_tails                      each bucket's own number
--     bare_next_at, bare_prev_at, bare_home_at    the links of the slot i
--     bare_lays                                   they are what `lay_out` makes, whoever wrote them
use Prim.Native.Nat.{ℕ, zero, suc, ◌+◌, ◌≤◌, ◌<◌}
use native.Mathlib.Omega.{arith}
use mathlib.Core.Path.{◌≡◌, refl, sym, ap, subst, ◌∙◌}
use mathlib.Core.Logic.{⊎_elim}
use mathlib.Core.Bool.{true, cond}
use mathlib.Core.List.{List, []}
use lib.ListN.{length, get_or, set, length-set, length-replicate, get_or-replicate}
use lib.Seq.{get_or-set_same, get_or-set_other, ext_get_or}
use lib.Dec.{ltb}
use borrow.Author.Tests.{lt-ltb, le-ltb}
use Rattle.deque_rules.specs.Links.{Path, first, Links, Rep, fresh}
use Rattle.numbers.specs.Shared.{no_slot as none, up_from}
use Rattle.deque_rules.specs.Lists.{all_free}
use Rattle.deque_rules.proofs.Laws.{push_rep, fresh_rep, home_linked, heads_long, next_long, tails_linked, prev_linked, heads_alone, next_alone}
use Rattle.deque_rules.proofs.Laws.{fresh_heads, fresh_tails, fresh_prev, fresh_home, fresh_next_len, fresh_chained}
use Rattle.numbers.proofs.Counting.{length_up}
use Rattle.rules.specs.Places.{wheel01, buckets}
use Rattle.rules.specs.Wheel.{enable}
use Rattle.rules.specs.Calls.{act}
use Rattle.numbers.proofs.Cases.{below?, same?}
use Rattle.wheel_rules.specs.declared.calls.Clock.{Clock}
use Rattle.wheel_rules.specs.Lent.{Nodes, Entries, records, Shows}
use Rattle.wheel_rules.specs.Promise.{bare_entries}
use Rattle.wheel_rules.specs.layout.Layout.{seated, bare_links, bare_nodes, enabled_with, seated_lists, LayReady, Lays}
use Rattle.wheel_rules.proofs.layout.Seating.{counts, slots, first_is, bare_shows}

-- ---- numbers upwards
up_at : (k i j : ℕ) → j < k → get_or (up_from k i) j 0 ≡ i + j
up_at zero i j h = absurd (omega arith)
up_at (suc k) i zero h = omega arith
up_at (suc k) i (suc j) h = let e : suc i + j ≡ i + suc j = omega arith in up_at k (suc i) j (omega arith) ∙ e

-- a list of numbers that has at each place its own number
pub numbered : (l : List ℕ) (n : ℕ) → length l ≡ n → ((i : ℕ) → i < n → get_or l i 0 ≡ i) → l ≡ up_from n 0
numbered l n e h =
    ext_get_or 0 l (up_from n 0) (e ∙ sym (length_up n 0))
    (λ i k. let k' : i < n = omega (arith, k, e) in let z : 0 + i ≡ i = omega arith in h i k' ∙ sym (up_at n 0 i k' ∙ z))

-- where the free chain goes from its j-th slot: to the one above, and from the last to none
path_in : (f : ℕ → ℕ) (k i j : ℕ) → Path f (up_from k i) → suc j < k → f (i + j) ≡ suc (i + j)
path_in f zero i j p h = absurd (omega arith)
path_in f (suc zero) i j p h = absurd (omega arith)
path_in f (suc (suc k)) i zero p h = let e : i + 0 ≡ i = omega arith in ap f e ∙ p.0 ∙ ap suc (sym e)
path_in f (suc (suc k)) i (suc j) p h = let e : i + suc j ≡ suc i + j = omega arith in rw e (path_in f (suc k) (suc i) j p.1 (omega arith))

path_last : (f : ℕ → ℕ) (i j : ℕ) → Path f (up_from (suc j) i) → f (i + j) ≡ none
path_last f i zero p = let e : i + 0 ≡ i = omega arith in ap f e ∙ p.0
path_last f i (suc j) p = let e : i + suc j ≡ suc i + j = omega arith in rw e (path_last f (suc i) j p.1)

path_at : (f : ℕ → ℕ) (n i : ℕ) → Path f (up_from n 0) → i < n → f i ≡ cond (ltb (suc i) n) (suc i) none
path_at f n i p l =
    let z : 0 + i ≡ i = omega arith in
    ⊎_elim
    (λ (h : suc i < n). rw (lt-ltb (suc i) n h) (ap f (sym z) ∙ path_in f n 0 i p h ∙ ap suc z))
    (λ (h : n ≤ suc i).
    let e : n ≡ suc i = omega arith in
    rw (le-ltb (suc i) n h) (ap f (sym z) ∙ path_last f 0 i (subst (λ (k : ℕ). Path f (up_from k 0)) e p)))
    (below? (suc i) n)

at : {l m : List ℕ} (i : ℕ) → l ≡ m → get_or l i 0 ≡ get_or m i 0
at i e = ap (λ (l : List ℕ). get_or l i 0) e

-- ---- the sentinels below k are linked
module _ (D n : ℕ) where
  abbrev Bare : ℕ → Links
  Bare k = seated k (fresh D n)

  heads_length : (k : ℕ) → length (Bare k).heads ≡ D
  heads_length zero = ap length (fresh_heads D n) ∙ length-replicate D none
  heads_length (suc k) = heads_long (Bare k) k k ∙ heads_length k

  tails_length : (k : ℕ) → length (Bare k).tails ≡ D
  tails_length zero = ap length (fresh_tails D n) ∙ length-replicate D none
  tails_length (suc k) = ap length (tails_linked (Bare k) k k) ∙ length-set (Bare k).tails k k ∙ tails_length k

  -- a bucket that is still empty has no tail
  tail_none : (k b : ℕ) → k ≤ b → b < D → get_or (Bare k).tails b 0 ≡ none
  tail_none zero b h l = at b (fresh_tails D n) ∙ get_or-replicate D b none 0 l
  tail_none (suc k) b h l =
      at b (tails_linked (Bare k) k k) ∙ get_or-set_other (Bare k).tails k b k 0 (λ e. omega arith) ∙ tail_none k b (omega arith) l

  tail_is : (k b : ℕ) → k ≤ D → b < k → get_or (Bare k).tails b 0 ≡ b
  tail_is zero b h l = absurd (omega arith)
  tail_is (suc k) b h l =
      at b (tails_linked (Bare k) k k)
      ∙ ⊎_elim
      (λ (e : b ≡ k). rw e (get_or-set_same (Bare k).tails k k 0 (omega (arith, tails_length k))))
      (λ (ne : b ≡ k → ⊥). get_or-set_other (Bare k).tails k b k 0 ne ∙ tail_is k b (omega arith) (omega (arith, ne)))
      (same? b k)

  -- so its head is written
  head_is : (k b : ℕ) → k ≤ D → b < k → get_or (Bare k).heads b 0 ≡ b
  head_is zero b h l = absurd (omega arith)
  head_is (suc k) b h l =
      at b (heads_alone (Bare k) k k (tail_none k k (omega arith) (omega arith)))
      ∙ ⊎_elim
      (λ (e : b ≡ k). rw e (get_or-set_same (Bare k).heads k k 0 (omega (arith, heads_length k))))
      (λ (ne : b ≡ k → ⊥). get_or-set_other (Bare k).heads k b k 0 ne ∙ head_is k b (omega arith) (omega (arith, ne)))
      (same? b k)

  pub bare_heads : (bare_links D n).heads ≡ up_from D 0
  bare_heads = numbered (Bare D).heads D (heads_length D) (λ i h. head_is D i (omega arith) h)

  pub bare_tails : (bare_links D n).tails ≡ up_from D 0
  bare_tails = numbered (Bare D).tails D (tails_length D) (λ i h. tail_is D i (omega arith) h)

  -- ---- the slots
  next_length : (k : ℕ) → length (Bare k).next ≡ n
  next_length zero = fresh_next_len D n
  next_length (suc k) = next_long (Bare k) k k ∙ next_length k

  prev_length : (k : ℕ) → length (Bare k).prev ≡ n
  prev_length zero = ap length (fresh_prev D n) ∙ length-replicate n none
  prev_length (suc k) = ap length (prev_linked (Bare k) k k) ∙ length-set (Bare k).prev k (get_or (Bare k).tails k 0) ∙ prev_length k

  home_length : (k : ℕ) → length (Bare k).home ≡ n
  home_length zero = ap length (fresh_home D n) ∙ length-replicate n none
  home_length (suc k) = ap length (home_linked (Bare k) k k) ∙ length-set (Bare k).home k k ∙ home_length k

  prev_is : (k i : ℕ) → k ≤ D → i < n → get_or (Bare k).prev i 0 ≡ none
  prev_is zero i h l = at i (fresh_prev D n) ∙ get_or-replicate n i none 0 l
  prev_is (suc k) i h l =
      at i (prev_linked (Bare k) k k)
      ∙ ⊎_elim
      (λ (e : i ≡ k).
      rw e (get_or-set_same (Bare k).prev k (get_or (Bare k).tails k 0) 0 (omega (arith, prev_length k, e)) ∙ tail_none k k (omega arith) (omega arith)))
      (λ (ne : i ≡ k → ⊥). get_or-set_other (Bare k).prev k i (get_or (Bare k).tails k 0) 0 ne ∙ prev_is k i (omega arith) l)
      (same? i k)

  home_none : (k i : ℕ) → k ≤ i → i < n → get_or (Bare k).home i 0 ≡ none
  home_none zero i h l = at i (fresh_home D n) ∙ get_or-replicate n i none 0 l
  home_none (suc k) i h l = at i (home_linked (Bare k) k k) ∙ get_or-set_other (Bare k).home k i k 0 (λ e. omega arith) ∙ home_none k i (omega arith) l

  home_is : (k i : ℕ) → i < k → i < n → get_or (Bare k).home i 0 ≡ i
  home_is zero i h l = absurd (omega arith)
  home_is (suc k) i h l =
      at i (home_linked (Bare k) k k)
      ∙ ⊎_elim
      (λ (e : i ≡ k). rw e (get_or-set_same (Bare k).home k k 0 (omega (arith, home_length k, e))))
      (λ (ne : i ≡ k → ⊥). get_or-set_other (Bare k).home k i k 0 ne ∙ home_is k i (omega (arith, ne)) l)
      (same? i k)

  module _ (small : n ≤ none) where
    -- an empty bucket's sentinel is followed by none
    beside : (k i : ℕ) → k < D → get_or (Bare (suc k)).next i 0 ≡ get_or (set (Bare k).next k none) i 0
    beside k i h = at i (next_alone (Bare k) k k (tail_none k k (omega arith) h) (omega (arith, next_length k, small)))

    next_none : (k i : ℕ) → k ≤ D → i < k → i < n → get_or (Bare k).next i 0 ≡ none
    next_none zero i h j l = absurd (omega arith)
    next_none (suc k) i h j l =
        beside k i (omega arith)
        ∙ ⊎_elim
        (λ (e : i ≡ k). rw e (get_or-set_same (Bare k).next k none 0 (omega (arith, next_length k, e))))
        (λ (ne : i ≡ k → ⊥). get_or-set_other (Bare k).next k i none 0 ne ∙ next_none k i (omega arith) (omega (arith, ne)) l)
        (same? i k)

    next_is : (k i : ℕ) → k ≤ D → k ≤ i → i < n → get_or (Bare k).next i 0 ≡ cond (ltb (suc i) n) (suc i) none
    next_is zero i h j l = path_at (λ (x : ℕ). get_or (fresh D n).next x 0) n i (fresh_chained D n) l
    next_is (suc k) i h j l =
        beside k i (omega arith) ∙ get_or-set_other (Bare k).next k i none 0 (λ e. omega arith) ∙ next_is k i (omega arith) (omega arith) l

    pub bare_next_len : length (bare_links D n).next ≡ n
    bare_next_len = next_length D

    pub bare_next_at : (i : ℕ) → i < n → get_or (bare_links D n).next i 0 ≡ cond (ltb i D) none (cond (ltb (suc i) n) (suc i) none)
    bare_next_at i l =
        ⊎_elim
        (λ (h : i < D). rw (lt-ltb i D h) (next_none D i (omega arith) h l))
        (λ (h : D ≤ i). rw (le-ltb i D h) (next_is D i (omega arith) h l))
        (below? i D)

  pub bare_prev_len : length (bare_links D n).prev ≡ n
  bare_prev_len = prev_length D

  pub bare_prev_at : (i : ℕ) → i < n → get_or (bare_links D n).prev i 0 ≡ none
  bare_prev_at i l = prev_is D i (omega arith) l

  pub bare_home_len : length (bare_links D n).home ≡ n
  bare_home_len = home_length D

  pub bare_home_at : (i : ℕ) → i < n → get_or (bare_links D n).home i 0 ≡ cond (ltb i D) i none
  bare_home_at i l =
      ⊎_elim (λ (h : i < D). rw (lt-ltb i D h) (home_is D i h l)) (λ (h : D ≤ i). rw (le-ltb i D h) (home_none D i h l)) (below? i D)

  -- ---- the lists that they stand for
  module _ (room : D < n) (small : n ≤ none) where
    seats : (k : ℕ) → k ≤ D → Rep (Bare k) (seated_lists k (all_free D n)) []
    seats zero h = fresh_rep D n (omega arith) small
    seats (suc k) h =
        (push_rep (Bare k) (seated_lists k (all_free D n)) k k (seats k (omega arith)) (ap first (first_is D n k (omega arith)))
        (omega (arith, slots D n k)) (omega (arith, counts D n k))).0

    pub bare_rep : Rep (bare_links D n) (seated_lists D (all_free D n)) []
    bare_rep = seats D (omega arith)

pub bare_lays : (N : Nodes) (E : Entries) (c : Clock) → LayReady wheel01 N E
    → Lays wheel01 N E c (bare_nodes (length N.links.heads) (length N.links.next)) (bare_entries (length E.dated))
    (enabled_with (length N.links.heads) (length N.links.next) (length E.dated) c)
bare_lays N E c y =
    let B : ℕ = buckets wheel01 in
    let m : ℕ = length N.links.next in
    let k : ℕ = length E.dated in
    record {
      nodes_are = refl;
      entries_are = refl;
      clock_is = refl;
      does = λ w er es.
          let room : B < m = omega (arith, y.seat.room, y.heads_len) in
          subst (λ (D : ℕ). Shows wheel01 (records (bare_nodes D m) (bare_entries k) (enabled_with D m k c)) (act wheel01 w (enable m k true)).1) (sym y.heads_len)
          (bare_shows wheel01 (bare_links B m) m k c w (bare_rep B m room y.seat.sizes.small) room er es);
    }
