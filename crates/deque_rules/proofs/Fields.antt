-- What the calls write, record by record: homes, and a slot that is alone in its deque; the records laid out.
use Prim.Native.Nat.{ℕ, ◌≤◌}
use native.Mathlib.Omega.{arith}
use mathlib.Core.Path.{◌≡◌, refl, ◌∙◌}
use mathlib.Core.Bool.{Bool, true, false, cond}
use lib.ListN.{length, get_or, set, length-set, replicate}
use lib.Seq.{set_out}
use lib.Dec.{eqb}
use borrow.Author.Tests.{eq-eqb}
use Rattle.deque_rules.specs.Links.{Path, Links, hand_back, link_back, cut_out, removed, move_back, fresh}
use Rattle.numbers.specs.Shared.{no_slot as none, up_from}
use Rattle.deque_rules.specs.Change.{turn_now, turn_to}
use Rattle.numbers.proofs.Counting.{length_up}
use Rattle.deque_rules.proofs.Arrays.{length_end_at}
use Rattle.deque_rules.proofs.Laying.{length_nexts, path_up}

-- ---- homes
pub home_removed : (a : Links) (free s : ℕ) → (removed a free s).home ≡ set a.home s none
unfolding removed hand_back cut_out
home_removed a free s = refl

module _ (a : Links) (d s : ℕ) where
  pub home_linked : (link_back a d s).home ≡ set a.home s d
  unfolding link_back
  home_linked = refl

  pub home_moved : (move_back a d s).home ≡ set (set a.home s none) s d
  unfolding move_back link_back cut_out
  home_moved = refl

  pub home_turned : (turn_to a d s).home ≡ a.home
  unfolding turn_to
  home_turned = go (eqb (get_or a.next s 0) none)
    where
      go : (b : Bool) → (cond b a (turn_now a d s (get_or a.next s 0))).home ≡ a.home
      go true = refl
      go false = refl

  -- ---- s at the back of the deque d: lengths stay, and it is the tail
  pub heads_long : length (link_back a d s).heads ≡ length a.heads
  unfolding link_back
  heads_long = length_end_at a.heads d (get_or a.tails d 0) s

  pub next_long : length (link_back a d s).next ≡ length a.next
  unfolding link_back
  next_long = simp length-set

  pub tails_linked : (link_back a d s).tails ≡ set a.tails d s
  unfolding link_back
  tails_linked = refl

  pub prev_linked : (link_back a d s).prev ≡ set a.prev s (get_or a.tails d 0)
  unfolding link_back
  prev_linked = refl

  -- where the deque was empty, s is its head too, and nothing follows it
  module _ (e : get_or a.tails d 0 ≡ none) where
    pub heads_alone : (link_back a d s).heads ≡ set a.heads d s
    unfolding link_back
    heads_alone = simp (eq-eqb (get_or a.tails d 0) none e)

    pub next_alone : length a.next ≤ none → (link_back a d s).next ≡ set a.next s none
    unfolding link_back
    next_alone l = rw e (set_out (set a.next s none) none s (simp length-set (omega arith)))

-- ---- laid out: no ends, no homes, each slot followed by the one above it
module _ (c n : ℕ) where
  pub fresh_heads : (fresh c n).heads ≡ replicate c none
  unfolding fresh
  fresh_heads = refl

  pub fresh_tails : (fresh c n).tails ≡ replicate c none
  unfolding fresh
  fresh_tails = refl

  pub fresh_prev : (fresh c n).prev ≡ replicate n none
  unfolding fresh
  fresh_prev = refl

  pub fresh_home : (fresh c n).home ≡ replicate n none
  unfolding fresh
  fresh_home = refl

  pub fresh_next_len : length (fresh c n).next ≡ n
  unfolding fresh
  fresh_next_len = length_nexts (up_from n 0) ∙ length_up n 0

  pub fresh_chained : Path (λ (x : ℕ). get_or (fresh c n).next x 0) (up_from n 0)
  unfolding fresh
  fresh_chained = path_up n n 0 (omega arith)
