-- Why each way out of `sound` is right.
use Prim.Native.Nat.{ℕ, ◌+◌, ◌≤◌, ◌<◌}
use mathlib.Core.Path.{◌≡◌, sym, ◌∙◌}
use mathlib.Core.Logic.{⊎_elim}
use mathlib.Core.Bool.{Bool, true, false, false≢true, not}
use lib.ListN.{length}
use lib.Dec.{eqb}
use borrow.Author.Tests.{eq-eqb, eqb-true, not-true}
use Rattle.numbers.specs.Shared.{no_slot as none}
use Rattle.deque_rules.specs.Links.{Links, Whole}
use Rattle.deque_rules.specs.Sound.{Verdict, Sized, Walked, WalkedFree}
use Rattle.numbers.proofs.Cases.{same?}
use Rattle.deque_rules.proofs.Judging.{Upto, whole_sizes, no_walk, no_walk_free, too_few, is_whole}

module _ (a : Links) where
  module _ (free : ℕ) where
    nay : (Whole a free → ⊥) → Verdict a free false
    nay n = record { sound = λ e. absurd (false≢true e); complete = λ w. absurd (n w) }

    pub not_sized : (r : Bool) → Sized a r → not r ≡ true → Verdict a free false
    not_sized r z e = nay (λ w. false≢true (sym (not-true r e) ∙ z.complete (whole_sizes a free w)))

    pub fails : (d total c : ℕ) → Upto a d total → d < length a.heads → Walked a d c → none < c → Verdict a free false
    fails d total c u h k l = nay (no_walk a free d c h k l)

    pub fails_free : (c : ℕ) → WalkedFree a.next a.home free c → none < c → Verdict a free false
    fails_free c k l = nay (no_walk_free a free c k l)

    pub counts : (d total c : ℕ) → Upto a d total → length a.heads ≤ d → WalkedFree a.next a.home free c → c ≤ none → Verdict a free
        (eqb (total + c) (length a.next))
    counts d total c u h k l =
        record {
          sound = λ e. is_whole a free d total c u h k l (eqb-true (total + c) (length a.next) e);
          complete = λ w. ⊎_elim (λ e. eq-eqb (total + c) (length a.next) e)
              (λ (n : total + c ≡ length a.next → ⊥). absurd (too_few a free d total c u h k l n w)) (same? (total + c) (length a.next));
        }

-- the laws of the ways out of the loop, and after it
pub ruleset exits = (not_sized, fails, fails_free, counts)
