-- The loop of `seat_ends`, and what `lay_out_around` leaves.
use Prim.Native.Nat.{ℕ, ◌+◌, ◌≤◌, ◌<◌}
use native.Mathlib.Omega.{arith}
use mathlib.Core.Path.{◌≡◌, refl, sym, ◌∙◌}
use mathlib.Core.Logic.{⊎_elim}
use mathlib.Core.Bool.{Bool}
use mathlib.Core.List.{List}
use lib.ListN.{length, get_or, set, length-set}
use lib.Seq.{get_or-set_same, get_or-set_other}
use Rattle.numbers.proofs.Cases.{same?}
use Rattle.wheel_rules.specs.declared.calls.Clock.{Clock}
use Rattle.wheel_rules.specs.Lent.{entries}
use Rattle.wheel_rules.specs.layout.Layout.{ClearsEntries, enabled_with}
use Rattle.wheel_rules.specs.layout.Around.{SeatsEnds, LaysAround}
use Rattle.wheel_rules.proofs.layout.Bare.{numbered, bare_heads, bare_tails}

-- ---- of the list l₀ the first b places hold their own numbers
pub record Numbered (l₀ l : List ℕ) (b : ℕ) : Type 0 where
  pub len : length l ≡ length l₀
  pub own : (i : ℕ) → i < b → get_or l i 0 ≡ i

more : (l₀ l : List ℕ) (b : ℕ) → b < length l₀ → Numbered l₀ l b → Numbered l₀ (set l b b) (b + 1)
more l₀ l b h f =
    record {
      len = length-set l b b ∙ f.len;
      own = λ i k.
          ⊎_elim
          (λ (e : i ≡ b). rw e (get_or-set_same l b b 0 (omega (arith, f.len))))
          (λ (n : i ≡ b → ⊥). get_or-set_other l b i b 0 n ∙ f.own i (omega (arith, n)))
          (same? i b);
    }

pub record SeatingEnds (h₀ t₀ h t : List ℕ) (b : ℕ) : Type 0 where
  pub heads : Numbered h₀ h b
  pub tails : Numbered t₀ t b

pub ends_begin : (h t : List ℕ) → SeatingEnds h t h t 0
ends_begin h t = record { heads = record { len = refl; own = λ i k. absurd (omega arith) }; tails = record { len = refl; own = λ i k. absurd (omega arith) } }

pub ends_again : (h₀ t₀ h t : List ℕ) (b : ℕ) → length t₀ ≡ length h₀ → SeatingEnds h₀ t₀ h t b → b < length h → SeatingEnds h₀ t₀ (set h b b) (set t b b)
    (b + 1)
ends_again h₀ t₀ h t b e s k =
    let l : b < length h₀ = omega (arith, s.heads.len) in
    record { heads = more h₀ h b l s.heads; tails = more t₀ t b (omega (arith, e)) s.tails }

pub ends_end : (h₀ t₀ h t : List ℕ) (b : ℕ) → length t₀ ≡ length h₀ → SeatingEnds h₀ t₀ h t b → length h ≤ b → SeatsEnds h₀ h t
ends_end h₀ t₀ h t b e s k =
    let l : length h₀ ≤ b = omega (arith, s.heads.len) in
    record {
      heads_is = numbered h (length h₀) s.heads.len (λ i j. s.heads.own i (omega arith));
      tails_is = numbered t (length h₀) (s.tails.len ∙ e) (λ i j. s.tails.own i (omega arith));
    }

-- ---- lay_out_around
pub laid_around : (h t h' t' : List ℕ) (d : List Bool) (l g : List ℕ) (d' : List Bool) (l' g' : List ℕ) (n : ℕ) (c c' : Clock)
    → c' ≡ enabled_with (length h) n (length d) c → SeatsEnds h h' t' → ClearsEntries d l g d' l' g'
    → LaysAround h t (entries d l g) n c h' t' (entries d' l' g') c'
laid_around h t h' t' d l g d' l' g' n c c' ec s ce =
    record {
      heads_are = s.heads_is ∙ sym (bare_heads (length h) n);
      tails_are = s.tails_is ∙ sym (bare_tails (length h) n);
      entries_are = rw (ce.dated_is, ce.deadline_is, ce.generation_is) refl;
      clock_is = ec;
    }
