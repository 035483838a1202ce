-- The loop of `collect`: what it has reached, and what it answers where it stops.
use Prim.Native.Nat.{ℕ, ◌+◌, ◌≤◌, ◌<◌}
use mathlib.Core.Path.{◌≡◌, refl, sym, ap, subst, ◌∙◌}
use mathlib.Core.Bool.{Bool, true, false}
use mathlib.Core.List.{List, [], ◌∷◌, ◌++◌}
use native.Mathlib.Omega.{arith}
use lib.Dec.{ltb}
use lib.ListN.{length, take, drop, get_or, length-drop}
use borrow.Author.Tests.{lt-ltb, le-ltb}
use Rattle.lines.specs.Collecting.{Collects, Keeps, NextLine, line_end, line_there, passed, this_line}
use Rattle.std.proofs.Common.{Some, leb, leb-true, leb-false, max}
use Rattle.lines.specs.declared.collecting.Lines.{Lines}
use Rattle.lines.specs.declared.collecting.Collected.{Collected}
use Rattle.lines.proofs.Scans.{before_stop, before_on, before_end}
use Rattle.lines.proofs.Waiting.{held}

-- At index i of the block the buffer `line` holds n bytes; it was `line₀` and held `kept` at `from`. What is held and
-- what is still to come are what was held and what belongs to this line.
pub record Reached (block : List ℕ) (from : ℕ) (line₀ : List ℕ) (kept : ℕ) (line : List ℕ) (i n : ℕ) : Type 0 where
  pub on : from ≤ i
  pub long : length line ≡ length line₀
  pub holds : take (length line₀) (take n line ++ this_line block i) ≡ take (length line₀) (take kept line₀ ++ this_line block from)
  pub far : i + length (this_line block i) ≡ from + length (this_line block from)
  pub within : kept ≤ length line₀ → n ≤ length line₀

pub reached_first : (block : List ℕ) (from : ℕ) (line : List ℕ) (kept : ℕ) → Reached block from line kept line from kept
reached_first block from line kept = record { on = omega arith; long = refl; holds = refl; far = refl; within = λ h. h }

module _ (block : List ℕ) (from : ℕ) (line₀ : List ℕ) (kept : ℕ) (line : List ℕ) (i n : ℕ) (r : Reached block from line₀ kept line i n) where
  -- a byte that ends no line is kept
  pub reached_next : (buffer : List ℕ) (m : ℕ) → i < length block → (get_or block i 0 ≡ line_end → ⊥) → Keeps line n (get_or block i 0) buffer m
      → Reached block from line₀ kept buffer (i + 1) m
  reached_next buffer m h e k =
      let b : this_line block i ≡ get_or block i 0 ∷ this_line block (i + 1) = before_on line_end block i h e in
      record {
        on = omega (arith, r.on);
        long = k.long ∙ r.long;
        holds =
            ap (λ (w : ℕ). take w (take m buffer ++ this_line block (i + 1))) (sym r.long)
            ∙ k.holds (this_line block (i + 1))
            ∙ ap (λ (w : ℕ). take w (take n line ++ get_or block i 0 ∷ this_line block (i + 1))) r.long
            ∙ ap (λ (t : List ℕ). take (length line₀) (take n line ++ t)) (sym b)
            ∙ r.holds;
        far = omega (arith, r.far, ap length b);
        within = λ w. omega (arith, k.within (omega (arith, r.within w, r.long)), r.long);
      }

  stays : this_line block i ≡ [] → take n line ≡ take (length line₀) (take kept line₀ ++ this_line block from)
  stays e =
      sym (held line n)
      ∙ ap (λ (w : ℕ). take w (take n line ++ [])) r.long
      ∙ ap (λ (t : List ℕ). take (length line₀) (take n line ++ t)) (sym e)
      ∙ r.holds

  -- the line's end
  pub reached_end : i < length block → get_or block i 0 ≡ line_end → Collects block from line₀ kept line (record { next = i + 1; kept = n; ended = true })
  reached_end h e =
      let b : this_line block i ≡ [] = before_stop line_end block i h e in
      record {
        holds = stays b;
        goes = omega (arith, r.far, ap length b);
        ends = sym (lt-ltb (length (this_line block from)) (length (drop from block)) (omega (arith, r.far, r.on, ap length b, length-drop from block)));
        onward = λ w. omega (arith, r.on);
        within = λ w. omega (arith, r.within w, r.long);
      }

  -- the block's end
  pub reached_last : length block ≤ i → Collects block from line₀ kept line (record { next = i; kept = n; ended = false })
  reached_last h =
      let b : this_line block i ≡ [] = before_end line_end block i h in
      record {
        holds = stays b;
        goes = omega (arith, r.far, ap length b);
        ends = sym (le-ltb (length (this_line block from)) (length (drop from block)) (omega (arith, r.far, r.on, ap length b, length-drop from block)));
        onward = λ w. omega (arith, r.on);
        within = λ w. omega (arith, r.within w, r.long);
      }

  pub reached_stop : length block ≤ i → (from ≤ length block → i ≤ length block) → Collects block from line₀ kept line (record { next = max from (length block); kept = n; ended = false })
  reached_stop h w =
      subst (λ (m : ℕ). Collects block from line₀ kept line (record { next = m; kept = n; ended = false })) (same (leb from (length block)) refl) (reached_last h)
    where
      same : (b : Bool) → leb from (length block) ≡ b → i ≡ max from (length block)
      same true e = omega (arith, w (leb-true _ _ e))
      same false e =
          let out : length block < from = leb-false _ _ e in
          omega (arith, r.far, ap length (before_end line_end block i h), ap length (before_end line_end block from (omega arith)))

never : (t : Bool) → t ≡ false → t ≡ true → ⊥
never t p q = let z : ◌≡◌ {A = ℕ} 0 1 = cc in omega arith

module _ (s : Lines) (part line' : List ℕ) (c : Collected) (e : part ≡ take s.upto s.block) (k : Collects part s.from s.line 0 line' c) where
  -- the line ends in the block: it is the next line
  pub line_found : c.ended ≡ true → NextLine s (record { block = s.block; from = c.next; upto = s.upto; line = line'; held = Some c.kept })
  line_found h =
      record {
        taken = λ w. (c.kept, refl, subst (λ (b : List ℕ). Collects b s.from s.line 0 line' (record { next = c.next; kept = c.kept; ended = true })) e ends_so);
        unmoved = λ w. (refl, refl);
      }
    where
      ends_so : Collects part s.from s.line 0 line' (record { next = c.next; kept = c.kept; ended = true })
      ends_so =
          record {
            holds = k.holds;
            goes = k.goes ∙ ap (λ (t : Bool). s.from + length (this_line part s.from) + passed t) h;
            ends = sym h ∙ k.ends;
            onward = k.onward;
            within = k.within;
          }

  -- it does not: there is no line end in the block
  pub line_not_there : c.ended ≡ false → (r : Lines) → NextLine s r
  line_not_there h r =
      record {
        taken = λ w. absurd (never (line_there s) (there ∙ h) w);
        unmoved = λ w. absurd (never (line_there s) (there ∙ h) w);
      }
    where
      there : line_there s ≡ c.ended
      there = ap (λ (b : List ℕ). ltb (length (this_line b s.from)) (length (drop s.from b))) (sym e) ∙ sym k.ends
