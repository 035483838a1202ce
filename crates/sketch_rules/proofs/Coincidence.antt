-- Two results that meet the promise of a public call coincide: the answer, and every word of the lent table.
use mathlib.Core.Path.{◌≡◌, sym, ap, ◌∙◌}
use mathlib.Core.List.{List, [], ◌∷◌}
use Prim.Native.Nat.{ℕ}
use native.Mathlib.Omega.{arith}
use lib.ListN.{length, get_or}
use Rattle.numbers.specs.Shared.{Reply as Answer}
use Rattle.sketch_rules.specs.declared.Sketch.{Sketch}
use Rattle.std.specs.Prelude.{Result, Ok, Err}
use Rattle.numbers.specs.declared.refusals.Refusal.{Refusal}
use Rattle.numbers.proofs.Numbered.{number_once}
use Rattle.sketch_rules.specs.Sketch.{word_index, fields, unused_sketch, sketch_says, estimated_says, Ensures, Estimates, Increases}

-- ---- an answer's number and values leave one answer

values_of : {a b : Answer} → a ≡ b → a.values ≡ b.values
values_of e = ap (λ (x : Answer). x.values) e

-- a record is its three values
pub same_sketch : (s u : Sketch) → fields s ≡ fields u → s ≡ u
same_sketch s u e =
    λ i.
    record {
      used = ap (λ (l : List ℕ). get_or l 0 0) e i;
      sample = ap (λ (l : List ℕ). get_or l 1 0) e i;
      size = ap (λ (l : List ℕ). get_or l 2 0) e i;
    }

-- an answer with a value is no refusal
pub no_values : (x : ℕ) (xs : List ℕ) → (x ∷ xs) ≡ [] → ⊥
no_values x xs e = omega (arith, ap length e)

sketch_only : (r u : Result Sketch Refusal) → sketch_says r ≡ sketch_says u → r ≡ u
sketch_only (Ok s) (Ok t) e = ap Ok (same_sketch s t (values_of e))
sketch_only (Ok s) (Err n) e = absurd (no_values _ _ (values_of e))
sketch_only (Err n) (Ok s) e = absurd (no_values _ _ (sym (values_of e)))
sketch_only (Err n) (Err m) e = ap Err (number_once n m (ap (λ (x : Answer). x.number) e))

estimated_only : (r u : Result ℕ Refusal) → estimated_says r ≡ estimated_says u → r ≡ u
estimated_only (Ok k) (Ok j) e = ap (λ (x : Answer). Ok (get_or x.values 0 0)) e
estimated_only (Ok k) (Err n) e = absurd (no_values _ _ (values_of e))
estimated_only (Err n) (Ok k) e = absurd (no_values _ _ (sym (values_of e)))
estimated_only (Err n) (Err m) e = ap Err (number_once n m (ap (λ (x : Answer). x.number) e))

-- ---- the calls

pub unused_coincides : (r u : Sketch) → r ≡ unused_sketch → u ≡ unused_sketch → r ≡ u
unused_coincides r u p q = p ∙ sym q

pub ensure_coincides : (t : List ℕ) (s : Sketch) (capacity : ℕ) (r u : Result Sketch Refusal) (a b : List ℕ)
    → Ensures t s capacity r a → Ensures t s capacity u b → (r ≡ u) × (a ≡ b)
ensure_coincides t s capacity r u a b p q = (sketch_only r u (p.says ∙ sym q.says), p.table ∙ sym q.table)

pub estimate_coincides : (t : List ℕ) (s : Sketch) (hash : ℕ) (r u : Result ℕ Refusal) → Estimates t s hash r → Estimates t s hash u → r ≡ u
estimate_coincides t s hash r u p q = estimated_only r u (p.says ∙ sym q.says)

pub increase_coincides : (t : List ℕ) (s : Sketch) (hash : ℕ) (r u : Result Sketch Refusal) (a b : List ℕ)
    → Increases t s hash r a → Increases t s hash u b → (r ≡ u) × (a ≡ b)
increase_coincides t s hash r u a b p q = (sketch_only r u (p.says ∙ sym q.says), p.table ∙ sym q.table)

-- the host's function
pub word_index_coincides : (hash depth mask r u : ℕ) → r ≡ word_index hash depth mask → u ≡ word_index hash depth mask → r ≡ u
word_index_coincides hash depth mask r u p q = p ∙ sym q
