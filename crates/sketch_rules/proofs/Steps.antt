-- A call that meets its promise is the step of a history: what the caller holds afterwards is what `step` gives.
use mathlib.Core.Path.{◌≡◌, refl, sym, ap, ◌∙◌}
use mathlib.Core.Bool.{Bool, true, false, cond}
use mathlib.Core.List.{List}
use Prim.Native.Nat.{ℕ}
use lib.Dec.{eqb}
use Rattle.numbers.specs.Shared.{Reply as Answer, replied as answered, refused_by as refused}
use Rattle.sketch_rules.specs.declared.Sketch.{Sketch}
use Rattle.std.specs.Prelude.{Result, Ok, Err}
use Rattle.numbers.specs.declared.refusals.Refusal.{Refusal}
use Rattle.sketch_rules.specs.Sketch.{increased_table, increased_sketch, fields, sketch_says, ensure_refusal, ensured_table, ensured_sketch}
use Rattle.sketch_rules.specs.Sketch.{Ensures, standing, Increases, ensure_capacity, increase_hash, Holding as Held, sketch_after as step}
use Rattle.sketch_rules.proofs.Coincidence.{same_sketch, no_values}

-- the record that a caller goes on with: the one that was handed back, and after a refusal its own
abbrev pub holds : Sketch → Result Sketch Refusal → Sketch
holds s (Ok u) = u
holds s (Err why) = s

abbrev held : List ℕ → Sketch → Held
held t s = record { table = t; sketch = s }

sketch_lem : (s next : Sketch) (r : Result Sketch Refusal) (b : Bool) (n : ℕ) → sketch_says r ≡ cond b (answered (fields next)) (refused n)
    → holds s r ≡ cond b next s
sketch_lem s next (Ok u) true n e = same_sketch u next (ap (λ (x : Answer). x.values) e)
sketch_lem s next (Ok u) false n e = absurd (no_values _ _ (ap (λ (x : Answer). x.values) e))
sketch_lem s next (Err m) true n e = absurd (no_values _ _ (sym (ap (λ (x : Answer). x.values) e)))
sketch_lem s next (Err m) false n e = refl

-- the table and the record, each kept or new, are what is held
joined : (t new : List ℕ) (s next : Sketch) (b : Bool) → held (cond b new t) (cond b next s) ≡ cond b (held new next) (held t s)
joined t new s next true = refl
joined t new s next false = refl

pub ensure_steps : (t : List ℕ) (s : Sketch) (capacity : ℕ) (r : Result Sketch Refusal) (after : List ℕ) → Ensures t s capacity r after
    → held after (holds s r) ≡ step (held t s) (ensure_capacity capacity)
ensure_steps t s capacity r after p =
    let b = eqb (ensure_refusal t s capacity) 0 in
    (λ i. held (p.table i) (sketch_lem s (ensured_sketch s capacity) r b (ensure_refusal t s capacity) p.says i))
    ∙ joined t (ensured_table t s capacity) s (ensured_sketch s capacity) b

pub increase_steps : (t : List ℕ) (s : Sketch) (hash : ℕ) (r : Result Sketch Refusal) (after : List ℕ) → Increases t s hash r after
    → held after (holds s r) ≡ step (held t s) (increase_hash hash)
increase_steps t s hash r after p =
    let b = eqb (standing t s) 0 in
    (λ i. held (p.table i) (sketch_lem s (increased_sketch t s hash) r b (standing t s) p.says i))
    ∙ joined t (increased_table t s hash) s (increased_sketch t s hash) b
