-- The frequency sketch, as 01 tells it: a word as sixteen counters, the four counters of a hash, aging, soundness, and
-- the promises of its calls.
use Rattle.std.specs.Prelude.{ℕ, ◌/◌, ◌%◌, ◌^◌, zero, suc, ◌+◌, ◌*◌, min, ◌-◌, cond, ◌&&◌, Bool, ◌||◌, not, List, []}
use Rattle.std.specs.Prelude.{◌∷◌, ◌++◌, ◌≡◌, ltb, leb, eqb, get_or, set, length, replicate, drop}
use Rattle.numbers.specs.Shared.{is_power_to, power_for, Reply, replied, refused_by, row, refusal, reply, unless_refused}
use Rattle.std.specs.Prelude.{Result, Ok, Err}
use Rattle.numbers.specs.Refusals.{number_of}
use Rattle.numbers.specs.declared.refusals.Refusal.{Refusal}
use Rattle.sketch_rules.specs.declared.Sketch.{Sketch}

-- ======== a word as sixteen counters of four bits

-- "four bits, lowest first": counter k of a word
unfoldable pub counter : ℕ → ℕ → ℕ
counter w k = w / 16 ^ k % 16

-- the word whose n counters are f 0, f 1, .. f (n - 1)
unfoldable pub word : ℕ → (ℕ → ℕ) → ℕ
word zero f = 0
word (suc n) f = word n (λ k. f (suc k)) * 16 + f 0

-- f 0 + f 1 + .. + f (n - 1)
unfoldable pub sum_to : ℕ → (ℕ → ℕ) → ℕ
sum_to zero f = 0
sum_to (suc n) f = sum_to n (λ k. f (suc k)) + f 0

-- "adds 1 to each of the four below 15": the word after 1 was added to counter k, where that is below 15
unfoldable pub raised : ℕ → ℕ → ℕ
unfolding counter
raised w k = cond (ltb (counter w k) 15) (w + 16 ^ k) w

-- "every counter becomes its half, rounded down": all sixteen at once
unfoldable pub halved : ℕ → ℕ
unfolding counter word
halved w = word 16 (λ k. counter w k / 2)

-- "odd counters": how many of the sixteen are odd
unfoldable pub odds : ℕ → ℕ
unfolding counter sum_to
odds w = sum_to 16 (λ k. counter w k % 2)

-- ======== tables

-- "At the sample size every counter becomes its half": of the first n words; the words beyond them stay
unfoldable pub halved_to : ℕ → List ℕ → List ℕ
halved_to zero t = t
halved_to (suc n) [] = []
halved_to (suc n) (w ∷ t) = halved w ∷ halved_to n t

-- "odd counters": of the first n words
unfoldable pub odds_to : ℕ → List ℕ → ℕ
odds_to zero t = 0
odds_to (suc n) [] = 0
odds_to (suc n) (w ∷ t) = odds w + odds_to n t

-- ======== the word and the counter of a hash at a depth

-- "S = c3a5c85c97cb3127, b492b66fbe98f273, 9ae16a3b2f90404f, cbf29ce484222325 (hex)"
abbrev pub seed : ℕ → ℕ
seed i = get_or (0xc3a5_c85c_97cb_3127 ∷ 0xb492_b66f_be98_f273 ∷ 0x9ae1_6a3b_2f90_404f ∷ 0xcbf2_9ce4_8422_2325 ∷ []) i 0

-- "x = (hash + S_i) x S_i .. modulo 2^64"
unfoldable pub product : ℕ → ℕ → ℕ
product hash s = (hash + s) * s % 2 ^ 64

-- "then x + floor(x / 2^32), all modulo 2^64"
unfoldable pub folded : ℕ → ℕ
folded x = (x + x / 2 ^ 32) % 2 ^ 64

-- "Depth i: .., modulo the table length": the word of a hash at depth i in a table of n words
unfoldable pub word_at : ℕ → ℕ → ℕ → ℕ
word_at hash i n = folded (product hash (seed i)) % n

-- "The counter in that word is 4 x (hash mod 4) + i"
abbrev pub counter_of : ℕ → ℕ → ℕ
counter_of hash i = 4 * (hash % 4) + i

-- "takes a hash, a depth and a mask and answers the word index below; it answers 65,536 exactly when depth is above 3
-- or mask + 1 is not a power of two up to 65,536"
unfoldable pub word_index : ℕ → ℕ → ℕ → ℕ
word_index hash depth mask = cond (ltb depth 4 && is_power_to 16 (mask + 1)) (word_at hash depth (mask + 1)) 65536

-- ======== the four counters of a hash

-- the hash's counter at depth i
abbrev pub count_at : ℕ → ℕ → ℕ → List ℕ → ℕ
count_at hash n i t = counter (get_or t (word_at hash i n) 0) (counter_of hash i)

-- "The estimate is the least of four."
unfoldable pub least : ℕ → ℕ → List ℕ → ℕ
least hash n t = min (min (min (count_at hash n 0 t) (count_at hash n 1 t)) (count_at hash n 2 t)) (count_at hash n 3 t)

-- the table after counter k of word `at` was raised, where it was below 15; and 1 if it was, else 0
abbrev pub raised_at : List ℕ → ℕ → ℕ → List ℕ
raised_at t at k = set t at (raised (get_or t at 0) k)

abbrev pub rises_at : List ℕ → ℕ → ℕ → ℕ
rises_at t at k = cond (ltb (counter (get_or t at 0) k) 15) 1 0

-- "An increase adds 1 to each of the four below 15": the table after the first i depths ..
unfoldable pub counted : ℕ → ℕ → ℕ → List ℕ → List ℕ
counted hash n zero t = t
counted hash n (suc i) t = raised_at (counted hash n i t) (word_at hash i n) (counter_of hash i)

-- .. and how many counters rose at them
unfoldable pub rose : ℕ → ℕ → ℕ → List ℕ → ℕ
unfolding counted
rose hash n zero t = 0
rose hash n (suc i) t = rose hash n i t + rises_at (counted hash n i t) (word_at hash i n) (counter_of hash i)

-- ======== aging

-- the record with another size count
abbrev pub with_size : Sketch → ℕ → Sketch
with_size s n = record { used = s.used; sample = s.sample; size = n }

-- "if any rose, size grows by 1"
abbrev pub grown_size : Sketch → ℕ → ℕ
grown_size s risen = cond (ltb 0 risen) (s.size + 1) s.size

-- "At the sample size"
abbrev pub is_full : Sketch → ℕ → Bool
is_full s size = leb s.sample size

-- "size becomes floor(size / 2) - floor(odd counters / 4), odd counted before halving"; "The port gives 0 there": the
-- difference of numbers stops at 0
abbrev pub aged_size : ℕ → ℕ → ℕ
aged_size size odd = size / 2 - odd / 4

-- "every counter becomes its half, rounded down": the table t of a sketch whose size count has come to `size`, and the
-- record
abbrev pub settled_table : Sketch → ℕ → List ℕ → List ℕ
settled_table s size t = cond (is_full s size) (halved_to s.used t) t

abbrev pub settled_sketch : Sketch → ℕ → List ℕ → Sketch
settled_sketch s size t = with_size s (cond (is_full s size) (aged_size size (odds_to s.used t)) size)

-- an increase of a sketch in use
abbrev pub raised_table : List ℕ → Sketch → ℕ → List ℕ
raised_table t s hash = counted hash s.used 4 t

abbrev pub raised_size : List ℕ → Sketch → ℕ → ℕ
raised_size t s hash = grown_size s (rose hash s.used 4 t)

-- "Empty table: .., increase does nothing."
unfoldable pub increased_table : List ℕ → Sketch → ℕ → List ℕ
increased_table t s hash = cond (eqb s.used 0) t (settled_table s (raised_size t s hash) (raised_table t s hash))

unfoldable pub increased_sketch : List ℕ → Sketch → ℕ → Sketch
increased_sketch t s hash = cond (eqb s.used 0) s (settled_sketch s (raised_size t s hash) (raised_table t s hash))

-- ======== soundness

-- "Table words: capacity 0 gives 1, else the next power of two."
abbrev pub words_for : ℕ → ℕ
words_for capacity = power_for 16 capacity

-- "Sample size: 10 for capacity 0, else 10 x capacity."
abbrev pub sample_for : ℕ → ℕ
sample_for capacity = cond (eqb capacity 0) 10 (10 * capacity)

-- "used length not 0 or a power of two to 65,536, or beyond the lent table"
abbrev pub used_fits : ℕ → Sketch → Bool
used_fits lent s = (eqb s.used 0 || is_power_to 16 s.used) && leb s.used lent

-- "a capacity from 1 that gives this length"
abbrev pub gives : ℕ → ℕ → Bool
gives capacity words = ltb 0 capacity && (leb capacity 65536 && eqb (words_for capacity) words)

-- "if used, sample not 10 x a capacity from 1 that gives this length, or size not below it"
abbrev pub used_sound : Sketch → Bool
used_sound s = (eqb (s.sample % 10) 0 && gives (s.sample / 10) s.used) && ltb s.size s.sample

-- "if unused, sample or size not 0"
abbrev pub unused_sound : Sketch → Bool
unused_sound s = eqb s.sample 0 && eqb s.size 0

-- the three together, with a table of `lent` words
unfoldable pub sound : ℕ → Sketch → Bool
sound lent s = used_fits lent s && cond (eqb s.used 0) (unused_sound s) (used_sound s)

-- ======== the calls

-- the record's values, in the order in which they are handed back
abbrev pub fields : Sketch → List ℕ
fields s = s.used ∷ s.sample ∷ s.size ∷ []

-- what a call says that answers a record
abbrev pub sketch_says : Result Sketch Refusal → Reply
sketch_says (Ok s) = replied (fields s)
sketch_says (Err why) = refused_by (number_of why)

abbrev pub ensured_says : Result Sketch Refusal → Reply
ensured_says = sketch_says

abbrev pub estimated_says : Result ℕ Refusal → Reply
estimated_says (Ok k) = replied (k ∷ [])
estimated_says (Err why) = refused_by (number_of why)

abbrev pub increased_says : Result Sketch Refusal → Reply
increased_says = sketch_says

abbrev pub unused_sketch : Sketch
unused_sketch = record { used = 0; sample = 0; size = 0 }

-- "If the table is already that long nothing changes"
abbrev pub must_grow : Sketch → ℕ → Bool
must_grow s capacity = ltb s.used (words_for capacity)

-- 4, then "capacity is tested before table length, and 14 is given only if the table must grow"
unfoldable pub ensure_refusal : List ℕ → Sketch → ℕ → ℕ
ensure_refusal t s capacity = refusal
    (row (not (sound (length t) s)) 4 ∷ row (ltb 65536 capacity) 15 ∷ row (must_grow s capacity && ltb (length t) (words_for capacity)) 14 ∷ [])

-- "otherwise every word of the longer table is zeroed and the size count stays"
unfoldable pub ensured_table : List ℕ → Sketch → ℕ → List ℕ
ensured_table t s capacity = cond (must_grow s capacity) (replicate (words_for capacity) 0 ++ drop (words_for capacity) t) t

-- "If the table is already that long nothing changes, sample size included"
unfoldable pub ensured_sketch : Sketch → ℕ → Sketch
ensured_sketch s capacity = cond (must_grow s capacity) (record { used = words_for capacity; sample = sample_for capacity; size = s.size }) s

pub record Ensures (t : List ℕ) (s : Sketch) (capacity : ℕ) (r : Result Sketch Refusal) (after : List ℕ) : Type 0 where
  pub says : ensured_says r ≡ reply (ensure_refusal t s capacity) (fields (ensured_sketch s capacity))
  pub table : after ≡ unless_refused (ensure_refusal t s capacity) t (ensured_table t s capacity)

unfoldable pub standing : List ℕ → Sketch → ℕ
standing t s = refusal (row (not (sound (length t) s)) 4 ∷ [])

-- "Empty table: estimate 0"
unfoldable pub estimate_of : List ℕ → Sketch → ℕ → ℕ
estimate_of t s hash = cond (eqb s.used 0) 0 (least hash s.used t)

pub record Estimates (t : List ℕ) (s : Sketch) (hash : ℕ) (r : Result ℕ Refusal) : Type 0 where
  pub says : estimated_says r ≡ reply (standing t s) (estimate_of t s hash ∷ [])

pub record Increases (t : List ℕ) (s : Sketch) (hash : ℕ) (r : Result Sketch Refusal) (after : List ℕ) : Type 0 where
  pub says : increased_says r ≡ reply (standing t s) (fields (increased_sketch t s hash))
  pub table : after ≡ unless_refused (standing t s) t (increased_table t s hash)

-- ======== histories

-- a call with its arguments
pub data SketchCall : Type 0 where
  ensure_capacity : ℕ → SketchCall
  estimate_hash : ℕ → SketchCall
  increase_hash : ℕ → SketchCall

-- the lent table and the record that the caller holds
pub record Holding : Type 0 where
  pub table : List ℕ
  pub sketch : Sketch

-- the refusal that the promise of a call gives, or 0
abbrev pub refusal_of : Holding → SketchCall → ℕ
refusal_of h (ensure_capacity capacity) = ensure_refusal h.table h.sketch capacity
refusal_of h (estimate_hash hash) = standing h.table h.sketch
refusal_of h (increase_hash hash) = standing h.table h.sketch

-- what the promise of a call leaves where it is not refused
abbrev pub sketch_done : Holding → SketchCall → Holding
sketch_done h (ensure_capacity capacity) = record { table = ensured_table h.table h.sketch capacity; sketch = ensured_sketch h.sketch capacity }
sketch_done h (estimate_hash hash) = h
sketch_done h (increase_hash hash) = record { table = increased_table h.table h.sketch hash; sketch = increased_sketch h.table h.sketch hash }

-- a refused call changes nothing
abbrev pub sketch_after : Holding → SketchCall → Holding
sketch_after h c = unless_refused (refusal_of h c) h (sketch_done h c)

abbrev pub run : Holding → List SketchCall → Holding
run h [] = h
run h (c ∷ cs) = run (sketch_after h c) cs
