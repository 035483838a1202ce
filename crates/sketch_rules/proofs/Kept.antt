-- Soundness is kept: an unused sketch is sound, and every call on a sound sketch, refused or not, leaves a sound one.
-- So a history that begins with an unused sketch never meets refusal 4.
use mathlib.Core.Path.{◌≡◌, refl, sym, ap, ◌∙◌}
use mathlib.Core.Bool.{Bool, true, false, cond, true≢false}
use mathlib.Core.List.{List, [], ◌∷◌, ◌++◌}
use Prim.Native.Nat.{ℕ, ◌+◌, ◌*◌, ◌≤◌, ◌<◌}
use native.Mathlib.Omega.{arith}
use lib.Dec.{eqb, ltb, leb}
use lib.ListN.{length, replicate, drop, length-append, length-replicate, length-drop}
use borrow.Author.Tests.{eqb-true, eqb-false, eq-eqb, ltb-true, ltb-false, le-leb, lt-ltb}
use Rattle.numbers.specs.Shared.{is_power_to, power_for}
use Rattle.numbers.proofs.Powers.{power_means, power_gap, power_for_power, power_from, power_least, power_most, power_for_half}
use Rattle.numbers.proofs.Replies.{and_both, and_right}
use Rattle.sketch_rules.specs.Sketch.{odds_to, sound, words_for, sample_for, gives, rose, grown_size, is_full, aged_size, settled_table}
use Rattle.sketch_rules.specs.Sketch.{settled_sketch, raised_table, raised_size, increased_table, increased_sketch, unused_sketch, must_grow, ensure_refusal}
use Rattle.sketch_rules.specs.Sketch.{ensured_table, ensured_sketch, SketchCall as Call, ensure_capacity, estimate_hash, increase_hash, Holding as Held}
use Rattle.sketch_rules.specs.Sketch.{refusal_of, sketch_done as done, sketch_after as step, run}
use Rattle.sketch_rules.proofs.Passes.{halved_length}
use Rattle.sketch_rules.specs.declared.Sketch.{Sketch}
use Rattle.sketch_rules.proofs.Counting.{counted_length}
use Rattle.sketch_rules.proofs.Soundness.{Used, sound_unused, sound_in_use, used_sound_lem, gives_inside, blank_size}
use Rattle.sketch_rules.proofs.Promises.{stands, ensure_too_large, ensure_stays, ensure_too_short, ensure_grows}

-- what a caller holds is sound
abbrev pub Whole : Held → Type 0
Whole h = sound (length h.table) h.sketch ≡ true

pub unused_sound_lem : (lent : ℕ) → sound lent unused_sketch ≡ true
unused_sound_lem lent = sym (blank_size lent unused_sketch refl refl)

-- ---- increase

settled_length : (s : Sketch) (size : ℕ) (t : List ℕ) → length (settled_table s size t) ≡ length t
settled_length s size t = grind (arith, halved_length)

-- the size count grows by at most 1, and an aging brings it below the sample size again
settled_size : (s : Sketch) (size odd : ℕ) → size ≤ s.sample → 0 < s.sample → cond (is_full s size) (aged_size size odd) size < s.sample
settled_size s size odd l h = grind arith

grown_le : (s : Sketch) (risen : ℕ) → s.size < s.sample → grown_size s risen ≤ s.sample
grown_le s risen l = grind arith

increased_used : (t : List ℕ) (s : Sketch) (hash : ℕ) → Used (length t) s
    → sound (length (settled_table s (raised_size t s hash) (raised_table t s hash))) (settled_sketch s (raised_size t s hash) (raised_table t s hash)) ≡ true
increased_used t s hash u =
    let n : length (settled_table s (raised_size t s hash) (raised_table t s hash)) ≡ length t =
    settled_length s (raised_size t s hash) (raised_table t s hash) ∙ counted_length hash s.used 4 t in
    ap (λ (l : ℕ). sound l (settled_sketch s (raised_size t s hash) (raised_table t s hash))) n
    ∙ used_sound_lem (length t) (settled_sketch s (raised_size t s hash) (raised_table t s hash))
    (record {
      capacity = u.capacity;
      power = u.power;
      inside = u.inside;
      some = u.some;
      most = u.most;
      tenfold = u.tenfold;
      given = u.given;
      size =
          settled_size s (raised_size t s hash) (odds_to s.used (raised_table t s hash))
          (grown_le s (rose hash s.used 4 t) u.size) (omega (arith, u.size));
    })

pub increase_keeps : (t : List ℕ) (s : Sketch) (hash : ℕ) → sound (length t) s ≡ true
    → sound (length (increased_table t s hash)) (increased_sketch t s hash) ≡ true
unfolding increased_table increased_sketch
increase_keeps t s hash h = go (eqb s.used 0) refl
  where
    go : (b : Bool) → eqb s.used 0 ≡ b
        → sound (length (cond b t (settled_table s (raised_size t s hash) (raised_table t s hash))))
        (cond b s (settled_sketch s (raised_size t s hash) (raised_table t s hash))) ≡ true
    go true e = h
    go false e = increased_used t s hash (sound_in_use (length t) s h (eqb-false s.used 0 e))

-- ---- ensure capacity

grown_length : (n : ℕ) (t : List ℕ) → n ≤ length t → length (replicate n 0 ++ drop n t) ≡ length t
grown_length n t l = omega (arith, length-append {A = ℕ}, length-replicate {A = ℕ}, length-drop {A = ℕ})

words_of_one : words_for 1 ≡ words_for 0
unfolding power_for
words_of_one = refl

words_one : words_for 1 ≡ 1
unfolding power_for
words_one = refl

unused_size : (lent : ℕ) (s : Sketch) → sound lent s ≡ true → s.used ≡ 0 → s.size ≡ 0
unused_size lent s h z = eqb-true s.size 0 (and_right (eqb s.sample 0) _ (sym (sound_unused lent s z) ∙ h))

-- the sample size of a capacity is ten times a capacity from 1 that gives the same length
grown_sound : (lent : ℕ) (size capacity : ℕ) → capacity ≤ 65536 → words_for capacity ≤ lent → size < sample_for capacity
    → sound lent (record { used = words_for capacity; sample = sample_for capacity; size = size }) ≡ true
grown_sound lent size capacity l m h = go (eqb capacity 0) refl
  where
    power : is_power_to 16 (words_for capacity) ≡ true
    power = power_from 16 (words_for capacity) (power_for_power 16 capacity)

    held : (c sample : ℕ) → sample ≡ 10 * c → gives c (words_for capacity) ≡ true → size < sample
        → sound lent (record { used = words_for capacity; sample = sample; size = size }) ≡ true
    held c sample e g z =
        used_sound_lem lent (record { used = words_for capacity; sample = sample; size = size })
        (record {
          capacity = c;
          power = power;
          inside = m;
          some = power_least 16 (words_for capacity) power;
          most = power_most 16 (words_for capacity) power;
          tenfold = e;
          given = g;
          size = z;
        })

    fits : (c : ℕ) → 0 < c → c ≤ 65536 → words_for c ≡ words_for capacity → gives c (words_for capacity) ≡ true
    fits c a b e =
        and_both (ltb 0 c) _ (lt-ltb 0 c a) (and_both (leb c 65536) _ (le-leb c 65536 b) (eq-eqb (words_for c) (words_for capacity) e))

    go : (b : Bool) → eqb capacity 0 ≡ b → sound lent (record { used = words_for capacity; sample = sample_for capacity; size = size }) ≡ true
    go true e =
        let z = eqb-true capacity 0 e in
        held 1 (sample_for capacity) (ap sample_for z) (fits 1 (omega arith) (omega arith) (words_of_one ∙ ap words_for (sym z))) h
    go false e =
        let n = eqb-false capacity 0 e in
        held capacity (sample_for capacity) (ap (λ (b : Bool). cond b 10 (10 * capacity)) e) (fits capacity (omega (arith, n)) l refl) h

-- the size count is below the larger sample size too
grown_size_lem : (lent : ℕ) (s : Sketch) (capacity : ℕ) → sound lent s ≡ true → s.used < words_for capacity → s.size < sample_for capacity
grown_size_lem lent s capacity h l = go (eqb s.used 0) refl (eqb capacity 0) refl
  where
    sampled : (b : Bool) → eqb capacity 0 ≡ b → (0 < cond b 10 (10 * capacity)) × (b ≡ false → cond b 10 (10 * capacity) ≡ 10 * capacity)
    sampled true e = (omega arith, λ f. absurd (true≢false f))
    sampled false e = let n = eqb-false capacity 0 e in (omega (arith, n), λ f. refl)

    -- a capacity above the length in use
    larger : (s.used ≡ 0 → ⊥) → s.used < capacity
    larger n =
        let u = sound_in_use lent s h n in
        let gap = power_gap 16 s.used (words_for capacity) (power_means 16 s.used u.power) (power_for_power 16 capacity) l in
        above (eqb capacity 0) refl gap u.some
      where
        above : (b : Bool) → eqb capacity 0 ≡ b → s.used + s.used ≤ words_for capacity → 0 < s.used → s.used < capacity
        above true e g z = absurd (omega (arith, g, z, ap words_for (eqb-true capacity 0 e) ∙ sym words_of_one ∙ words_one))
        above false e g z = omega (arith, g, power_for_half 16 capacity (omega (arith, eqb-false capacity 0 e)))

    go : (b : Bool) → eqb s.used 0 ≡ b → (d : Bool) → eqb capacity 0 ≡ d → s.size < sample_for capacity
    go true e d f = omega (arith, unused_size lent s h (eqb-true s.used 0 e), (sampled (eqb capacity 0) refl).0)
    go false e true f =
        let m = larger (eqb-false s.used 0 e) in absurd (omega (arith, m, eqb-true capacity 0 f))
    go false e false f =
        let n = eqb-false s.used 0 e in
        let u = sound_in_use lent s h n in
        omega (arith, u.size, u.tenfold, gives_inside u.capacity s.used u.given, larger n, (sampled (eqb capacity 0) refl).1 f)

not_above : (m n : ℕ) → (m < n → ⊥) → n ≤ m
not_above m n h = go (ltb m n) refl
  where
    go : (b : Bool) → ltb m n ≡ b → n ≤ m
    go true e = absurd (h (ltb-true m n e))
    go false e = ltb-false m n e

-- what a capacity that is not refused leaves
pub ensure_keeps : (t : List ℕ) (s : Sketch) (capacity : ℕ) → sound (length t) s ≡ true → ensure_refusal t s capacity ≡ 0
    → sound (length (ensured_table t s capacity)) (ensured_sketch s capacity) ≡ true
unfolding ensured_table ensured_sketch
ensure_keeps t s capacity h z = go (must_grow s capacity) refl
  where
    within : capacity ≤ 65536
    within = not_above 65536 capacity (λ l. omega (arith, ensure_too_large t s capacity h l, z))

    go : (b : Bool) → must_grow s capacity ≡ b
        → sound (length (cond b (replicate (words_for capacity) 0 ++ drop (words_for capacity) t) t))
        (cond b (record { used = words_for capacity; sample = sample_for capacity; size = s.size }) s) ≡ true
    go false e = h
    go true e =
        let l = ltb-true s.used (words_for capacity) e in
        let m : words_for capacity ≤ length t = not_above (length t) (words_for capacity) (λ k. omega (arith, ensure_too_short t s capacity h within l k, z)) in
        ap (λ (n : ℕ). sound n (record { used = words_for capacity; sample = sample_for capacity; size = s.size })) (grown_length (words_for capacity) t m)
        ∙ grown_sound (length t) s.size capacity within m (grown_size_lem (length t) s capacity h l)

-- ---- any call, and any calls

done_keeps : (h : Held) (c : Call) → Whole h → refusal_of h c ≡ 0 → Whole (done h c)
done_keeps h (ensure_capacity capacity) w z = ensure_keeps h.table h.sketch capacity w z
done_keeps h (estimate_hash hash) w z = w
done_keeps h (increase_hash hash) w z = increase_keeps h.table h.sketch hash w

pub step_keeps : (h : Held) (c : Call) → Whole h → Whole (step h c)
step_keeps h c w = go (eqb (refusal_of h c) 0) refl
  where
    go : (b : Bool) → eqb (refusal_of h c) 0 ≡ b → Whole (cond b (done h c) h)
    go true e = done_keeps h c w (eqb-true (refusal_of h c) 0 e)
    go false e = w

pub run_keeps : (h : Held) (cs : List Call) → Whole h → Whole (run h cs)
run_keeps h [] w = w
run_keeps h (c ∷ cs) w = run_keeps (step h c) cs (step_keeps h c w)

-- a sound sketch is refused nothing with 4
not_four : (h : Held) (c : Call) → Whole h → refusal_of h c ≡ 4 → ⊥
not_four h (estimate_hash hash) w e = omega (arith, stands h.table h.sketch w, e)
not_four h (increase_hash hash) w e = omega (arith, stands h.table h.sketch w, e)
not_four h (ensure_capacity capacity) w e = go (ltb 65536 capacity) refl (must_grow h.sketch capacity) refl (ltb (length h.table) (words_for capacity)) refl
  where
    go : (a : Bool) → ltb 65536 capacity ≡ a → (b : Bool) → must_grow h.sketch capacity ≡ b → (d : Bool) → ltb (length h.table) (words_for capacity) ≡ d → ⊥
    go true p b q d r = omega (arith, ensure_too_large h.table h.sketch capacity w (ltb-true 65536 capacity p), e)
    go false p false q d r =
        omega (arith, ensure_stays h.table h.sketch capacity w (ltb-false 65536 capacity p) (ltb-false h.sketch.used (words_for capacity) q), e)
    go false p true q true r =
        omega (
          arith,
          ensure_too_short h.table h.sketch capacity w (ltb-false 65536 capacity p) (ltb-true h.sketch.used (words_for capacity) q)
              (ltb-true (length h.table) (words_for capacity) r),
          e,
        )
    go false p true q false r =
        omega (
          arith,
          ensure_grows h.table h.sketch capacity w (ltb-false 65536 capacity p) (ltb-true h.sketch.used (words_for capacity) q)
              (ltb-false (length h.table) (words_for capacity) r),
          e,
        )

-- on any lent table, after any calls on an unused sketch, no call is refused with 4
pub never_four : (t : List ℕ) (cs : List Call) (c : Call) → refusal_of (run (record { table = t; sketch = unused_sketch }) cs) c ≡ 4 → ⊥
never_four t cs c = not_four (run (record { table = t; sketch = unused_sketch }) cs) c
    (run_keeps (record { table = t; sketch = unused_sketch }) cs (unused_sound_lem (length t)))
