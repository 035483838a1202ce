-- The soundness test: how the code's tests decide it, and what it means.
use mathlib.Core.Path.{◌≡◌, sym, ap, ◌∙◌}
use mathlib.Core.Bool.{Bool, true, false, cond, ◌&&◌, ◌||◌}
use Prim.Native.Nat.{ℕ, ◌*◌, ◌/◌, ◌%◌, ◌≤◌, ◌<◌}
use native.Mathlib.Omega.{arith}
use lib.Dec.{eqb, ltb, leb}
use borrow.Author.Tests.{eqb-true, leb-true, ltb-true, eq-eqb, ne_eqb, lt-ltb, le-leb, lt-leb}
use Rattle.numbers.specs.Shared.{is_power_to}
use Rattle.numbers.proofs.Powers.{power_least, power_most, power_for_from, power_for_half, power_for_above}
use Rattle.numbers.proofs.Replies.{and_left, and_right, and_both, and_not_left, and_not_right, is_false}
use Rattle.sketch_rules.specs.declared.Sketch.{Sketch}
use Rattle.sketch_rules.specs.Sketch.{words_for, used_fits, gives, used_sound, unused_sound, sound}

-- ---- a capacity gives a length just where it is above half of it and not above it

pub gives_true : (c n : ℕ) → is_power_to 16 n ≡ true → n ≤ 65536 → n / 2 < c → c ≤ n → gives c n ≡ true
gives_true c n p m l h =
    and_both (ltb 0 c) _ (lt-ltb 0 c (omega arith))
    (and_both (leb c 65536) _ (le-leb c 65536 (omega arith)) (eq-eqb (words_for c) n (power_for_from 16 n c p l h)))

gives_words : (c n : ℕ) → gives c n ≡ true → words_for c ≡ n
gives_words c n t = eqb-true (words_for c) n (and_right (leb c 65536) _ (and_right (ltb 0 c) _ t))

gives_least : (c n : ℕ) → gives c n ≡ true → 0 < c
gives_least c n t = ltb-true 0 c (and_left (ltb 0 c) _ t)

gives_most : (c n : ℕ) → gives c n ≡ true → c ≤ 65536
gives_most c n t = leb-true c 65536 (and_left (leb c 65536) _ (and_right (ltb 0 c) _ t))

pub gives_above_half : (c n : ℕ) → gives c n ≡ true → n / 2 < c
gives_above_half c n t = omega (arith, gives_words c n t, power_for_half 16 c (gives_least c n t))

pub gives_inside : (c n : ℕ) → gives c n ≡ true → c ≤ n
gives_inside c n t = omega (arith, gives_words c n t, power_for_above 16 c (gives_most c n t))

-- ---- the test, case by case, as the code takes it

pub sound_unused : (lent : ℕ) (s : Sketch) → s.used ≡ 0 → sound lent s ≡ unused_sound s
unfolding sound
sound_unused lent s e = simp (eq-eqb s.used 0 e, le-leb s.used lent (omega arith))

used : (lent : ℕ) (s : Sketch) → (s.used ≡ 0 → ⊥) → s.used ≤ lent → is_power_to 16 s.used ≡ true → sound lent s ≡ used_sound s
unfolding sound
used lent s n l p = simp (ne_eqb s.used 0 n, le-leb s.used lent l, p)

pub blank_size : (lent : ℕ) (s : Sketch) → s.used ≡ 0 → s.sample ≡ 0 → eqb s.size 0 ≡ sound lent s
blank_size lent s e z = sym (sound_unused lent s e ∙ ap (λ (b : Bool). b && eqb s.size 0) (eq-eqb s.sample 0 z))

pub blank_sample : (lent : ℕ) (s : Sketch) → s.used ≡ 0 → (s.sample ≡ 0 → ⊥) → eqb s.sample 0 ≡ sound lent s
blank_sample lent s e n =
    let z = ne_eqb s.sample 0 n in z ∙ sym (sound_unused lent s e ∙ and_not_left (eqb s.sample 0) _ z)

pub not_inside : (lent : ℕ) (s : Sketch) → lent < s.used → false ≡ sound lent s
unfolding sound
not_inside lent s l =
    sym (and_not_left (used_fits lent s) _ (and_not_right (eqb s.used 0 || is_power_to 16 s.used) _ (lt-leb s.used lent l)))

pub not_power : (lent : ℕ) (s : Sketch) → (s.used ≡ 0 → ⊥) → is_power_to 16 s.used ≡ false → false ≡ sound lent s
unfolding sound
not_power lent s n p =
    sym
    (and_not_left (used_fits lent s) _
    (and_not_left (eqb s.used 0 || is_power_to 16 s.used) _ (ap (λ (b : Bool). b || is_power_to 16 s.used) (ne_eqb s.used 0 n) ∙ p)))

-- the sketch is in use, and its table is one that can be
module _ (lent : ℕ) (s : Sketch) (n : s.used ≡ 0 → ⊥) (l : s.used ≤ lent) (p : is_power_to 16 s.used ≡ true) where
  pub not_tenfold : (s.sample % 10 ≡ 0 → ⊥) → false ≡ sound lent s
  not_tenfold h =
      sym
      (used lent s n l p
      ∙ and_not_left (eqb (s.sample % 10) 0 && gives (s.sample / 10) s.used) _ (and_not_left (eqb (s.sample % 10) 0) _ (ne_eqb (s.sample % 10) 0 h)))

  not_given : (gives (s.sample / 10) s.used ≡ true → ⊥) → false ≡ sound lent s
  not_given h =
      sym
      (used lent s n l p
      ∙ and_not_left (eqb (s.sample % 10) 0 && gives (s.sample / 10) s.used) _ (and_not_right (eqb (s.sample % 10) 0) _ (is_false _ h)))

  pub too_low : s.sample / 10 ≤ s.used / 2 → false ≡ sound lent s
  too_low h = not_given (λ t. omega (arith, gives_above_half (s.sample / 10) s.used t))

  pub too_high : s.used < s.sample / 10 → false ≡ sound lent s
  too_high h = not_given (λ t. omega (arith, gives_inside (s.sample / 10) s.used t))

  pub by_size : s.sample % 10 ≡ 0 → s.used / 2 < s.sample / 10 → s.sample / 10 ≤ s.used → ltb s.size s.sample ≡ sound lent s
  by_size d a b =
      let g : gives (s.sample / 10) s.used ≡ true = gives_true (s.sample / 10) s.used p (power_most 16 s.used p) a b in
      sym
      (used lent s n l p
      ∙ ap (λ (t : Bool). t && ltb s.size s.sample) (and_both (eqb (s.sample % 10) 0) _ (eq-eqb (s.sample % 10) 0 d) g))

-- ---- what it means for a sketch in use

pub record Used (lent : ℕ) (s : Sketch) : Type 0 where
  pub capacity : ℕ
  pub power : is_power_to 16 s.used ≡ true
  pub inside : s.used ≤ lent
  pub some : 0 < s.used
  pub most : s.used ≤ 65536
  pub tenfold : s.sample ≡ 10 * capacity
  pub given : gives capacity s.used ≡ true
  pub size : s.size < s.sample

pub sound_in_use : (lent : ℕ) (s : Sketch) → sound lent s ≡ true → (s.used ≡ 0 → ⊥) → Used lent s
unfolding sound
sound_in_use lent s t n =
    let fits = and_left (used_fits lent s) _ t in
    let either = and_left (eqb s.used 0 || is_power_to 16 s.used) _ fits in
    let power : is_power_to 16 s.used ≡ true = ap (λ (b : Bool). b || is_power_to 16 s.used) (sym (ne_eqb s.used 0 n)) ∙ either in
    let rest : used_sound s ≡ true = ap (λ (b : Bool). cond b (unused_sound s) (used_sound s)) (sym (ne_eqb s.used 0 n)) ∙ and_right (used_fits lent s) _ t in
    let both = and_left (eqb (s.sample % 10) 0 && gives (s.sample / 10) s.used) _ rest in
    record {
      capacity = s.sample / 10;
      power = power;
      inside = leb-true s.used lent (and_right (eqb s.used 0 || is_power_to 16 s.used) _ fits);
      some = power_least 16 s.used power;
      most = power_most 16 s.used power;
      tenfold = omega (arith, eqb-true (s.sample % 10) 0 (and_left (eqb (s.sample % 10) 0) _ both));
      given = and_right (eqb (s.sample % 10) 0) _ both;
      size = ltb-true s.size s.sample (and_right (eqb (s.sample % 10) 0 && gives (s.sample / 10) s.used) _ rest);
    }

pub used_sound_lem : (lent : ℕ) (s : Sketch) → Used lent s → sound lent s ≡ true
used_sound_lem lent s u =
    let n : s.used ≡ 0 → ⊥ = λ e. omega (arith, u.some) in
    let e : s.sample / 10 ≡ u.capacity = omega (arith, u.tenfold) in
    used lent s n u.inside u.power
    ∙ and_both (eqb (s.sample % 10) 0 && gives (s.sample / 10) s.used) _
    (and_both (eqb (s.sample % 10) 0) _ (eq-eqb (s.sample % 10) 0 (omega (arith, u.tenfold))) (ap (λ (c : ℕ). gives c s.used) e ∙ u.given))
    (lt-ltb s.size s.sample u.size)
