-- Powers of two up to a limit: which numbers they are, and the one that fits a number.
use Rattle.std.proofs.Common.{◌≡◌, ℕ, zero, suc, ◌+◌, ◌-◌, ◌*◌, ◌/◌, ◌%◌, ◌^◌, ◌<◌, ◌≤◌, min, max, Bool, true, false, cond}
use Rattle.std.proofs.Common.{◌||◌, eqb, ltb, leb, ◌⊎◌, sym, refl, ap, ◌∙◌, inl, inr, true≢false, le_refl}
use Rattle.std.proofs.Common.{le_of_suc-le-suc, eq-or-lt_of_le, pow-suc, arith, pow_pos, pow_mono, ltb-false}
use Rattle.std.proofs.Common.{ltb-true, eq-eqb, ne_eqb, eqb-true, le-leb, leb-false, leb-true}
use native.Mathlib.Nat.{le_step}
use lib.Arith.{le-zero}
use lib.Bits.{bit_and, and_mask}
use borrow.Author.Tests.{lt-leb}
use Rattle.std.specs.Int.RustNames.{count_ones}
use Rattle.std.specs.Int.Count.{ones_step}
use Rattle.std.proofs.lemmas.Nat.{ones_le_self, zero_from_ones}
use Rattle.numbers.specs.Shared.{is_power_to, power_for}

-- n is a power of two with an exponent up to k
pub record Power (k n : ℕ) : Type 0 where
  pub exponent : ℕ
  pub most : exponent ≤ k
  pub is : n ≡ 2 ^ exponent

pub power_means : (k n : ℕ) → is_power_to k n ≡ true → Power k n
unfolding is_power_to
power_means zero n h = record { exponent = 0; most = le_refl 0; is = eqb-true n 1 h }
power_means (suc k) n h = go (power_means k n) (eqb n (2 ^ suc k)) refl h
  where
    go : (is_power_to k n ≡ true → Power k n) → (b : Bool) → eqb n (2 ^ suc k) ≡ b → (b || is_power_to k n) ≡ true → Power (suc k) n
    go rest true e t = record { exponent = suc k; most = le_refl (suc k); is = eqb-true n (2 ^ suc k) e }
    go rest false e t = let p = rest t in record { exponent = p.exponent; most = le_step p.most; is = p.is }

or_true : (b : Bool) → (b || true) ≡ true
or_true true = refl
or_true false = refl

pub power_holds : (k j : ℕ) → j ≤ k → is_power_to k (2 ^ j) ≡ true
unfolding is_power_to
power_holds zero j h = ap (λ (n : ℕ). eqb (2 ^ n) 1) (le-zero h)
power_holds (suc k) j h = go (power_holds k j) (eq-or-lt_of_le h)
  where
    go : (j ≤ k → is_power_to k (2 ^ j) ≡ true) → (j ≡ suc k) ⊎ (j < suc k) → (eqb (2 ^ j) (2 ^ suc k) || is_power_to k (2 ^ j)) ≡ true
    go rest (inl e) = ap (λ (b : Bool). b || is_power_to k (2 ^ j)) (eq-eqb (2 ^ j) (2 ^ suc k) (ap (λ (n : ℕ). 2 ^ n) e))
    go rest (inr l) = ap (λ (b : Bool). eqb (2 ^ j) (2 ^ suc k) || b) (rest (le_of_suc-le-suc l)) ∙ or_true (eqb (2 ^ j) (2 ^ suc k))

pub power_from : (k n : ℕ) → Power k n → is_power_to k n ≡ true
power_from k n p = ap (is_power_to k) p.is ∙ power_holds k p.exponent p.most

pub power_least : (k n : ℕ) → is_power_to k n ≡ true → 0 < n
power_least k n h = let p = power_means k n h in omega (arith, p.is, pow_pos p.exponent)

pub power_most : (k n : ℕ) → is_power_to k n ≡ true → n ≤ 2 ^ k
power_most k n h = let p = power_means k n h in omega (arith, p.is, pow_mono p.most)

-- of two powers the smaller is at most half of the larger
pub power_gap : (k a b : ℕ) → Power k a → Power k b → a < b → a + a ≤ b
power_gap k a b p q l = go (ltb p.exponent q.exponent) refl
  where
    go : (t : Bool) → ltb p.exponent q.exponent ≡ t → a + a ≤ b
    go true e = omega (arith, p.is, q.is, pow-suc 2 p.exponent, pow_mono (ltb-true p.exponent q.exponent e))
    go false e = absurd (omega (arith, p.is, q.is, pow_mono (ltb-false p.exponent q.exponent e)))

-- ---- a power of two has one bit set

double : (n : ℕ) → count_ones (n * 2) ≡ count_ones n
double n =
    let low : n * 2 % 2 ≡ 0 = omega arith in
    let high : n * 2 / 2 ≡ n = omega arith in
    ones_step (n * 2) ∙ omega (arith, low, ap count_ones high)

one_bit : (j : ℕ) → count_ones (2 ^ j) ≡ 1
one_bit zero = omega (arith, ones_step 1, ones_le_self 0)
one_bit (suc j) = ap count_ones (pow-suc 2 j) ∙ double (2 ^ j) ∙ one_bit j

from_one_bit : (k n : ℕ) → n ≤ 2 ^ k → count_ones n ≡ 1 → Power k n
from_one_bit zero n h e = record { exponent = 0; most = le_refl 0; is = omega (arith, ones_le_self n) }
from_one_bit (suc k) n h e = go (from_one_bit k (n / 2)) (n % 2) refl
  where
    go : (n / 2 ≤ 2 ^ k → count_ones (n / 2) ≡ 1 → Power k (n / 2)) → (b : ℕ) → n % 2 ≡ b → Power (suc k) n
    go rest zero p =
        let r = rest (omega (arith, pow-suc 2 k)) (omega (arith, ones_step n)) in
        record { exponent = suc r.exponent; most = omega (arith, r.most); is = omega (arith, r.is, pow-suc 2 r.exponent) }
    go rest (suc zero) p =
        record { exponent = 0; most = omega arith; is = omega (arith, zero_from_ones (n / 2) (omega (arith, ones_step n))) }
    go rest (suc (suc b)) p = absurd (omega arith)

-- so the test by bits is the test for a power
pub power_test : (k n : ℕ) → n ≤ 2 ^ k → eqb (count_ones n) 1 ≡ is_power_to k n
power_test k n m = go (is_power_to k n) refl
  where
    go : (b : Bool) → is_power_to k n ≡ b → eqb (count_ones n) 1 ≡ b
    go true e = let p = power_means k n e in eq-eqb _ 1 (ap count_ones p.is ∙ one_bit p.exponent)
    go false e = ne_eqb _ 1 (λ z. true≢false (sym (power_from k n (from_one_bit k n m z)) ∙ e))

-- a mask that is one less than a power of two takes the remainder
pub mask_cut : (k x m : ℕ) → is_power_to k (m + 1) ≡ true → bit_and x m ≡ x % (m + 1)
mask_cut k x m h =
    let s = power_means k (m + 1) h in
    let e : m ≡ 2 ^ s.exponent - 1 = omega (arith, s.is, pow_pos s.exponent) in
    ap (bit_and x) e ∙ and_mask x s.exponent ∙ ap (λ (n : ℕ). x % n) (sym s.is)

-- ---- the power that fits

-- the least power of two that is not below n is 2 ^ j where 2 ^ j is not below n and half of it is
pub power_for_is : (k j n : ℕ) → j ≤ k → n ≤ 2 ^ j → (j ≡ 0) ⊎ (2 ^ j < n + n) → power_for k n ≡ 2 ^ j
unfolding power_for
power_for_is zero j n h a b = ap (λ (i : ℕ). 2 ^ i) (sym (le-zero h))
power_for_is (suc k) j n h a b = go (power_for_is k j n) (eq-or-lt_of_le h)
  where
    top : j ≡ suc k → (j ≡ 0) ⊎ (2 ^ j < n + n) → leb n (2 ^ k) ≡ false
    top e (inl z) = absurd (omega arith)
    top e (inr l) = lt-leb n (2 ^ k) (omega (arith, ap (λ (i : ℕ). 2 ^ i) e, pow-suc 2 k))

    go : (j ≤ k → n ≤ 2 ^ j → (j ≡ 0) ⊎ (2 ^ j < n + n) → power_for k n ≡ 2 ^ j) → (j ≡ suc k) ⊎ (j < suc k)
        → cond (leb n (2 ^ k)) (power_for k n) (2 ^ suc k) ≡ 2 ^ j
    go rest (inl e) = ap (λ (t : Bool). cond t (power_for k n) (2 ^ suc k)) (top e b) ∙ ap (λ (i : ℕ). 2 ^ i) (sym e)
    go rest (inr l) =
        let s : j ≤ k = le_of_suc-le-suc l in
        ap (λ (t : Bool). cond t (power_for k n) (2 ^ suc k)) (le-leb n (2 ^ k) (omega (arith, pow_mono s))) ∙ rest s a b

-- and 2 ^ k where half of that is below n
pub power_for_top : (k n : ℕ) → 2 ^ k < n → power_for (suc k) n ≡ 2 ^ suc k
unfolding power_for
power_for_top k n l = ap (λ (t : Bool). cond t (power_for k n) (2 ^ suc k)) (lt-leb n (2 ^ k) l)

-- a power of two above the half of a number up to 2 ^ k, and not below it, has an exponent up to k
short : (k m j : ℕ) → m ≤ 2 ^ k → 2 ^ j / 2 < max 1 m → j ≤ k
short k m j h l = go (leb j k) refl
  where
    go : (t : Bool) → leb j k ≡ t → j ≤ k
    go true e = leb-true j k e
    go false e = absurd (omega (arith, pow_pos k, pow-suc 2 k, pow_mono (leb-false j k e)))

-- the least power of two that is not below n, or not below 2 ^ k where n is above that
pub next_is : (k n j : ℕ) → min n (2 ^ suc k) ≤ 2 ^ j → 2 ^ j / 2 < max 1 (min n (2 ^ suc k)) → 2 ^ j ≡ power_for (suc k) n
next_is k n j h l = go (leb n (2 ^ suc k)) refl (short (suc k) (min n (2 ^ suc k)) j (omega arith) l)
  where
    halved : (i : ℕ) → n ≤ 2 ^ suc k → 2 ^ i / 2 < max 1 (min n (2 ^ suc k)) → (i ≡ 0) ⊎ (2 ^ i < n + n)
    halved zero m w = inl refl
    halved (suc i) m w = inr (omega (arith, pow-suc 2 i, pow_pos i))

    go : (t : Bool) → leb n (2 ^ suc k) ≡ t → j ≤ suc k → 2 ^ j ≡ power_for (suc k) n
    go true e m =
        let b : n ≤ 2 ^ suc k = leb-true n (2 ^ suc k) e in
        sym (power_for_is (suc k) j n m (omega arith) (halved j b l))
    go false e m =
        let b : 2 ^ suc k < n = leb-false n (2 ^ suc k) e in
        let top : 2 ^ j ≡ 2 ^ suc k = omega (arith, pow_mono m) in
        top ∙ sym (power_for_top k n (omega (arith, pow-suc 2 k)))

-- ---- what the power that fits is like

pub power_for_power : (k n : ℕ) → Power k (power_for k n)
unfolding power_for
power_for_power zero n = record { exponent = 0; most = le_refl 0; is = refl }
power_for_power (suc k) n = go (power_for_power k n) (leb n (2 ^ k))
  where
    go : Power k (power_for k n) → (b : Bool) → Power (suc k) (cond b (power_for k n) (2 ^ suc k))
    go p true = record { exponent = p.exponent; most = le_step p.most; is = p.is }
    go p false = record { exponent = suc k; most = le_refl (suc k); is = refl }

pub power_for_above : (k n : ℕ) → n ≤ 2 ^ k → n ≤ power_for k n
unfolding power_for
power_for_above zero n h = h
power_for_above (suc k) n h = go (power_for_above k n) (leb n (2 ^ k)) refl
  where
    go : (n ≤ 2 ^ k → n ≤ power_for k n) → (b : Bool) → leb n (2 ^ k) ≡ b → n ≤ cond b (power_for k n) (2 ^ suc k)
    go rest true e = rest (leb-true n (2 ^ k) e)
    go rest false e = h

-- a power of two r fits a number from 1 just where that is above half of r and not above r
pub power_for_from : (k r n : ℕ) → is_power_to k r ≡ true → r / 2 < n → n ≤ r → power_for k n ≡ r
power_for_from k r n h l m =
    let p = power_means k r h in
    power_for_is k p.exponent n p.most (omega (arith, p.is)) (halved p.exponent p.is) ∙ sym p.is
  where
    halved : (j : ℕ) → r ≡ 2 ^ j → (j ≡ 0) ⊎ (2 ^ j < n + n)
    halved zero e = inl refl
    halved (suc j) e = inr (omega (arith, pow-suc 2 j))

pub power_for_half : (k n : ℕ) → 0 < n → power_for k n / 2 < n
unfolding power_for
power_for_half zero n h = h
power_for_half (suc k) n h = go (power_for_half k n h) (leb n (2 ^ k)) refl
  where
    go : power_for k n / 2 < n → (b : Bool) → leb n (2 ^ k) ≡ b → cond b (power_for k n) (2 ^ suc k) / 2 < n
    go rest true e = rest
    go rest false e = omega (arith, leb-false n (2 ^ k) e, pow-suc 2 k)
