-- Laws of ticks, once over the shift.
use Prim.Native.Nat.{ℕ, suc, ◌+◌, ◌-◌, ◌/◌, ◌^◌, ◌≤◌, ◌<◌}
use native.Mathlib.Nat.{le-div_iff_mul-le, div-lt_iff_lt-mul, div-div-eq-div-mul, div-mul-le_self, lt-div-mul-add}
use native.Mathlib.Omega.{arith}
use mathlib.Core.Path.{◌≡◌, sym, ap, ◌∙◌}
use lib.Pow.{pow_pos, pow-add}
use Rattle.rules.specs.Places.{tick}

-- a later time has no earlier tick
pub tick_mono : (s t u : ℕ) → t ≤ u → tick s t ≤ tick s u
unfolding tick
tick_mono s t u h = (le-div_iff_mul-le (pow_pos s)).1 (omega (arith, div-mul-le_self t (2 ^ s)))

-- the next level's tick is this one's, divided by the bucket count
pub tick_up : (s e t : ℕ) → tick (s + e) t ≡ tick s t / 2 ^ e
unfolding tick
tick_up s e t = sym (div-div-eq-div-mul t (2 ^ s) (2 ^ e) ∙ ap (λ (n : ℕ). t / n) (sym (pow-add 2 s e)))

pub tick_up_mono : (s e t u : ℕ) → tick s t ≤ tick s u → tick (s + e) t ≤ tick (s + e) u
tick_up_mono s e t u h =
    rw (tick_up s e t, tick_up s e u)
    ((le-div_iff_mul-le (pow_pos e)).1 (omega (arith, div-mul-le_self (tick s t) (2 ^ e))))

-- a tick's length later, or more, is a later tick
pub tick_later : (s t u : ℕ) → 2 ^ s ≤ u - t → tick s t < tick s u
unfolding tick
tick_later s t u h = (le-div_iff_mul-le (pow_pos s)).1 (omega (arith, h, pow_pos s, div-mul-le_self t (2 ^ s)))

-- less than 2 ^ e ticks' length later is at most 2 ^ e ticks later; it can be 2 ^ e (W8: reading 1, deadline 2 ^ 36)
pub tick_near : (s e t u : ℕ) → u - t < 2 ^ (s + e) → tick s u ≤ tick s t + 2 ^ e
unfolding tick
tick_near s e t u h =
    let k : u / 2 ^ s < suc (t / 2 ^ s + 2 ^ e) =
    (div-lt_iff_lt-mul (pow_pos s)).1 (omega (arith, rw (pow-add 2 s e) at h, lt-div-mul-add {a = t} (pow_pos s))) in
    omega arith
