-- Two results that meet a promise are equal: the promise determines the answer.
use Prim.Native.Nat.{ℕ}
use mathlib.Core.Path.{◌≡◌, sym, ap, ◌∙◌}
use Rattle.wheel_rules.specs.declared.place.Place.{Place}
use Rattle.wheel_rules.specs.Promise.{Placed}
use Rattle.wheel_rules.specs.place.Promises.{Found, InBucket}

-- the host's function
pub placed_once : {reading deadline a b : ℕ} → Placed reading deadline a → Placed reading deadline b → a ≡ b
placed_once p q = p.is ∙ sym q.is

pub bucket_once : {reading deadline a b : ℕ} → InBucket reading deadline a → InBucket reading deadline b → a ≡ b
bucket_once p q = p.is ∙ sym q.is

place : ℕ → ℕ → Place
place b n = record { bucket = b; number = n }

pub found_once : {reading deadline : ℕ} {a b : Place} → Found reading deadline a → Found reading deadline b → a ≡ b
unfolding place
found_once {a = a} {b = b} p q =
    ap (λ (n : ℕ). place n a.number) (p.bucket ∙ sym q.bucket) ∙ ap (place b.bucket) (p.number ∙ sym q.number)
