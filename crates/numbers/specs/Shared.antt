-- What several modules say: powers of two, the numbers that are no slot, lists of numbers, rows of refusals and
-- answers.
use Rattle.std.specs.Prelude.{◌≡◌, ℕ, zero, suc, ◌^◌, Bool, cond, ◌||◌, ◌⊎◌, List, [], ◌∷◌, ◌==◌, nat_le}

-- ======== powers of two

-- whether n is one of 1, 2, 4 .. 2 ^ k
unfoldable pub is_power_to : ℕ → ℕ → Bool
is_power_to zero n = n == 1
is_power_to (suc k) n = n == 2 ^ suc k || is_power_to k n

-- the least of 1, 2, 4 .. 2 ^ k that is not below n, and 2 ^ k where n is above them all
unfoldable pub power_for : ℕ → ℕ → ℕ
power_for zero n = 1
power_for (suc k) n = cond (nat_le n (2 ^ k)) (power_for k n) (2 ^ suc k)

-- ======== no slot

-- no slot: one past the last that may be lent. A cursor that stands at none has it too
abbrev pub no_slot : ℕ
no_slot = 4096

-- the cursor that stands past the end
abbrev pub past_end : ℕ
past_end = 4097

-- ======== lists of numbers

-- x stands in the list
abbrev pub In : ℕ → List ℕ → Type 0
In x [] = ⊥
In x (y ∷ ys) = (x ≡ y) ⊎ In x ys

-- no number stands twice
abbrev pub Once : List ℕ → Type 0
Once [] = Unit {0}
Once (x ∷ xs) = (In x xs → ⊥) × Once xs

-- what stands before s, and what stands after it
abbrev pub before_in : ℕ → List ℕ → List ℕ
before_in s [] = []
before_in s (x ∷ xs) = cond (s == x) [] (x ∷ before_in s xs)

abbrev pub after_in : ℕ → List ℕ → List ℕ
after_in s [] = []
after_in s (x ∷ xs) = cond (s == x) xs (after_in s xs)

-- k numbers from i upwards
abbrev pub up_from : ℕ → ℕ → List ℕ
up_from zero i = []
up_from (suc k) i = i ∷ up_from k (suc i)

-- ======== refusals and answers of the sketch

-- A row of the refusal table: when, and the number.
pub record Refusing : Type 0 where
  pub when : Bool
  pub number : ℕ

abbrev pub row : Bool → ℕ → Refusing
row t n = record { when = t; number = n }

-- "the lowest number first where several apply": the number of the first row that applies, and 0 where none does.
-- A call lists its rows in the order in which they are tested.
abbrev pub refusal : List Refusing → ℕ
refusal [] = 0
refusal (r ∷ rs) = cond r.when r.number (refusal rs)

-- What a call says: a refusal's number and no value, or 0 and the values.
pub record Reply : Type 0 where
  pub number : ℕ
  pub values : List ℕ

abbrev pub replied : List ℕ → Reply
replied vs = record { number = 0; values = vs }

-- "A refusal carries its number and no value"
abbrev pub refused_by : ℕ → Reply
refused_by n = record { number = n; values = [] }

-- the refusal where there is one, else the values
abbrev pub reply : ℕ → List ℕ → Reply
reply n vs = cond (n == 0) (replied vs) (refused_by n)

-- "every lent record stays as found" where there is a refusal; else it is the new one
abbrev pub unless_refused {ℓ} : {A : Type ℓ} → ℕ → A → A → A
unless_refused n old new = cond (n == 0) new old

-- ======== rows of refusals as a relation

-- a row: unless this holds the number is k, and where it holds the rows after it decide
abbrev pub unless : Type 0 → ℕ → (ℕ → Type 0) → ℕ → Type 0
unless holds k more r = ((holds → ⊥) × (r ≡ k)) ⊎ (holds × more r)

-- no row is left: not refused
abbrev pub not_refused : ℕ → Type 0
not_refused r = r ≡ 0
