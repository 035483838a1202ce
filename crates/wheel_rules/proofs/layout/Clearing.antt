-- Lists filled with one value, as the loops of `clear` and `clear_entries` fill them.
use Prim.Native.Nat.{ℕ, ◌+◌, ◌≤◌, ◌<◌}
use native.Mathlib.Omega.{arith}
use mathlib.Core.Path.{◌≡◌, refl, sym, ◌∙◌}
use mathlib.Core.Logic.{⊎_elim}
use mathlib.Core.Bool.{Bool, false}
use mathlib.Core.List.{List}
use lib.ListN.{length, get_or, set, length-set, replicate, length-replicate, get_or-replicate}
use lib.Seq.{get_or-set_same, get_or-set_other, ext_get_or}
use Rattle.numbers.proofs.Cases.{same?}
use Rattle.wheel_rules.specs.layout.Layout.{Clears, ClearsEntries}

-- of the list l₀ the first x places hold v
pub record Filled {A : Type 0} (v : A) (l₀ l : List A) (x : ℕ) : Type 0 where
  pub len : length l ≡ length l₀
  pub all : (i : ℕ) → i < x → get_or l i v ≡ v

begins : {A : Type 0} (v : A) (l : List A) → Filled v l l 0
begins v l = record { len = refl; all = λ i h. absurd (omega arith) }

more : {A : Type 0} (v : A) (l₀ l : List A) (x : ℕ) → x < length l₀ → Filled v l₀ l x → Filled v l₀ (set l x v) (x + 1)
more v l₀ l x h f =
    record {
      len = length-set l x v ∙ f.len;
      all = λ i k.
          ⊎_elim
          (λ (e : i ≡ x). rw e (get_or-set_same l x v v (omega (arith, f.len))))
          (λ (n : i ≡ x → ⊥). get_or-set_other l x i v v n ∙ f.all i (omega (arith, n)))
          (same? i x);
    }

all_of : {A : Type 0} (v : A) (l₀ l : List A) (x n : ℕ) → length l₀ ≡ n → n ≤ x → Filled v l₀ l x → l ≡ replicate n v
all_of v l₀ l x n e h f =
    ext_get_or v l (replicate n v) (f.len ∙ e ∙ sym (length-replicate n v))
    (λ i k. let k' : i < n = omega (arith, k, f.len, e) in f.all i (omega arith) ∙ sym (get_or-replicate n i v v k'))

-- ---- clear
pub record Clearing (e₀ g₀ s₀ e g s : List ℕ) (x : ℕ) : Type 0 where
  pub entry : Filled 0 e₀ e x
  pub generation : Filled 0 g₀ g x
  pub serial : Filled 0 s₀ s x

pub clear_begins : (e g s : List ℕ) → Clearing e g s e g s 0
clear_begins e g s = record { entry = begins 0 e; generation = begins 0 g; serial = begins 0 s }

pub clear_again : (e₀ g₀ s₀ e g s : List ℕ) (x : ℕ) → (length g₀ ≡ length e₀) × (length s₀ ≡ length e₀) → Clearing e₀ g₀ s₀ e g s x → x < length e
    → Clearing e₀ g₀ s₀ (set e x 0) (set g x 0) (set s x 0) (x + 1)
clear_again e₀ g₀ s₀ e g s x l c h =
    let k : x < length e₀ = omega (arith, c.entry.len) in
    record {
      entry = more 0 e₀ e x k c.entry;
      generation = more 0 g₀ g x (omega (arith, l.0)) c.generation;
      serial = more 0 s₀ s x (omega (arith, l.1))
          c.serial;
    }

pub clear_ends : (e₀ g₀ s₀ e g s : List ℕ) (x : ℕ) → (length g₀ ≡ length e₀) × (length s₀ ≡ length e₀) → Clearing e₀ g₀ s₀ e g s x → length e ≤ x → Clears e₀
    g₀ s₀ e g s
clear_ends e₀ g₀ s₀ e g s x l c h =
    let k : length e₀ ≤ x = omega (arith, c.entry.len) in
    record {
      entry_is = all_of 0 e₀ e x (length e₀) refl k c.entry;
      generation_is = all_of 0 g₀ g x (length e₀) l.0 k c.generation;
      serial_is = all_of 0 s₀ s x (length e₀) l.1 k c.serial;
    }

-- ---- clear_entries
pub record ClearingEntries (t₀ : List Bool) (d₀ g₀ : List ℕ) (t : List Bool) (d g : List ℕ) (x : ℕ) : Type 0 where
  pub dated : Filled false t₀ t x
  pub deadline : Filled 0 d₀ d x
  pub generation : Filled 0 g₀ g x

pub entries_begin : (t : List Bool) (d g : List ℕ) → ClearingEntries t d g t d g 0
entries_begin t d g = record { dated = begins false t; deadline = begins 0 d; generation = begins 0 g }

pub entries_again : (t₀ : List Bool) (d₀ g₀ : List ℕ) (t : List Bool) (d g : List ℕ) (x : ℕ) → (length d₀ ≡ length t₀) × (length g₀ ≡ length t₀)
    → ClearingEntries t₀ d₀ g₀ t d g x → x < length t → ClearingEntries t₀ d₀ g₀ (set t x false) (set d x 0) (set g x 0) (x + 1)
entries_again t₀ d₀ g₀ t d g x l c h =
    let k : x < length t₀ = omega (arith, c.dated.len) in
    record {
      dated = more false t₀ t x k c.dated;
      deadline = more 0 d₀ d x (omega (arith, l.0)) c.deadline;
      generation = more 0 g₀ g x
          (omega (arith, l.1)) c.generation;
    }

pub entries_end : (t₀ : List Bool) (d₀ g₀ : List ℕ) (t : List Bool) (d g : List ℕ) (x : ℕ) → (length d₀ ≡ length t₀) × (length g₀ ≡ length t₀)
    → ClearingEntries t₀ d₀ g₀ t d g x → length t ≤ x → ClearsEntries t₀ d₀ g₀ t d g
entries_end t₀ d₀ g₀ t d g x l c h =
    let k : length t₀ ≤ x = omega (arith, c.dated.len) in
    record {
      dated_is = all_of false t₀ t x (length t₀) refl k c.dated;
      deadline_is = all_of 0 d₀ d x (length t₀) l.0 k c.deadline;
      generation_is = all_of 0 g₀ g x (length t₀) l.1 k c.generation;
    }
