-- The digest of a run of numbers is a fold.
use Rattle.std.proofs.Common.{◌≡◌, ℕ, List, [], ◌∷◌, refl}
use Rattle.std.specs.List.{fold}
use Rattle.lines.specs.Digests.{mixed, mixed_all, mixed_row, counts_as}
use Rattle.lines.specs.declared.rows.Value.{Value}

pub mixed_fold : (h : ℕ) (l : List ℕ) → fold mixed h l ≡ mixed_all h l
unfolding mixed_all
mixed_fold h [] = refl
mixed_fold h (x ∷ l) = mixed_fold (mixed h x) l

pub mixed_row_fold : (h : ℕ) (vs : List Value) → fold (λ d v. mixed d (counts_as v)) h vs ≡ mixed_row h vs
unfolding mixed_row
mixed_row_fold h [] = refl
mixed_row_fold h (v ∷ vs) = mixed_row_fold (mixed h (counts_as v)) vs
