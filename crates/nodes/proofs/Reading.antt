-- A field of lent nodes, read into its column.
--     reads_more     one node more of a block
--     reads_on       a block, after the nodes that are read
use borrow.Rule.Slice.PartMut.{put_mid}
use Rattle.std.proofs.Common.{◌≡◌, ◌∙◌, refl, sym, ap, ℕ, zero, suc, ◌+◌, ◌-◌, ◌≤◌, ◌<◌, List, [], ◌∷◌, ◌++◌, map, length, get_or, take, drop, arith}
use Rattle.std.proofs.Common.{add-one, append_assoc, length-append, length-take-le, length-drop, take-add, take_at}
use Rattle.std.proofs.lemmas.List.{drop-drop, drop_at, length-map, map-append}
use lib.ListN.{set}
use native.Mathlib.Nat.{le_of_suc-le-suc, not-suc-le-zero}
use Rattle.face_rules.specs.declared.Node.{Node}

module _ {A B : Type 0} (f : A → B) (d : A) where
  more : (xs : List A) (ys : List B) (i : ℕ) → i < length xs → i < length ys
      → set (map f (take i xs) ++ drop i ys) i (f (get_or xs i d)) ≡ map f (take (suc i) xs) ++ drop (suc i) ys
  more [] ys i a b = absurd (not-suc-le-zero a)
  more (x ∷ xs) [] i a b = absurd (not-suc-le-zero b)
  more (x ∷ xs) (y ∷ ys) zero a b = refl
  more (x ∷ xs) (y ∷ ys) (suc i) a b = ap (λ l. f x ∷ l) (more xs ys i (le_of_suc-le-suc a) (le_of_suc-le-suc b))

  pub reads_more : (xs : List A) (ys zs : List B) (i : ℕ) → i < length xs → length ys ≡ length xs → zs ≡ map f (take i xs) ++ drop i ys
      → set zs i (f (get_or xs i d)) ≡ map f (take (i + 1) xs) ++ drop (i + 1) ys
  reads_more xs ys zs i a same e =
      ap (λ l. set l i (f (get_or xs i d))) e ∙ more xs ys i a (omega (arith, same))
      ∙ ap (λ k. map f (take k xs) ++ drop k ys) (sym (add-one i))

-- the nodes after the first `from` begin with a block
module _ (ns block rest : List Node) (from : ℕ) (within : from ≤ length ns) (next : drop from ns ≡ block ++ rest) where
  abbrev to : ℕ
  to = from + length block

  whole : take to ns ≡ take from ns ++ block
  whole = take-add from (length block) ns ∙ ap (λ l. take from ns ++ l) (ap (take (length block)) next ∙ take_at block rest _ refl)

  pub reads_on : (g : Node → ℕ) (xs ys : List ℕ) → to ≤ length xs → take from xs ≡ map g (take from ns) → ys ≡ map g block
      → take to (put_mid from (to - from) xs ys) ≡ map g (take to ns)
  reads_on g xs ys room before here =
      let long : length (take from xs ++ ys) ≡ to =
      omega (arith, length-append (take from xs) ys, length-take-le from xs (omega (arith, room)), ap length here, length-map block g) in
      ap (take to) (sym (append_assoc (take from xs) ys _)) ∙ take_at (take from xs ++ ys) _ to long ∙ (λ i. before i ++ here i)
      ∙ sym (map-append g (take from ns) block) ∙ ap (map g) (sym whole)

  pub left_is : rest ≡ drop to ns
  left_is = sym (sym (drop-drop (length block) from ns) ∙ ap (drop (length block)) next ∙ drop_at block rest _ refl)

  pub to_within : to ≤ length ns
  to_within = omega (arith, ap length next, length-append block rest, length-drop from ns)
