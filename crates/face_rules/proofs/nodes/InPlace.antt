-- The nodes, once each is written with what enabling lays out there, one a turn.
use Prim.Native.Nat.{ℕ, zero, suc, ◌+◌, ◌≤◌, ◌<◌}
use native.Mathlib.Omega.{arith}
use native.Mathlib.Numerals.{add-one}
use mathlib.Core.Path.{◌≡◌, refl, sym, ap, ◌∙◌}
use mathlib.Core.Logic.{⊎_elim}
use mathlib.Core.List.{List, map}
use lib.ListN.{length, length-map, get_or, get_or-map, replicate, length-replicate, get_or-replicate}
use borrow.Author.Tests.{lt-ltb, le-ltb}
use lib.Seq.{get_or-set_same, get_or-set_other, ext_get_or}
use Rattle.numbers.specs.Shared.{no_slot as none}
use Rattle.rules.specs.Places.{wheel01, buckets}
use Rattle.numbers.proofs.Cases.{same?}
use Rattle.wheel_rules.specs.Lent.{Nodes}
use Rattle.wheel_rules.specs.layout.Layout.{bare_links, bare_nodes}
use Rattle.wheel_rules.proofs.layout.Bare.{bare_next_len, bare_next_at, bare_prev_len, bare_prev_at, bare_home_len, bare_home_at}
use Rattle.face_rules.specs.declared.Node.{Node}
use Rattle.face_rules.specs.nodes.Columns.{Columns, columns, columns_of}
use Rattle.face_rules.specs.nodes.Laid.{laid_node, laid_nodes}
use Rattle.face_rules.proofs.nodes.Fills.{fills, length_fills, fills_all}
use Rattle.face_rules.proofs.nodes.Using.{blank}

-- ---- the node of a sentinel, of a free slot and of the last one
module _ (n i : ℕ) where
  abbrev D : ℕ
  D = buckets wheel01

  pub sentinel_laid : i < D → record { next = none; prev = none; bucket = i; entry = 0; generation = 0; serial = 0 } ≡ laid_node D n i
  sentinel_laid h = rw (lt-ltb i D h) refl

  pub free_laid : D ≤ i → i + 1 < n → record { next = i + 1; prev = none; bucket = none; entry = 0; generation = 0; serial = 0 } ≡ laid_node D n i
  free_laid h k = let k' : suc i < n = omega (arith, k) in rw (le-ltb i D h, lt-ltb (suc i) n k', add-one i) refl

  pub last_laid : D ≤ i → n ≤ i + 1 → record { next = none; prev = none; bucket = none; entry = 0; generation = 0; serial = 0 } ≡ laid_node D n i
  last_laid h k = let k' : n ≤ suc i = omega (arith, k) in rw (le-ltb i D h, le-ltb (suc i) n k') refl

-- ---- the nodes that are written one by one
fills_at : {X : Type 0} (f : ℕ → X) (xs : List X) (d : X) (k i : ℕ) → i < k → k ≤ length xs → get_or (fills f xs k) i d ≡ f i
fills_at f xs d zero i l h = absurd (omega arith)
fills_at f xs d (suc k) i l h =
    ⊎_elim
    (λ (e : i ≡ k). rw e (get_or-set_same (fills f xs k) k (f k) d (omega (arith, length_fills f xs k))))
    (λ (ne : i ≡ k → ⊥). get_or-set_other (fills f xs k) k i (f k) d ne ∙ fills_at f xs d k i (omega (arith, ne)) (omega arith))
    (same? i k)

-- a field of all the nodes, once each is written
field_is : (g : Node → ℕ) (f : ℕ → Node) (ns : List Node) (ys : List ℕ) → length ys ≡ length ns → ((i : ℕ) → i < length ns → g (f i) ≡ get_or ys i (g blank)) →
    map g (fills f ns (length ns)) ≡ ys
field_is g f ns ys e h =
    let zs : List Node = fills f ns (length ns) in
    let long : length (map g zs) ≡ length ns = length-map zs g ∙ length_fills f ns (length ns) in
    ext_get_or (g blank) (map g zs) ys (long ∙ sym e)
    (λ i l. let l' : i < length ns = omega (arith, l, long) in get_or-map g zs i blank ∙ ap g (fills_at f ns blank (length ns) i l' (omega arith)) ∙ h i l')

-- ---- the nodes after i turns, and after all
abbrev pub laid_to : List Node → ℕ → List Node
laid_to ns = fills (laid_node (buckets wheel01) (length ns)) ns

pub laid : (ns : List Node) → laid_to ns (length ns) ≡ laid_nodes (buckets wheel01) (length ns)
laid ns = fills_all (laid_node (buckets wheel01) (length ns)) ns

-- ---- what enabling makes of parallel slices: the columns of the node records
abbrev pub columns_in : Nodes → Columns
columns_in N = columns N.links.next N.links.prev N.links.home N.entry N.generation N.serial

-- the laid out nodes are the node records that enabling lays out, where they are no more than a wheel may have
pub laid_bare : (ns : List Node) → length ns ≤ none → columns_of (laid_nodes (buckets wheel01) (length ns)) ≡ columns_in (bare_nodes (buckets wheel01) (length ns))
laid_bare ns few =
    let D : ℕ = buckets wheel01 in
    let n : ℕ = length ns in
    let f : ℕ → Node = laid_node D n in
    let zeros : (i : ℕ) → i < n → ◌≡◌ {A = ℕ} 0 (get_or (replicate n 0) i 0) = λ i l. sym (get_or-replicate {A = ℕ} n i 0 0 l) in
    ap columns_of (sym (fills_all f ns))
    ∙ (λ i.
    columns (field_is (λ v. v.next) f ns (bare_links D n).next (bare_next_len D n few) (λ j l. sym (bare_next_at D n few j l)) i)
    (field_is (λ v. v.prev) f ns (bare_links D n).prev (bare_prev_len D n) (λ j l. sym (bare_prev_at D n j l)) i)
    (field_is (λ v. v.bucket) f ns (bare_links D n).home (bare_home_len D n) (λ j l. sym (bare_home_at D n j l)) i)
    (field_is (λ v. v.entry) f ns (replicate n 0) (length-replicate {A = ℕ} n 0) zeros i)
    (field_is (λ v. v.generation) f ns (replicate n 0) (length-replicate {A = ℕ} n 0) zeros i)
    (field_is (λ v. v.serial) f ns (replicate n 0) (length-replicate {A = ℕ} n 0) zeros i))
