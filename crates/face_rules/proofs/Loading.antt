-- From columns to the nodes that were read into them, and to those that are stored back from them: what holds of the
-- records of the columns' front holds of the nodes'.
use Prim.Native.Nat.{ℕ, ◌≤◌, ◌<◌}
use native.Mathlib.Omega.{arith}
use mathlib.Core.Path.{◌≡◌, sym, subst, ◌∙◌}
use mathlib.Core.List.{List, ◌++◌}
use lib.ListN.{length, take, drop}
use lib.Seq.{length-take-le, take_at}
use Rattle.wheel_rules.specs.declared.calls.Clock.{Clock}
use Rattle.wheel_rules.specs.Lent.{Entries, Records, records}
use Rattle.face_rules.specs.declared.Node.{Node}
use Rattle.face_rules.specs.nodes.Columns.{Columns, columns, columns_of, front, Holds, Loads, Stores}
use Rattle.face_rules.specs.Works.{lent_with as shown, slots, OfLoaded, OfStored}

-- the records that columns are, with heads and tails, the entries and the clock beside them
abbrev pub held : List ℕ → List ℕ → Columns → Entries → Clock → Records
held h t k E c = records (slots h t k) E c

-- ---- columns k of which the first n were lent, and came back as j: what the columns are then
abbrev pub over : ℕ → Columns → Columns → Columns
over n j k =
    columns (j.next ++ drop n k.next) (j.prev ++ drop n k.prev) (j.bucket ++ drop n k.bucket) (j.entry ++ drop n k.entry)
    (j.generation ++ drop n k.generation) (j.serial ++ drop n k.serial)

-- as long as what was lent, column by column
pub record AsLong (j k : Columns) : Type 0 where
  pub next_same : length j.next ≡ length k.next
  pub prev_same : length j.prev ≡ length k.prev
  pub bucket_same : length j.bucket ≡ length k.bucket
  pub entry_same : length j.entry ≡ length k.entry
  pub generation_same : length j.generation ≡ length k.generation
  pub serial_same : length j.serial ≡ length k.serial

module _ (n : ℕ) (fits : n ≤ 4096) where
  -- as many are lent of a column as there are nodes
  pub front_length : (xs : List ℕ) → 4096 ≤ length xs → n ≡ length (take n xs)
  front_length xs room = sym (length-take-le n xs (omega arith))

  column_front : (xs ys : List ℕ) → 4096 ≤ length ys → length xs ≡ length (take n ys) → take n (xs ++ drop n ys) ≡ xs
  column_front xs ys room same = take_at xs (drop n ys) n (same ∙ sym (front_length ys room))

  -- what came back stands at the front
  pub over_front : (j k : Columns) → Holds 4096 k → AsLong j (front n k) → front n (over n j k) ≡ j
  over_front j k room same =
      λ i.
      columns (column_front j.next k.next room.next_has same.next_same i)
      (column_front j.prev k.prev room.prev_has same.prev_same i)
      (column_front j.bucket k.bucket room.bucket_has same.bucket_same i)
      (column_front j.entry k.entry room.entry_has same.entry_same i)
      (column_front j.generation k.generation room.generation_has same.generation_same i)
      (column_front j.serial k.serial room.serial_has same.serial_same i)

-- ---- the columns' front is that of the nodes that were read, and of those that are stored back
module _ (ns : List Node) (k : Columns) (n : ℕ) (fits : n ≤ 4096) (e : length ns ≡ n) where
  loaded : Loads ns k → front n k ≡ columns_of ns
  loaded o = subst (λ (i : ℕ). front i k ≡ columns_of ns) e (o.is (omega arith))

  stored : (ns' : List Node) → Stores ns k ns' → front n k ≡ columns_of ns'
  stored ns' o = sym (subst (λ (i : ℕ). columns_of ns' ≡ front i k) e (o.fits (omega arith)))

module _ (P : Records → Records → Type 0) (k : Columns) (n : ℕ) (h t : List ℕ) (E : Entries) (c : Clock) where
  module _ (fits : n ≤ 4096) where
    -- no node is written
    pub reads : {E' : Entries} {b c' : Clock} → c' ≡ b → P (held h t (front n k) E c) (held h t (front n k) E' b)
        → OfLoaded k n (λ ns. P (shown h t ns E c) (shown h t ns E' c'))
    reads {E'} {b} {c'} a p ns e o =
        subst (λ (z : Columns). P (held h t z E c) (held h t z E' c')) (loaded ns k n fits e o)
        (subst (λ (z : Clock). P (held h t (front n k) E c) (held h t (front n k) E' z)) (sym a) p)

    -- nodes are written
    pub writes : {k' j : Columns} {h' t' : List ℕ} {E' : Entries} {b c' : Clock} → c' ≡ b → front n k' ≡ j
        → P (held h t (front n k) E c) (held h' t' j E' b)
        → OfStored k k' n (λ ns ns'. P (shown h t ns E c) (shown h' t' ns' E' c'))
    writes {k'} {j} {h'} {t'} {E'} {b} {c'} a w p ns ns' e o s =
        subst (λ (z : Columns). P (held h t z E c) (held h' t' (columns_of ns') E' c')) (loaded ns k n fits e o)
        (subst (λ (z : Columns). P (held h t (front n k) E c) (held h' t' z E' c')) (sym w ∙ stored ns k' n fits e ns' s)
        (subst (λ (z : Clock). P (held h t (front n k) E c) (held h' t' j E' z)) (sym a) p))

  -- more nodes than a wheel may have: every record stays
  module _ (many : 4096 < n) (p : (ns : List Node) → 4096 < length ns → P (shown h t ns E c) (shown h t ns E c)) where
    pub stays : OfLoaded k n (λ ns. P (shown h t ns E c) (shown h t ns E c))
    stays ns e o = p ns (omega (arith, e))

    pub stays_stored : {k' : Columns} → OfStored k k' n (λ ns ns'. P (shown h t ns E c) (shown h t ns' E c))
    stays_stored ns ns' e o s =
        let f : 4096 < length ns = omega (arith, e) in
        subst (λ (z : List Node). P (shown h t ns E c) (shown h t z E c)) (sym (s.stays f)) (p ns f)
