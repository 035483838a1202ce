-- The armed slots are counted from the first slot after the sentinels on.
use Rattle.std.proofs.Common.{◌≡◌, ℕ, zero, suc, ◌+◌, ◌-◌, ◌≤◌, ◌<◌, Bool, true, false, cond, List, length, get_or, take, drop, count_by, refl, sym, ap, ◌∙◌, arith, add-one, length-drop, length-take}
use Rattle.std.proofs.lemmas.List.{get_or-drop}
use Rattle.std.proofs.lemmas.List.Sums.{count_by_more_yes, count_by_more_no, count_by-le-length}
use lib.Dec.{ltb}
use Rattle.rules.specs.Places.{wheel01}
use Rattle.wheel_rules.specs.records.Counts.{armed_among, Counts}
use Rattle.wheel_rules.proofs.records.Counting.{none_below, one_more, counted_all}

module _ (D : ℕ) (bucket : List ℕ) where
  abbrev rest : List ℕ
  rest = drop D bucket

  abbrev p : ℕ → Bool
  p b = ltb b D

  counted : (j : ℕ) → D + j ≤ length bucket → count_by p (take j rest) ≡ armed_among D bucket (D + j)
  counted zero h = sym (none_below D bucket (D + 0) (omega arith))
  counted (suc j) h =
      let within : j < length rest = omega (arith, length-drop D bucket) in
      let so_far : count_by p (take j rest) ≡ armed_among D bucket (D + j) = counted j (omega arith) in
      let one : armed_among D bucket (D + j + 1) ≡ armed_among D bucket (D + j) + cond (p (get_or bucket (D + j) 0)) 1 0 =
      one_more D bucket (D + j) (omega arith) in
      let next : D + (j + 1) ≡ D + j + 1 = omega arith in
      rw (← add-one j, next) (go (p (get_or bucket (D + j) 0)) refl within so_far one)
    where
      go : (b : Bool) → p (get_or bucket (D + j) 0) ≡ b → j < length rest → count_by p (take j rest) ≡ armed_among D bucket (D + j)
          → armed_among D bucket (D + j + 1) ≡ armed_among D bucket (D + j) + cond (p (get_or bucket (D + j) 0)) 1 0
          → count_by p (take (j + 1) rest) ≡ armed_among D bucket (D + j + 1)
      go true e l so one =
          omega (arith, so, rw e at one, count_by_more_yes p rest j 0 l (rw get_or-drop e))
      go false e l so one =
          omega (arith, so, rw e at one, count_by_more_no p rest j 0 l (rw get_or-drop e))

pub counts_by : (h bucket : List ℕ) (n : ℕ) → length h ≤ length bucket
    → n ≡ count_by (λ b. ltb b (length h)) (take (length bucket - length h) (drop (length h) bucket)) → Counts wheel01 h bucket n
counts_by h bucket n room e =
    let D : ℕ = length h in
    let all : D + (length bucket - D) ≡ length bucket = omega arith in
    counted_all h bucket n (length bucket)
    (record {
      is = e ∙ counted D bucket (length bucket - D) (omega arith) ∙ ap (armed_among D bucket) all;
      few = omega (arith, e, count_by-le-length (λ b. ltb b D) (take (length bucket - D) (drop D bucket)), length-take (length bucket - D) (drop D bucket), length-drop D bucket);
      past = room;
      within = omega arith;
    })
    (omega arith)
