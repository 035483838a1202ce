-- Each row of the worked numbers is right: one test, computed over the whole table from the definitions that the
-- promises cite.
use Rattle.std.specs.Prelude.{ℕ, Bool, true, false, ◌&&◌, List, [], ◌∷◌, map, length, replicate, T, eqb}
use Rattle.numbers.specs.Shared.{is_power_to, power_for}
use Rattle.sketch_rules.specs.Sketch.{counter, word, sum_to as total, raised, halved, odds, halved_to, odds_to, product, folded, word_at, counted, rose, sound}
use Rattle.sketch_rules.specs.Sketch.{increased_table, increased_sketch, unused_sketch, ensure_refusal, ensured_table, ensured_sketch, standing, ensure_capacity}
use Rattle.sketch_rules.specs.Sketch.{increase_hash, Holding as Held, run}
use Rattle.rules.specs.Places.{tick}
use Rattle.rules.specs.Worked.{is_placed, fires_first}
use Rattle.worked.specs.Rows.{Row, placed, fires, sketched, rows}

-- two lists of numbers are the same
abbrev same : List ℕ → List ℕ → Bool
same [] [] = true
same [] (y ∷ ys) = false
same (x ∷ xs) [] = false
same (x ∷ xs) (y ∷ ys) = eqb x y && same xs ys

-- an unused sketch on a zeroed table of n words, after a capacity was ensured and these hashes increased
abbrev after : ℕ → ℕ → List ℕ → Held
after n capacity hashes = run (record { table = replicate n 0; sketch = unused_sketch }) (ensure_capacity capacity ∷ map increase_hash hashes)

abbrev pub is_right : Row → Bool
is_right (placed reading deadline level index) = is_placed reading deadline level index
is_right (fires reading deadline tick) = fires_first reading deadline tick
is_right (sketched capacity hashes words size) =
    same (after (length words) capacity hashes).table words && eqb (after (length words) capacity hashes).sketch.size size

abbrev pub all_right : List Row → Bool
all_right [] = true
all_right (r ∷ rs) = is_right r && all_right rs

pub all_right_lem : T (all_right rows)
unfolding tick is_power_to power_for counter word total raised halved odds halved_to odds_to product folded word_at counted rose sound increased_table increased_sketch
    ensure_refusal ensured_table ensured_sketch standing
all_right_lem = tt
