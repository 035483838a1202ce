-- inner: the position of an advance, by level and step, and the next one.
use Rattle.std.specs.Prelude.{ℕ, ◌+◌, Bool, cond, ltb, length, Option, Some, None, is_some}
use Rattle.rules.specs.Places.{Geometry, visited_at}
use Rattle.wheel_rules.specs.declared.popping.Position.{Position}

-- in the j-th bucket of the level l
abbrev pub at : ℕ → ℕ → Option Position
at l j = Some (record { level = l; step = j })

-- past all of them
abbrev pub over : Option Position
over = None

-- whether there is one, and which: of none level and step are 0
abbrev pub more : Option Position → Bool
more r = is_some r

abbrev pub level_of : Option Position → ℕ
level_of (Some r) = r.level
level_of None = 0

abbrev pub step_of : Option Position → ℕ
step_of (Some r) = r.step
step_of None = 0

-- "Advance goes level by level from 0. If q's tick at a level is not above p's, everything ends": after the j-th bucket
-- of the level l comes the next one of that level, else the first of the next level, if there is one and it visits any
abbrev pub onward : Geometry → ℕ → ℕ → ℕ → ℕ → Option Position
onward g p q l j =
    cond (ltb j (visited_at g p q l)) (at l (j + 1))
    (cond (ltb l (length g.sizes)) (cond (ltb 0 (visited_at g p q (l + 1))) (at (l + 1) 1) over) over)
