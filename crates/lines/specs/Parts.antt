-- inner to the programs: a line of a trace and its parts: a word and fields, separated by single spaces.
use Rattle.std.specs.Prelude.{ℕ, zero, suc, ◌+◌, Bool, true, false, cond, List, [], ◌∷◌, eqb}

-- the byte that separates parts
abbrev pub space : ℕ
space = 32

-- the bytes before the first b, all of them where there is none
unfoldable pub before : ℕ → List ℕ → List ℕ
before b [] = []
before b (x ∷ l) = cond (eqb x b) [] (x ∷ before b l)

-- the bytes after the first b, none where there is none
unfoldable pub after : ℕ → List ℕ → List ℕ
after b [] = []
after b (x ∷ l) = cond (eqb x b) l (after b l)

-- what is left of a line from part k on
unfoldable pub skipped : ℕ → List ℕ → List ℕ
skipped zero l = l
skipped (suc k) l = skipped k (after space l)

-- part k of a line, the first is part 0. An empty part is what two spaces side by side, or one at an end of the line,
-- enclose
abbrev pub part_of : ℕ → List ℕ → List ℕ
part_of k l = before space (skipped k l)

-- how many parts a line has: one more than it has spaces
unfoldable pub count_of : List ℕ → ℕ
count_of [] = 1
count_of (x ∷ l) = cond (eqb x space) (count_of l + 1) (count_of l)

-- two texts are the same, byte by byte
unfoldable pub alike : List ℕ → List ℕ → Bool
alike [] [] = true
alike [] (y ∷ w) = false
alike (x ∷ t) [] = false
alike (x ∷ t) (y ∷ w) = cond (eqb x y) (alike t w) false
