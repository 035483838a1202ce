-- inner to the programs: lines as they come out of blocks: what the functions of `collecting` promise.
use Rattle.std.specs.Prelude.{Option, Some, None, ℕ, ◌+◌, ◌≤◌, ◌<◌, ◌≡◌, Bool, true, false, cond, List, ◌∷◌, ◌++◌, length, take, drop, get_or, eqb, ltb, leb}
use Rattle.std.specs.Borrow.{Bor}
use Rattle.lines.specs.Parts.{before}
use Rattle.lines.specs.declared.collecting.Collected.{Collected}
use Rattle.lines.specs.declared.collecting.Lines.{Lines}
use Rattle.lines.specs.declared.collecting.Kind.{Kind}
use Rattle.lines.specs.declared.collecting.Kind.TheVariants.{Silent, Long, Call}

-- the byte that ends a line
abbrev pub line_end : ℕ
line_end = 10

-- the bytes of the block, from `from` on, that belong to this line
abbrev pub this_line : List ℕ → ℕ → List ℕ
this_line block from = before line_end (drop from block)

-- 1 for the line end that was passed, 0 for none
abbrev pub passed : Bool → ℕ
passed ended = cond ended 1 0

-- The buffer `line` held `kept` bytes of the line and holds more of it now, as `buffer`.
pub record Collects (block : List ℕ) (from : ℕ) (line : List ℕ) (kept : ℕ) (buffer : List ℕ) (r : Collected) : Type 0 where
  -- the bytes held are the first of those held before and those of this line, as many as there is room for
  pub holds : take r.kept buffer ≡ take (length line) (take kept line ++ this_line block from)
  -- the next line begins after this one and its end
  pub goes : r.next ≡ from + length (this_line block from) + passed r.ended
  -- the end was reached if the block has a byte more than this line's
  pub ends : r.ended ≡ ltb (length (this_line block from)) (length (drop from block))
  -- what a caller's loop needs: it comes further, and what is held lies within the buffer
  pub onward : from < length block → from < r.next
  pub within : kept ≤ length line → r.kept ≤ length buffer

-- One byte b more after the n that are held: whatever follows, the first bytes that there is room for are the same.
pub record Keeps (line : List ℕ) (n b : ℕ) (buffer : List ℕ) (r : ℕ) : Type 0 where
  pub holds : (rest : List ℕ) → take (length line) (take r buffer ++ rest) ≡ take (length line) (take n line ++ b ∷ rest)
  pub long : length buffer ≡ length line
  pub within : n ≤ length line → r ≤ length line

-- the reading before the first line: nothing of the block is read yet, and no line is found
pub record Unread (s : Lines) : Type 0 where
  pub none_taken : s.from ≡ 0
  pub none_read : s.upto ≡ 0
  pub none_found : s.held ≡ None

-- what is read of the block and yet to be taken holds the end of a line
abbrev pub line_there : Lines → Bool
line_there s = ltb (length (this_line (take s.upto s.block) s.from)) (length (drop s.from (take s.upto s.block)))

-- all that is read of the block is taken
abbrev pub all_taken : Lines → Bool
all_taken s = leb s.upto s.from

-- The next line, as far as it stands in the block already: then it is taken from there, and nothing is read. No
-- contract can say what a read brings.
pub record NextLine (s r : Lines) : Type 0 where
  pub taken : line_there s ≡ true → (kept : ℕ) × (r.held ≡ Some kept) × Collects (take s.upto s.block) s.from s.line 0 r.line (record { next = r.from; kept = kept; ended = true })
  pub unmoved : line_there s ≡ true → (r.block ≡ s.block) × (r.upto ≡ s.upto)

-- the line that was found: the first bytes of the buffer
abbrev pub Finds : Option ℕ → List ℕ → Option (Bor (List ℕ)) → Type 0
Finds None l None = Unit {0}
Finds None l (Some t) = ⊥
Finds (Some n) l None = ⊥
Finds (Some n) l (Some t) = t.now ≡ take n l

-- a comment begins with `#`
abbrev pub is_comment : List ℕ → Bool
is_comment l = eqb (get_or l 0 0) 35

abbrev pub pick_kind : Bool → Kind → Kind → Kind
pick_kind true a b = a
pick_kind false a b = b

-- A line longer than 256 bytes is a bad line, whatever it holds. An empty line and a comment answer nothing. Any other
-- is a call.
abbrev pub kind_of : List ℕ → Kind
kind_of l = pick_kind (ltb 256 (length l)) Long (pick_kind (eqb (length l) 0) Silent (pick_kind (is_comment l) Silent Call))
