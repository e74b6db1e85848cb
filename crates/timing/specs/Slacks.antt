-- The lines of the tables with their required times, and their slacks.
use Rattle.std.specs.Prelude.{◌≡◌, ℕ, suc, ◌<◌, true, List, [], ◌∷◌, ◌++◌, length, slice_index_or}
use Rattle.measure.specs.Rows.{Row, bounded}
use Rattle.paths.specs.Rows.{Rows}
use Rattle.paths.specs.Sheets as sheets
use Rattle.paths.specs.Sheets.{slack_of}
use Rattle.sheet.specs.declared.line.Line.{Line}
use Rattle.timing.specs.Lines.{view}
use Rattle.timing.specs.Requiring.{mark_of}

module _ {M R : Type 0} (row : M → R) where
  -- a line with its arrival and its required time
  abbrev pub timed_of : Line → M → M → sheets.Timed R
  timed_of l x y = record { line = view row l x; required = (mark_of row l y).required }

  abbrev pub timeds : List Line → List M → List M → List (sheets.Timed R)
  timeds [] xs ys = []
  timeds (l ∷ ls) [] ys = []
  timeds (l ∷ ls) (x ∷ xs) [] = []
  timeds (l ∷ ls) (x ∷ xs) (y ∷ ys) = timed_of l x y ∷ timeds ls xs ys

-- the slacks of the lines ts, numbered from k
abbrev pub slacks_of : {R : Type 0} → Rows R → ℕ → List (sheets.Timed R) → List (sheets.Told R)
slacks_of m k [] = []
slacks_of m k (t ∷ ts) = slack_of m k t t.required ++ slacks_of m (suc k) ts

-- no time is beyond 256 million, to either side of zero
abbrev pub TimesWithin : {M : Type 0} (w : ℕ) → (M → Row w) → List M → Type 0
TimesWithin {M} w row xs = (j : ℕ) (x : M) → j < length xs → x ≡ slice_index_or xs j x → bounded w 256000000 (row x) ≡ true
