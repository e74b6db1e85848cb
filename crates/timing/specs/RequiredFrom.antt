-- How far the required pass has come.
use Rattle.std.specs.Prelude.{◌≡◌, ℕ, ◌≤◌, true, false, List, map, length, drop, Some, None, Option, slice_index}
use Rattle.paths.specs.Rows.{Rows}
use Rattle.paths.specs.Blocks.{RowBlock}
use Rattle.paths.specs.Sheets as sheets
use Rattle.paths.specs.Sheets.{no_arc, no_line, arrivals, timed}
use Rattle.sheet.specs.declared.line.Line.{Line}
use Rattle.sheet.specs.Written.{line_with, line_of, required_of}

-- the line l with what is asked of it, or nothing
abbrev pub asked_line : {R : Type 0} → Line → Option (sheets.Told R) → Line
asked_line l None = record { node = l.node; tag = l.tag; back_arc = l.back_arc; back_line = l.back_line; fore_arc = no_arc; fore_line = no_line; required = false }
asked_line l (Some y) = record { node = l.node; tag = l.tag; back_arc = l.back_arc; back_line = l.back_line; fore_arc = y.arc; fore_line = y.line; required = true }

-- a line without what is asked of it
abbrev pub unasked : Line → Line
unasked l = record { node = l.node; tag = l.tag; back_arc = l.back_arc; back_line = l.back_line; fore_arc = no_arc; fore_line = no_line; required = false }

abbrev pub unasked_of : {R : Type 0} → sheets.Line R → Line
unasked_of l = line_with l None

-- where the lines of each node begin, for the nodes up to n
abbrev pub FirstsAre : {R : Type 0} → Rows R → RowBlock R → ℕ → List ℕ → Type 0
FirstsAre m b n firsts = (u : ℕ) → u ≤ n → slice_index firsts u ≡ length (arrivals m b u)

-- the table has the lines of the nodes below n, and those from i on have their required times
pub record RequiredFrom {M R : Type 0} (row : M → R) (m : Rows R) (b : RowBlock R) (n i : ℕ) (ls : List Line) (ys : List M) : Type 0 where
  pub arrived : map unasked ls ≡ map unasked_of (arrivals m b n)
  pub lines : drop i ls ≡ map line_of (timed m b i (drop i (arrivals m b n)))
  pub rows : map row (drop i ys) ≡ map (required_of m.origin) (timed m b i (drop i (arrivals m b n)))
