-- What the arrival pass leaves.
use Rattle.std.specs.Prelude.{◌≡◌, ℕ, ◌<◌, ◌≤◌, List, length, Some, None, Option, slice_index}
use Rattle.paths.specs.Rows.{Rows}
use Rattle.paths.specs.Blocks.{RowBlock}
use Rattle.paths.specs.Sheets.{arrivals}
use Rattle.sheet.specs.declared.line.Line.{Line}
use Rattle.timing.specs.Lines.{front}

-- the first n lines are the arrivals of the nodes below v, and firsts says where each node's lines begin
pub record Arrived {M R : Type 0} (row : M → R) (m : Rows R) (b : RowBlock R) (v : ℕ) (ls : List Line) (xs : List M) (firsts : List ℕ) (n : ℕ) : Type 0 where
  pub stand : front row n ls xs ≡ arrivals m b v
  pub fit : n ≤ length ls
  pub even : length xs ≡ length ls
  pub firsts_are : (u : ℕ) → u ≤ v → slice_index firsts u ≡ length (arrivals m b u)

-- the pass over all nodes: how many lines there are, or None exactly when the table has fewer lines than there are arrivals
abbrev pub Arrives : {M R : Type 0} → (M → R) → Rows R → RowBlock R → List Line → List M → List ℕ → Option ℕ → Type 0
Arrives row m b ls xs firsts None = length ls < length (arrivals m b 256)
Arrives row m b ls xs firsts (Some n) = (n ≡ length (arrivals m b 256)) × Arrived row m b 256 ls xs firsts n
