-- Where the lines of each node stand in a table.
use Rattle.std.specs.Prelude.{◌≡◌, ℕ, ◌+◌, ◌<◌, ◌≤◌, List, length, slice_index, slice_index_or}
use Rattle.sheet.specs.declared.line.Line.{Line}
use Rattle.sheet.specs.Lines.{past_line}

-- the lines of the node v are those from its first up to the next node's first
pub record GroupAt (ls : List Line) (firsts : List ℕ) (v : ℕ) : Type 0 where
  pub rising : slice_index_or firsts v 0 ≤ slice_index firsts (v + 1)
  pub stand : slice_index_or firsts (v + 1) 0 ≤ length ls
  pub inside : (i : ℕ) → slice_index firsts v ≤ i → i < slice_index firsts (v + 1) → (slice_index_or ls i past_line).node ≡ v
  pub outside : (i : ℕ) → i < length ls → (slice_index_or ls i past_line).node ≡ v → (slice_index firsts v ≤ i) × (i < slice_index firsts (v + 1))

abbrev pub Grouped : List Line → List ℕ → Type 0
Grouped ls firsts = (v : ℕ) → v < 256 → GroupAt ls firsts v
