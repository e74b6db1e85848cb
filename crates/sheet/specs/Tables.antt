-- The tables of a timing sheet: a table of plain lines, the tables of their arrivals and required times, and the node tables, of plain entries and of slacks.
use Rattle.std.specs.Prelude.{ℕ, Bool, ◌&&◌, List, map, length, replicate, ◌==◌, nat_le}
use Rattle.sheet.specs.declared.line.Line.{Line}
use Rattle.sheet.specs.declared.node.NodeEntry.{NodeEntry}
use Rattle.sheet.specs.Blanks.{blank_line, blank_entry}

pub record Tables (R : Type 0) : Type 0 where
  pub lines : List Line
  pub arrivals : List R
  pub required : List R
  pub nodes : List NodeEntry
  pub slacks : List R

-- the tables by the rows that their values mean
abbrev pub tables_of : {M R : Type 0} → (M → R) → List Line → List M → List M → List NodeEntry → List M → Tables R
tables_of row lines arrivals required nodes slacks = record { lines = lines; arrivals = map row arrivals; required = map row required; nodes = nodes; slacks = map row slacks }

-- the line tables have one length, up to 4,096, and the node tables have 256 entries
abbrev pub sized : ℕ → ℕ → ℕ → ℕ → ℕ → Bool
sized lines arrivals required nodes slacks = nat_le lines 4096 && (arrivals == lines && (required == lines && (nodes == 256 && slacks == 256)))

abbrev pub well_sized : {R : Type 0} → Tables R → Bool
well_sized t = sized (length t.lines) (length t.arrivals) (length t.required) (length t.nodes) (length t.slacks)

-- blank tables of the same lengths, where zero is the row of zeros
abbrev pub blanked : {R : Type 0} → R → Tables R → Tables R
blanked zero t = record {
  lines = replicate (length t.lines) blank_line;
  arrivals = replicate (length t.arrivals) zero;
  required = replicate (length t.required) zero;
  nodes = replicate (length t.nodes) blank_entry;
  slacks = replicate (length t.slacks) zero;
}
