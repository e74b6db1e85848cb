-- A sheet as it stands in the tables.
use Rattle.std.specs.Prelude.{ℕ, ◌-◌, true, false, List, ◌++◌, map, length, replicate, Some, None, Option}
use Rattle.std.specs.List.{range_with_len}
use Rattle.paths.specs.Rows.{Rows}
use Rattle.paths.specs.Graphs.{node_count}
use Rattle.paths.specs.Sheets as sheets
use Rattle.paths.specs.Sheets.{no_arc, no_line, node_slack}
use Rattle.sheet.specs.declared.line.Line.{Line}
use Rattle.sheet.specs.declared.node.NodeEntry.{NodeEntry}
use Rattle.sheet.specs.Blanks.{blank_line, blank_entry}
use Rattle.sheet.specs.Tables.{Tables}

module _ {R : Type 0} where
  -- the plain part of a line: without a required time, its fore link is none
  abbrev pub line_with : sheets.Line R → Option (sheets.Told R) → Line
  line_with l None = record { node = l.node; tag = l.tag; back_arc = l.back_arc; back_line = l.back_line; fore_arc = no_arc; fore_line = no_line; required = false }
  line_with l (Some y) = record { node = l.node; tag = l.tag; back_arc = l.back_arc; back_line = l.back_line; fore_arc = y.arc; fore_line = y.line; required = true }

  abbrev pub line_of : sheets.Timed R → Line
  line_of t = line_with t.line t.required

  abbrev pub arrival_of : sheets.Timed R → R
  arrival_of t = t.line.arrival

  -- the row of what is told, or the row of zeros
  abbrev pub row_or : R → Option (sheets.Told R) → R
  row_or zero None = zero
  row_or zero (Some y) = y.row

  abbrev pub required_of : R → sheets.Timed R → R
  required_of zero t = row_or zero t.required

  -- the plain part of a node's entry
  abbrev pub entry_of : Option (sheets.Told R) → NodeEntry
  entry_of None = blank_entry
  entry_of (Some a) = record { timed = true; line = a.line }

-- one item for each node, by rising node
unfoldable pub by_nodes : {X : Type 0} → (ℕ → X) → List X
by_nodes f = map f (range_with_len 0 node_count)

-- the sheet ts in tables of size lines: what is not written is blank
abbrev pub written : {R : Type 0} → Rows R → ℕ → List (sheets.Timed R) → Tables R
written m size ts = record {
  lines = map line_of ts ++ replicate (size - length ts) blank_line;
  arrivals = map arrival_of ts ++ replicate (size - length ts) m.origin;
  required = map (required_of m.origin) ts ++ replicate (size - length ts) m.origin;
  nodes = by_nodes (λ v. entry_of (node_slack m v ts));
  slacks = by_nodes (λ v. row_or m.origin (node_slack m v ts));
}
