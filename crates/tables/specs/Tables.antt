-- What tables on the heap hold, as the tables of a sheet.
use Rattle.std.specs.Prelude.{ℕ, Option, None, replicate, slice_get, if◌then◌else◌}
use Rattle.std.specs.Option.{option_and_then}
use Rattle.sheet.specs.declared.line.Line.{Line}
use Rattle.sheet.specs.declared.node.NodeEntry.{NodeEntry}
use Rattle.sheet.specs.Tables.{Tables as SheetTables, tables_of}
use Rattle.tables.specs.declared.tables.Tables.{Tables}

-- the tables by the rows that their values mean
abbrev pub sheet_of : {M R : Type 0} → (M → R) → Tables M → SheetTables R
sheet_of row t = tables_of row t.lines.items t.arrivals.items t.required.items t.nodes.items t.slacks.items

-- tables of so many lines and nodes that are full of one value each
abbrev pub full_of : {R : Type 0} → ℕ → ℕ → Line → NodeEntry → R → SheetTables R
full_of lines nodes line entry row = record {
  lines = replicate lines line;
  arrivals = replicate lines row;
  required = replicate lines row;
  nodes = replicate nodes entry;
  slacks = replicate nodes row;
}

-- the slack of a node whose entry says that it has one
abbrev pub slack_at : {M : Type 0} → Tables M → ℕ → Option M
slack_at t node = option_and_then (λ entry. if entry.timed then slice_get t.slacks.items node else None) (slice_get t.nodes.items node)
