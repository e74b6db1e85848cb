-- The tables that a caller lends.
use Rattle.std.specs.Prelude.{◌≡◌}
use Rattle.sheet.specs.declared.tables.TablesRef.{TablesRef}
use Rattle.sheet.specs.declared.tables.TablesMut.{TablesMut}
use Rattle.sheet.specs.Tables.{Tables, tables_of}

module _ {M R : Type 0} (row : M → R) where
  -- by the rows that their values mean: lent to be read
  abbrev pub tables_seen : TablesRef M → Tables R
  tables_seen t = tables_of row t.lines.now t.arrivals.now t.required.now t.nodes.now t.slacks.now

  -- and lent to be written
  abbrev pub tables_in : TablesMut M → Tables R
  tables_in t = tables_of row t.lines.now t.arrivals.now t.required.now t.nodes.now t.slacks.now

-- what is written to the tables is written to the same caller's
pub record SameLoans {M : Type 0} (t u : TablesMut M) : Type 0 where
  pub lines : u.lines.ghost_name ≡ t.lines.ghost_name
  pub arrivals : u.arrivals.ghost_name ≡ t.arrivals.ghost_name
  pub required : u.required.ghost_name ≡ t.required.ghost_name
  pub nodes : u.nodes.ghost_name ≡ t.nodes.ghost_name
  pub slacks : u.slacks.ghost_name ≡ t.slacks.ghost_name
