-- Rows of one value, and tables that are lent whole.
use Rattle.std.proofs.Common.{◌≡◌, ℕ, zero, suc, List, map, replicate, ◌∷◌, refl, ap}
use Rattle.sheet.specs.declared.line.Line.{Line}
use Rattle.sheet.specs.declared.node.NodeEntry.{NodeEntry}
use Rattle.sheet.specs.Tables.{tables_of}
use Rattle.tables.specs.declared.tables.Tables.{Tables}
use Rattle.tables.specs.Tables.{sheet_of}

pub map-replicate : {M R : Type 0} (row : M → R) (n : ℕ) (x : M) → map row (replicate n x) ≡ replicate n (row x)
map-replicate row zero x = refl
map-replicate row (suc n) x = ap (λ xs. row x ∷ xs) (map-replicate row n x)

pub lent_whole : {M R : Type 0} (row : M → R) (t : Tables M) (ls : List Line) (vs : List M) (rs : List M) (ns : List NodeEntry) (ss : List M) → ls ≡ t.lines.items → vs ≡ t.arrivals.items → rs ≡ t.required.items → ns ≡ t.nodes.items → ss ≡ t.slacks.items → tables_of row ls vs rs ns ss ≡ sheet_of row t
lent_whole row t ls vs rs ns ss lines arrivals required nodes slacks = simp (lines, arrivals, required, nodes, slacks) refl
