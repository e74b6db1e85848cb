-- The block that a graph's content makes with a table of its arcs' rows.
use Rattle.std.specs.Prelude.{ℕ, suc, List, [], ◌∷◌, ℤ, Some, None, Option, slice_index_or}
use Rattle.measure.specs.Rows.{on_some}
use Rattle.graph.specs.declared.parts.LiveArc.{LiveArc}
use Rattle.graph.specs.Block.{Block}
use Rattle.paths.specs.Blocks.{Arc, RowBlock}

module _ {R : Type 0} (none : R) (rows : List R) where
  abbrev pub arc_with : ℕ → LiveArc → Arc R
  arc_with k e = record { number = k; from = e.from; to = e.to; row = slice_index_or rows k none; sets = e.sets }

  -- the live arcs among es, numbered from k
  abbrev pub arcs_with : ℕ → List (Option LiveArc) → List (Arc R)
  arcs_with k [] = []
  arcs_with k (None ∷ es) = arcs_with (suc k) es
  arcs_with k (Some e ∷ es) = arc_with k e ∷ arcs_with (suc k) es

  abbrev pub block_with : (ℤ → R) → Block → RowBlock R
  block_with row_of_time g = record {
    arcs = arcs_with 0 g.arcs;
    start = λ v. on_some row_of_time (slice_index_or g.starts v None);
    end = λ v. on_some row_of_time (slice_index_or g.ends v None);
  }

-- the arcs and their sets alone
abbrev pub bare : List (Option LiveArc) → RowBlock (Unit {0})
bare es = record { arcs = arcs_with tt [] 0 es; start = λ v. None; end = λ v. None }
