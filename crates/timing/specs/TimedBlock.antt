-- What a block with its ticks and sets stands for, under a measure.
use Rattle.std.specs.Prelude.{ℕ, List, map, Option}
use Rattle.measure.specs.declared.measure.Measure.{Ghosts as Measure}
use Rattle.measure.specs.Rows.{Row, zeros}
use Rattle.graph.specs.declared.parts.LiveArc.{LiveArc}
use Rattle.graph.specs.Block.{block_of}
use Rattle.paths.specs.Blocks.{RowBlock}
use Rattle.paths.specs.Sheets.{Line, Told, Timed, sheet}
use Rattle.timing.specs.declared.block.TimedBlock.{TimedBlock}
use Rattle.timing.specs.declared.crossing.Crossing.{Crossing}
use Rattle.timing.specs.Measured.{measured}
use Rattle.timing.specs.WithRows.{block_with}
use Rattle.timing.specs.Bringing.{crossing_of, brought}
use Rattle.timing.specs.Requiring.{Mark, asked_at}

-- what each arc number has, if it is live
abbrev pub arcs_in : TimedBlock → List (Option LiveArc)
arcs_in t = (block_of t.graph.now).arcs

module _ {M : Type 0} (m : Measure M) where
  -- the block in rows, which the theorems are about
  abbrev pub rows_of : TimedBlock → RowBlock (Row m.width)
  rows_of t = block_with (zeros m.width) (map m.row_of_arc t.ticks) m.row_of_time (block_of t.graph.now)

  -- its sheet
  abbrev pub sheet_of : TimedBlock → List (Timed (Row m.width))
  sheet_of t = sheet (measured m) (rows_of t) 256

  -- the live arc e, numbered k, as it is crossed
  abbrev pub crossing_at : TimedBlock → ℕ → LiveArc → Crossing (Row m.width)
  crossing_at t k e = crossing_of (measured m) (arcs_in t) (map m.row_of_arc t.ticks) k e

  -- what the arc numbered k brings from the lines ls, of which each node's begin where firsts says
  abbrev pub brings : TimedBlock → List ℕ → List (Line (Row m.width)) → ℕ → List (Line (Row m.width))
  brings t firsts ls k = brought (measured m) (arcs_in t) (map m.row_of_arc t.ticks) firsts ls k

  -- what is asked over the arc numbered k of a line with tag s, by the lines that are marked so
  abbrev pub asks : TimedBlock → List ℕ → List (Mark (Row m.width)) → ℕ → ℕ → Option (Told (Row m.width))
  asks t firsts marks s k = asked_at (measured m) (arcs_in t) (map m.row_of_arc t.ticks) firsts marks s k
