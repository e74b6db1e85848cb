-- The arrivals that arcs bring to a node, from the lines in front of its own.
use Rattle.std.specs.Prelude.{◌≡◌, ℕ, ◌+◌, ◌-◌, ◌<◌, ◌≤◌, List, [], length, get_or, Some, None, Option, slice_index, slice_index_or}
use Rattle.graph.specs.declared.parts.LiveArc.{LiveArc}
use Rattle.graph.specs.Sorting.{segment}
use Rattle.paths.specs.Rows.{Rows}
use Rattle.paths.specs.Blocks.{begin_sets, end_sets}
use Rattle.paths.specs.Sheets.{Line}
use Rattle.timing.specs.declared.crossing.Crossing.{Crossing}
use Rattle.timing.specs.WithRows.{bare}
use Rattle.timing.specs.Crossings.{crossed}

-- the lines of the arc's first node stand among the first ones
pub record Ready (firsts : List ℕ) (base : ℕ) (e : LiveArc) : Type 0 where
  pub rising : get_or firsts e.from 0 ≤ slice_index firsts (e.from + 1)
  pub stand : get_or firsts (e.from + 1) 0 ≤ base

-- and so for each of the arcs numbered ks
abbrev pub AllReady : List (Option LiveArc) → List ℕ → ℕ → List ℕ → Type 0
AllReady arcs firsts base ks = (i : ℕ) (e : LiveArc) → i < length ks → slice_index_or arcs (slice_index ks i) None ≡ Some e → Ready firsts base e

module _ {R : Type 0} (m : Rows R) (arcs : List (Option LiveArc)) (rows : List R) where
  -- the arc e, numbered k, as it is crossed
  abbrev pub crossing_of : ℕ → LiveArc → Crossing R
  crossing_of k e = record { arc = k; to = e.to; begins = begin_sets (bare arcs) e.from; sets = e.sets; ends = end_sets (bare arcs) e.to; row = slice_index_or rows k m.origin }

  module _ (firsts : List ℕ) where
    -- what the arc numbered k, if it is live, brings from the lines ls
    abbrev pub brought_over : List (Line R) → ℕ → Option LiveArc → List (Line R)
    brought_over ls k None = []
    brought_over ls k (Some e) = let first = get_or firsts e.from 0 in crossed m (crossing_of k e) first (segment first (slice_index firsts (e.from + 1) - first) ls)

    abbrev pub brought : List (Line R) → ℕ → List (Line R)
    brought ls k = brought_over ls k (slice_index_or arcs k None)
