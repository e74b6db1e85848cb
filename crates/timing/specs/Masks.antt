-- The sets of the arcs at each node.
use Rattle.std.specs.Prelude.{◌≡◌, ℕ, ◌<◌, Bool, false, not, ◌&&◌, List, Some, None, Option, ◌==◌, bit_or, slice_index, slice_set}
use Rattle.std.specs.List.{list_any}
use Rattle.graph.specs.declared.parts.LiveArc.{LiveArc}
use Rattle.graph.specs.declared.parts.ArcEnd.{ArcEnd}
use Rattle.graph.specs.Index.{node_at}
use Rattle.paths.specs.Tags.{set_count, has, tag_of}
use Rattle.paths.specs.Blocks.{begin_sets, end_sets}
use Rattle.timing.specs.WithRows.{bare}

-- whether there is an arc, of set i, with the node v at that end
abbrev pub at_node : ArcEnd → ℕ → ℕ → Option LiveArc → Bool
at_node end v i None = false
at_node end v i (Some e) = has e.sets i && node_at end e == v

-- each node has the sets of its arcs at that end
abbrev pub Gathered : ArcEnd → List (Option LiveArc) → List ℕ → Type 0
Gathered end arcs masks = (v i : ℕ) → v < 256 → has (slice_index masks v) i ≡ list_any (at_node end v i) arcs

-- the sets of one more arc, if there is one
abbrev pub with_sets : ArcEnd → Option LiveArc → List ℕ → List ℕ
with_sets end None masks = masks
with_sets end (Some e) masks = slice_set masks (node_at end e) (bit_or (slice_index masks (node_at end e)) e.sets)

-- the sets of a mask that are not among the others
abbrev pub sets_without : ℕ → ℕ → ℕ
sets_without others mask = tag_of set_count (λ i. has mask i && not (has others i))

-- the tables of the sets that begin and end at each node
pub record Masked (arcs : List (Option LiveArc)) (begins ends : List ℕ) : Type 0 where
  pub begins_are : (v : ℕ) → v < 256 → slice_index begins v ≡ begin_sets (bare arcs) v
  pub ends_are : (v : ℕ) → v < 256 → slice_index ends v ≡ end_sets (bare arcs) v
