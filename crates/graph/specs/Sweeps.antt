-- How the arcs between two nodes are found: by marks on the nodes.
use Rattle.std.specs.Prelude.{◌≡◌, ℕ, ◌-◌, Bool, true, false, cond, ◌&&◌, ◌⊎◌, List, Some, None, Option, slice_index_or}
use Rattle.graph.specs.declared.parts.LiveArc.{LiveArc}
use Rattle.graph.specs.declared.parts.ArcEnd.{ArcEnd}
use Rattle.graph.specs.declared.parts.ArcEnd.TheVariants.{Tail, Head}
use Rattle.graph.specs.Index.{node_at}
use Rattle.graph.specs.Kept.{Live}
use Rattle.graph.specs.Order.{nth_node}
use Rattle.graph.specs.Paths.{Reach}
use Rattle.graph.specs.Sets.{in_set}

-- the node at the other end of an arc
abbrev pub far_at : ArcEnd → LiveArc → ℕ
far_at Tail e = e.to
far_at Head e = e.from

-- the node at a place of the order, counted from the first node for tails, from the last for heads
abbrev pub nth_from : ArcEnd → ℕ → ℕ
nth_from Tail place = nth_node place
nth_from Head place = nth_node (255 - place)

-- a path leads from the node to v, or, by the heads, from v to the node
abbrev pub Reaches : ArcEnd → List (Option LiveArc) → ℕ → ℕ → Type 0
Reaches Tail arcs node v = Reach arcs node v
Reaches Head arcs node v = Reach arcs v node

-- s' marks what s marks and, if the node is marked, the far node of each arc that has the node at that end
pub record Visited (end : ArcEnd) (arcs : List (Option LiveArc)) (node : ℕ) (s s' : List Bool) : Type 0 where
  pub kept : (v : ℕ) → slice_index_or s v false ≡ true → slice_index_or s' v false ≡ true
  pub sound : (v : ℕ) → slice_index_or s' v false ≡ true
      → (slice_index_or s v false ≡ true) ⊎ ((slice_index_or s node false ≡ true) × ((n : ℕ) × (e : LiveArc) × Live arcs n e × (node_at end e ≡ node) × (far_at end e ≡ v)))
  pub reached : (n : ℕ) (e : LiveArc) → Live arcs n e → node_at end e ≡ node → slice_index_or s node false ≡ true → slice_index_or s' (far_at end e) false ≡ true

-- is there an arc, from a node marked ahead to a node marked behind?
abbrev pub lies_on : List Bool → List Bool → Option LiveArc → Bool
lies_on ahead behind None = false
lies_on ahead behind (Some e) = slice_index_or ahead e.from false && slice_index_or behind e.to false

abbrev pub marked : ℕ → List Bool → List Bool → Option LiveArc → Option LiveArc
marked s ahead behind o = cond (lies_on ahead behind o) (in_set s o) o
