-- What every graph keeps.
use Rattle.std.specs.Prelude.{◌≡◌, ℕ, ◌<◌, true, List, ℤ, Some, None, Option, slice_index_or}
use Rattle.graph.specs.declared.parts.LiveArc.{LiveArc}
use Rattle.graph.specs.Order.{Precedes}
use Rattle.graph.specs.Ranges.{is_ticks}

-- arc number n is live, and is e
abbrev pub Live : List (Option LiveArc) → ℕ → LiveArc → Type 0
Live arcs n e = slice_index_or arcs n None ≡ Some e

-- a live arc's number is taken
abbrev pub Numbered : ℕ → List (Option LiveArc) → Type 0
Numbered taken arcs = (n : ℕ) (e : LiveArc) → Live arcs n e → n < taken

-- every arc goes from an earlier node to a later one
abbrev pub Rising : List (Option LiveArc) → Type 0
Rising arcs = (n : ℕ) (e : LiveArc) → Live arcs n e → Precedes e.from e.to

-- and between nodes: the later one is a node, and so is the earlier
abbrev pub NodesInRange : List (Option LiveArc) → Type 0
NodesInRange arcs = (n : ℕ) (e : LiveArc) → Live arcs n e → e.to < 256

abbrev pub TrimsInRange : List (Option LiveArc) → Type 0
TrimsInRange arcs = (n : ℕ) (e : LiveArc) → Live arcs n e → is_ticks e.trim ≡ true

abbrev pub TimesInRange : List (Option ℤ) → Type 0
TimesInRange times = (v : ℕ) (t : ℤ) → slice_index_or times v None ≡ Some t → is_ticks t ≡ true
