-- Paths of live arcs.
use Rattle.std.specs.Prelude.{◌≡◌, ℕ, List, [], ◌∷◌, Option}
use Rattle.graph.specs.declared.parts.LiveArc.{LiveArc}
use Rattle.graph.specs.Kept.{Live}

-- each arc of the list is live and starts where the one before ended; the first starts at u and the last ends at v
abbrev pub Walks : List (Option LiveArc) → ℕ → List ℕ → ℕ → Type 0
Walks arcs u [] v = u ≡ v
Walks arcs u (n ∷ ns) v = (e : LiveArc) × Live arcs n e × (e.from ≡ u) × Walks arcs e.to ns v

abbrev pub Reach : List (Option LiveArc) → ℕ → ℕ → Type 0
Reach arcs u v = (ns : List ℕ) × Walks arcs u ns v

-- arc n lies on a path of live arcs from u to v
abbrev pub Between : List (Option LiveArc) → ℕ → ℕ → ℕ → Type 0
Between arcs u v n = (e : LiveArc) × Live arcs n e × Reach arcs u e.from × Reach arcs e.to v
