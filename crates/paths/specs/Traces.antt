-- The path that is shown for a node.
use Rattle.std.specs.Prelude.{ℕ, zero, suc, true, false, List, [], ◌∷◌, ◌++◌, length, Some, None, Option, ◌==◌, slice_get}
use Rattle.paths.specs.Rows.{Rows}
use Rattle.paths.specs.Sheets.{Told, Timed, no_arc, node_slack}

module _ {R : Type 0} where
  -- the arcs that the back links from line i lead over, in front of es, at most fuel of them
  abbrev pub back_step : (ℕ → List ℕ → List ℕ) → List ℕ → Option (Timed R) → List ℕ
  back_step go es None = es
  back_step go es (Some t) = elim (t.line.back_arc == no_arc) [ true ↦ es | false ↦ go t.line.back_line (t.line.back_arc ∷ es) ]

  abbrev pub backs : ℕ → List (Timed R) → ℕ → List ℕ → List ℕ
  backs zero ts i es = es
  backs (suc fuel) ts i es = back_step (λ j ks. backs fuel ts j ks) es (slice_get ts i)

  -- and so for the fore links
  abbrev pub fore_step : (ℕ → List ℕ) → Option (Told R) → List ℕ
  fore_step go None = []
  fore_step go (Some y) = elim (y.arc == no_arc) [ true ↦ [] | false ↦ y.arc ∷ go y.line ]

  abbrev pub required_at : Option (Timed R) → Option (Told R)
  required_at None = None
  required_at (Some t) = t.required

  abbrev pub fores : ℕ → List (Timed R) → ℕ → List ℕ
  fores zero ts i = []
  fores (suc fuel) ts i = fore_step (λ j. fores fuel ts j) (required_at (slice_get ts i))

  -- the arcs of the path that is shown for v, where v has a slack
  abbrev pub traced : List (Timed R) → Option (Told R) → Option (List ℕ)
  traced ts None = None
  traced ts (Some s) = Some (backs (length ts) ts s.line [] ++ fores (length ts) ts s.line)

  abbrev pub trace : Rows R → ℕ → List (Timed R) → Option (List ℕ)
  trace m v ts = traced ts (node_slack m v ts)
