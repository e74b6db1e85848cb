-- The table of the formats: for each kind of file, the sets of columns that it may have. Assumes nothing.
use Rattle.std.specs.Prelude.{ℕ, List, [], ◌∷◌, map, codes}
use Rattle.reader.specs.declared.records.Kind.{Kind}
use Rattle.reader.specs.declared.records.Kind.TheVariants.{Arcs, Delays, Bounds, FalseSets}
use Rattle.reader.specs.declared.layouts.Layout.{Layout}

-- the column names, and for each value of a record, in the record's order, the column that it stands in
pub record Entry : Type 0 where
  pub columns : List (List ℕ)
  pub values : List (List ℕ)

-- columns that stand in the order of the values
abbrev pub in_order : List (List ℕ) → Entry
in_order names = record { columns = names; values = names }

abbrev pub layouts : Kind → List Entry
layouts Arcs = in_order (codes "from" ∷ codes "to" ∷ []) ∷ []
layouts Delays = in_order (codes "arc" ∷ codes "ticks" ∷ []) ∷ []
layouts Bounds = in_order (codes "node" ∷ codes "side" ∷ codes "ticks" ∷ []) ∷ []
layouts FalseSets = in_order (codes "set" ∷ codes "from" ∷ codes "to" ∷ []) ∷ []

-- an entry as the code holds it
abbrev pub entry : Layout → Entry
entry l = record { columns = map (λ n. n.now) l.columns.now; values = map (λ n. n.now) l.values.now }

-- how many values a record of the kind has
abbrev pub arity : Kind → ℕ
arity Arcs = 2
arity Delays = 2
arity Bounds = 3
arity FalseSets = 3
