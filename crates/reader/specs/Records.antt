-- The names of the kinds, and the letters of the sides. Assumes nothing.
use Rattle.std.specs.Prelude.{ℕ, cond, List, [], ◌∷◌, Some, None, codes, Option, ◌==◌}
use Rattle.std.specs.Str.{bytes_eq}
use Rattle.reader.specs.declared.records.Kind.{Kind}
use Rattle.reader.specs.declared.records.Kind.TheVariants.{Arcs, Delays, Bounds, FalseSets}
use Rattle.reader.specs.declared.records.Side.{Side}
use Rattle.reader.specs.declared.records.Side.TheVariants.{Start, End}

abbrev pub name_of : Kind → List ℕ
name_of Arcs = codes "arcs"
name_of Delays = codes "delays"
name_of Bounds = codes "bounds"
name_of FalseSets = codes "false"

-- the kind of a name, if there is one
abbrev pub named : List ℕ → Option Kind
named bs =
    cond (bytes_eq bs (name_of Arcs)) (Some Arcs)
    (cond (bytes_eq bs (name_of Delays)) (Some Delays) (cond (bytes_eq bs (name_of Bounds)) (Some Bounds) (cond (bytes_eq bs (name_of FalseSets)) (Some FalseSets) None)))

-- s is a start, e an end
abbrev pub side_of : ℕ → Option Side
side_of c = cond (c == 115) (Some Start) (cond (c == 101) (Some End) None)

-- the side that a text of one byte names
abbrev pub letter_side : List ℕ → Option Side
letter_side [] = None
letter_side (c ∷ []) = side_of c
letter_side (c ∷ d ∷ bs) = None
