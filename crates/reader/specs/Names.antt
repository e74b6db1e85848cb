-- The names line, and the fields under its names. Assumes nothing.
use Rattle.std.specs.Prelude.{ℕ, Bool, cond, ◌&&◌, List, [], ◌∷◌, length, find, position, Some, None, Option, ◌==◌}
use Rattle.std.specs.List.{list_any, list_all}
use Rattle.std.specs.Str.{bytes_eq}
use Rattle.reader.specs.Layouts.{Entry}

-- q is one of ns
abbrev pub among : List ℕ → List (List ℕ) → Bool
among q ns = list_any (λ n. bytes_eq n q) ns

-- ns are the columns, each once, in some order
abbrev pub is_order : List (List ℕ) → List (List ℕ) → Bool
is_order columns ns = length ns == length columns && list_all (λ q. among q ns) columns

-- the first of some sets of columns that ns are an order of
abbrev pub chosen : List Entry → List (List ℕ) → Option Entry
chosen es ns = find (λ e. is_order e.columns ns) es

-- the field under the name q, where the names are ns and the fields stand in their order
abbrev pub lookup : List ℕ → List (List ℕ) → List (List ℕ) → Option (List ℕ)
lookup q [] fs = None
lookup q (n ∷ ns) [] = None
lookup q (n ∷ ns) (f ∷ fs) = cond (bytes_eq n q) (Some f) (lookup q ns fs)

-- the place of q among ns, counted from 0
abbrev pub place : List ℕ → List (List ℕ) → Option ℕ
place q ns = position (λ n. bytes_eq n q) ns
