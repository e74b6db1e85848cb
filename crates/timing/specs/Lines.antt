-- What the tables of lines and arrivals stand for.
use Rattle.std.specs.Prelude.{◌≡◌, ℕ, ◌+◌, ◌<◌, ◌≤◌, List, [], ◌∷◌, length, take, drop, Some, None, Option, slice_index_or}
use Rattle.sheet.specs.declared.line.Line.{Line}
use Rattle.sheet.specs.Lines.{past_line}
use Rattle.paths.specs.Sheets as sheets

-- each line has a lower tag than those after it
abbrev pub SortedByTag : List Line → Type 0
SortedByTag ls = (i j : ℕ) → i < j → j < length ls → (slice_index_or ls i past_line).tag < (slice_index_or ls j past_line).tag

module _ {M R : Type 0} (row : M → R) where
  -- a line with its arrival
  abbrev pub view : Line → M → sheets.Line R
  view l x = record { node = l.node; tag = l.tag; arrival = row x; back_arc = l.back_arc; back_line = l.back_line }

  abbrev pub views : List Line → List M → List (sheets.Line R)
  views [] xs = []
  views (l ∷ ls) [] = []
  views (l ∷ ls) (x ∷ xs) = view l x ∷ views ls xs

  -- the first n lines
  abbrev pub front : ℕ → List Line → List M → List (sheets.Line R)
  front n ls xs = views (take n ls) (take n xs)

  -- n lines from a on
  abbrev pub behind : ℕ → ℕ → List Line → List M → List (sheets.Line R)
  behind a n ls xs = front n (drop a ls) (drop a xs)

-- the answer to lines that enter a table with room: how many there are then, or None where there is no room for them
abbrev pub Fills : {X : Type 0} → ℕ → List X → (ℕ → List X) → Option ℕ → Type 0
Fills room target got None = room < length target
Fills room target got (Some n) = (n ≤ room) × (got n ≡ target)

-- the tables keep their first lines, and have the n lines t behind them
pub record Stands {M R : Type 0} (row : M → R) (base : ℕ) (old-lines : List Line) (old-times : List M) (t : List (sheets.Line R)) (ls : List Line) (xs : List M) (n : ℕ) : Type 0 where
  pub same_lines : take base ls ≡ take base old-lines
  pub same_times : take base xs ≡ take base old-times
  pub lines_length : length ls ≡ length old-lines
  pub times_length : length xs ≡ length old-lines
  pub room : base + n ≤ length old-lines
  pub stand : behind row base n ls xs ≡ t

-- lines t go behind the first ones: how many they are, or None where there is no room for them
abbrev pub Filled : {M R : Type 0} → (M → R) → ℕ → List Line → List M → List (sheets.Line R) → List Line → List M → Option ℕ → Type 0
Filled row base old-lines old-times t ls xs None = length old-lines < base + length t
Filled row base old-lines old-times t ls xs (Some n) = Stands row base old-lines old-times t ls xs n
