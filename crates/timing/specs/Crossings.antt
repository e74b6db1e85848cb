-- The arrivals that an arc brings from the lines of its tail.
use Rattle.std.specs.Prelude.{◌≡◌, ℕ, suc, ◌+◌, ◌≤◌, cond, List, [], ◌∷◌, length, bit_and, bit_or}
use Rattle.std.specs.List.{AllByRecursion}
use Rattle.measure.specs.declared.measure.Measure.{Ghosts as Measure}
use Rattle.measure.specs.Rows.{Row, Bounded}
use Rattle.paths.specs.Rows.{Rows}
use Rattle.paths.specs.Tags.{apart}
use Rattle.paths.specs.Sheets as sheets
use Rattle.paths.specs.Relations.{ByTag}
use Rattle.sheet.specs.declared.line.Line.{Line}
use Rattle.timing.specs.declared.crossing.Crossing.{Crossing}
use Rattle.timing.specs.Lines.{front, behind}

-- a crossing by the row that its delay means
abbrev pub meant : {M R : Type 0} → (M → R) → Crossing M → Crossing R
meant row h = record { arc = h.arc; to = h.to; begins = h.begins; sets = h.sets; ends = h.ends; row = row h.row }

-- the tag that an arrival with tag s has after the arc
abbrev pub crossing_tag : {R : Type 0} → Crossing R → ℕ → ℕ
crossing_tag h s = bit_and (bit_or s h.begins) h.sets

-- the line that the line l, numbered i, brings
abbrev pub crossing_line : {R : Type 0} → Rows R → Crossing R → ℕ → sheets.Line R → sheets.Line R
crossing_line m h i l = record { node = h.to; tag = crossing_tag h l.tag; arrival = m.plus l.arrival h.row; back_arc = h.arc; back_line = i }

-- what the lines ls, numbered from i, bring
abbrev pub crossed : {R : Type 0} → Rows R → Crossing R → ℕ → List (sheets.Line R) → List (sheets.Line R)
crossed m h i [] = []
crossed m h i (l ∷ ls) = let rest = crossed m h (suc i) ls in cond (apart (crossing_tag h l.tag) h.ends) (crossing_line m h i l ∷ rest) rest

-- each arrival lies within k of zero
abbrev pub Near : (w k : ℕ) → List (sheets.Line (Row w)) → Type 0
Near w k ls = AllByRecursion (λ l. Bounded w k l.arrival) ls

-- count lines, sorted by tag, stand behind the first base ones, whose arrivals are near zero
pub record Entering {M : Type 0} (m : Measure M) (base count : ℕ) (ls : List Line) (xs : List M) : Type 0 where
  pub few : base ≤ 4096
  pub room : base + count ≤ length ls
  pub even : length xs ≡ length ls
  pub near : Near m.width 256000000 (front m.row base ls xs)
  pub sorted : ByTag (behind m.row base count ls xs)
