-- What the lines beyond an arc ask before it, by the tables of a timing.
use Rattle.std.specs.Prelude.{◌≡◌, ℕ, suc, ◌+◌, ◌-◌, ◌<◌, ◌≤◌, Bool, true, cond, List, [], ◌∷◌, length, get_or, Some, None, Option, ◌==◌, slice_index, slice_index_or}
use Rattle.measure.specs.Rows.{Row, Bounded, bounded}
use Rattle.graph.specs.declared.parts.LiveArc.{LiveArc}
use Rattle.graph.specs.Sorting.{segment}
use Rattle.paths.specs.Rows.{Rows, minus}
use Rattle.paths.specs.Tags.{apart}
use Rattle.paths.specs.Sheets as sheets
use Rattle.sheet.specs.declared.line.Line.{Line}
use Rattle.timing.specs.declared.crossing.Crossing.{Crossing}
use Rattle.timing.specs.declared.told.Told.{Told}
use Rattle.sheet.specs.Lines.{past_line}
use Rattle.timing.specs.Lines.{SortedByTag}
use Rattle.timing.specs.Crossings.{crossing_tag}
use Rattle.timing.specs.Bringing.{crossing_of}

-- what is asked of a line, and its tag
pub record Mark (R : Type 0) : Type 0 where
  pub tag : ℕ
  pub required : Option (sheets.Told R)

module _ {M R : Type 0} (row : M → R) where
  -- an answer by the row that it means
  abbrev pub told : Option (Told M) → Option (sheets.Told R)
  told None = None
  told (Some a) = Some (record { row = row a.row; arc = a.arc; line = a.line })

  abbrev pub mark_of : Line → M → Mark R
  mark_of l y = record { tag = l.tag; required = cond l.required (Some (record { row = row y; arc = l.fore_arc; line = l.fore_line })) None }

  abbrev pub marks : List Line → List M → List (Mark R)
  marks [] ys = []
  marks (l ∷ ls) [] = []
  marks (l ∷ ls) (y ∷ ys) = mark_of l y ∷ marks ls ys

-- whether the line has the tag
abbrev pub has_tag : ℕ → Line → Bool
has_tag tag l = l.tag == tag

module _ {R : Type 0} (m : Rows R) where
  -- the earlier of two, of equals the first
  abbrev pub pick : Option (sheets.Told R) → Option (sheets.Told R) → Option (sheets.Told R)
  pick None c = c
  pick (Some a) None = Some a
  pick (Some a) (Some c) = Some (cond (m.not_later a.row c.row) a c)

  -- what a required time asks before an arc, from line j
  abbrev pub ask_of : Crossing R → ℕ → Option (sheets.Told R) → Option (sheets.Told R)
  ask_of h j None = None
  ask_of h j (Some y) = Some (record { row = minus m y.row h.row; arc = h.arc; line = j })

  -- what the line with tag t asks, among lines numbered from j
  abbrev pub asked_of : Crossing R → ℕ → ℕ → List (Mark R) → Option (sheets.Told R)
  asked_of h t j [] = None
  asked_of h t j (x ∷ xs) = let rest = asked_of h t (suc j) xs in cond (x.tag == t) (ask_of h j x.required) rest

  module _ (arcs : List (Option LiveArc)) (rows : List R) (firsts : List ℕ) where
    -- what is asked over the arc numbered k, if it is live, of a line with tag s
    abbrev pub asked_through : List (Mark R) → ℕ → ℕ → Option LiveArc → Option (sheets.Told R)
    asked_through xs s k None = None
    asked_through xs s k (Some e) =
        let h = crossing_of m arcs rows k e in
        let t = crossing_tag h s in
        let first = get_or firsts e.to 0 in
        cond (apart t h.ends) (asked_of h t first (segment first (slice_index firsts (e.to + 1) - first) xs)) None

    abbrev pub asked_at : List (Mark R) → ℕ → ℕ → Option (sheets.Told R)
    asked_at xs s k = asked_through xs s k (slice_index_or arcs k None)

-- the lines of the node that the arc leads to stand in the table, sorted by tag
pub record Beyond (firsts : List ℕ) (ls : List Line) (e : LiveArc) : Type 0 where
  pub rising : get_or firsts e.to 0 ≤ slice_index firsts (e.to + 1)
  pub stand : get_or firsts (e.to + 1) 0 ≤ length ls
  pub sorted : SortedByTag (segment (get_or firsts e.to 0) (slice_index firsts (e.to + 1) - get_or firsts e.to 0) ls)

-- and so for each of the arcs numbered ks
abbrev pub AllBeyond : List (Option LiveArc) → List ℕ → List Line → List ℕ → Type 0
AllBeyond arcs firsts ls ks = (i : ℕ) (e : LiveArc) → i < length ks → slice_index_or arcs (slice_index ks i) None ≡ Some e → Beyond firsts ls e

-- no required time is beyond 256 million, to either side of zero
abbrev pub AsksWithin : {M : Type 0} (w : ℕ) → (M → Row w) → List Line → List M → Type 0
AsksWithin {M} w row ls ys = (j : ℕ) (y : M) → j < length ls → y ≡ slice_index_or ys j y → (get_or ls j past_line).required ≡ true → bounded w 256000000 (row y) ≡ true

-- nor one of the lines from a up to z
abbrev pub AsksBetween : {M : Type 0} (w : ℕ) → (M → Row w) → ℕ → ℕ → List Line → List M → Type 0
AsksBetween {M} w row a z ls ys = (j : ℕ) (y : M) → a ≤ j → j < z → y ≡ slice_index_or ys j y → (get_or ls j past_line).required ≡ true → Bounded w 256000000 (row y)

-- nor one of the lines that the arc leads to
abbrev pub AsksBeyond : {M : Type 0} (w : ℕ) → (M → Row w) → List ℕ → List Line → List M → LiveArc → Type 0
AsksBeyond w row firsts ls ys e = AsksBetween w row (slice_index firsts e.to) (slice_index firsts (e.to + 1)) ls ys

-- and so for each of the arcs numbered ks
abbrev pub AllAskBeyond : {M : Type 0} (w : ℕ) → (M → Row w) → List (Option LiveArc) → List ℕ → List Line → List M → List ℕ → Type 0
AllAskBeyond w row arcs firsts ls ys ks = (i : ℕ) (e : LiveArc) → i < length ks → slice_index_or arcs (slice_index ks i) None ≡ Some e → AsksBeyond w row firsts ls ys e
