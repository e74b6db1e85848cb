-- What is true of a sheet's lines, of a node's entry and of the path shown, for a block whose nodes are below n.
use Rattle.std.specs.Prelude.{◌≡◌, ℕ, ◌<◌, ◌≤◌, T, ◌⊎◌, List, [], ◌∷◌, ◌++◌, Some, None, Option, slice_get}
use mathlib.Core.List.{Memᴰ}
use Rattle.std.specs.List.{AllByRecursion}
use Rattle.paths.specs.Rows.{Rows, minus}
use Rattle.paths.specs.Blocks.{Arc, RowBlock, Live, pass, passes}
use Rattle.paths.specs.Paths.{numbers, Through, slack}
use Rattle.paths.specs.Times.{Reaches, Asked, Arrival, Required, NodeSlack}
use Rattle.paths.specs.Sheets.{Line, Told, Timed, no_arc, no_line, lines, row_of}

-- ---- the order of the lines: by node, then by tag
abbrev pub Precedes : {R : Type 0} → Line R → Line R → Type 0
Precedes l k = (l.node < k.node) ⊎ ((l.node ≡ k.node) × (l.tag < k.tag))

abbrev pub InOrder : {R : Type 0} → List (Line R) → Type 0
InOrder [] = Unit {0}
InOrder (l ∷ ls) = AllByRecursion (Precedes l) ls × InOrder ls

-- those of one node: each has a lower tag than the lines after it
abbrev pub ByTag : {R : Type 0} → List (Line R) → Type 0
ByTag [] = Unit {0}
ByTag (l ∷ ls) = AllByRecursion (λ k. l.tag < k.tag) ls × ByTag ls

-- ---- ties
-- of the links over arc a from line i and over arc c from line j, the first wins or is the second: no link (a start, an end) first, then the lowest arc, then the lowest line
abbrev pub Wins : ℕ → ℕ → ℕ → ℕ → Type 0
Wins a i c j = (a ≡ no_arc) ⊎ (((a < c) × (c < no_arc)) ⊎ ((a ≡ c) × (i ≤ j)))

-- the link over arc a from line i of ls brings the arrival x to v with tag s; the marks for none say that v's start does
pub data Link {R : Type 0} (m : Rows R) (b : RowBlock R) (ls : List (Line R)) (v s : ℕ) (x : R) : ℕ → ℕ → Type 0 where
  by_start : b.start v ≡ Some x → s ≡ 0 → Link m b ls v s x no_arc no_line
  by_arc : (e : Arc R) (i : ℕ) (k : Line R) → Live b e → slice_get ls i ≡ Some k → k.node ≡ e.from → e.to ≡ v → T (passes b k.tag e) → pass b k.tag e ≡ s
      → m.plus k.arrival e.row ≡ x → Link m b ls v s x e.number i

-- the link over arc a to line i of ts asks y of v at tag s; the marks for none say that v's end does
pub data Ask {R : Type 0} (m : Rows R) (b : RowBlock R) (ts : List (Timed R)) (v s : ℕ) (y : R) : ℕ → ℕ → Type 0 where
  by_end : b.end v ≡ Some y → Ask m b ts v s y no_arc no_line
  by_line : (e : Arc R) (i : ℕ) (t : Timed R) (z : Told R) → Live b e → e.from ≡ v → T (passes b s e) → slice_get ts i ≡ Some t → t.line.node ≡ e.to → t.line.tag ≡ pass b s e
      → t.required ≡ Some z → minus m z.row e.row ≡ y → Ask m b ts v s y e.number i

-- ---- the lines
-- the required time of a line is the earliest that is asked there; None where nothing is
abbrev pub RequiredIs : {R : Type 0} → Rows R → RowBlock R → ℕ → ℕ → Option R → Type 0
RequiredIs {R} m b v s None = (y : R) → Asked m b v s y → ⊥
RequiredIs m b v s (Some y) = Required m b v s y

-- a line stands for its node and tag with the arrival and the required time of those
abbrev pub RightLine : {R : Type 0} → Rows R → RowBlock R → ℕ → Timed R → Type 0
RightLine m b n t =
    (t.line.node < n) × Arrival m b t.line.node t.line.tag t.line.arrival × RequiredIs m b t.line.node t.line.tag (row_of t.required)

-- one line for each node and tag with an arrival, by node and then by tag
pub record RightLines {R : Type 0} (m : Rows R) (b : RowBlock R) (n : ℕ) (ts : List (Timed R)) : Type 0 where
  pub order : InOrder (lines ts)
  pub right : (t : Timed R) → Memᴰ t ts → RightLine m b n t
  pub whole : (v s : ℕ) (x : R) → v < n → Reaches m b v s x → (t : Timed R) × Memᴰ t ts × (t.line.node ≡ v) × (t.line.tag ≡ s)

-- of the links that bring a line's arrival to its node and tag, the line has the one that wins
abbrev pub BackLinks : {R : Type 0} → Rows R → RowBlock R → List (Timed R) → Type 0
BackLinks {R} m b ts =
    (l : Line R) → Memᴰ l (lines ts)
    → Link m b (lines ts) l.node l.tag l.arrival l.back_arc l.back_line
    × ((a i : ℕ) → Link m b (lines ts) l.node l.tag l.arrival a i → Wins l.back_arc l.back_line a i)

-- of the links that ask a line's required time, the line has the one that wins
abbrev pub ForeLinks : {R : Type 0} → Rows R → RowBlock R → List (Timed R) → Type 0
ForeLinks {R} m b ts =
    (t : Timed R) (y : Told R) → Memᴰ t ts → t.required ≡ Some y
    → Ask m b ts t.line.node t.line.tag y.row y.arc y.line
    × ((a i : ℕ) → Ask m b ts t.line.node t.line.tag y.row a i → Wins y.arc y.line a i)

-- the line i of ts is one of v with slack x
pub record SlackLine {R : Type 0} (m : Rows R) (ts : List (Timed R)) (v : ℕ) (x : R) (i : ℕ) : Type 0 where
  pub line : Timed R
  pub required : Told R
  pub stands : slice_get ts i ≡ Some line
  pub node_is : line.line.node ≡ v
  pub required_is : line.required ≡ Some required
  pub slack_is : minus m required.row line.line.arrival ≡ x

-- the line of a node's slack is the lowest of those with that slack; the slack is no arc's
pub record LowestLine {R : Type 0} (m : Rows R) (ts : List (Timed R)) (v : ℕ) (a : Told R) : Type 0 where
  pub own : SlackLine m ts v a.row a.line
  pub lowest : (i : ℕ) → SlackLine m ts v a.row i → a.line ≤ i
  pub unlinked : a.arc ≡ no_arc

-- all that is said of the lines of a sheet
pub record IsSheet {R : Type 0} (m : Rows R) (b : RowBlock R) (n : ℕ) (ts : List (Timed R)) : Type 0 where
  pub right : RightLines m b n ts
  pub backs : BackLinks m b ts
  pub fores : ForeLinks m b ts

-- and of the entry of the node v: its slack by tags, with the lowest line
abbrev pub IsEntry : {R : Type 0} → Rows R → RowBlock R → List (Timed R) → ℕ → Option (Told R) → Type 0
IsEntry m b ts v None = NodeSlack m b v None
IsEntry m b ts v (Some a) = NodeSlack m b v (Some a.row) × LowestLine m ts v a

-- a path shown with slack x: the numbers of the arcs of an open complete path through v with that slack
abbrev pub Shows : {R : Type 0} → Rows R → RowBlock R → ℕ → Option R → Option (List ℕ) → Type 0
Shows m b v None None = Unit {0}
Shows m b v None (Some ks) = ⊥
Shows m b v (Some x) None = ⊥
Shows m b v (Some x) (Some ks) = (p : Through b v) × (slack m p ≡ x) × (numbers (p.before ++ p.after) ≡ ks)
