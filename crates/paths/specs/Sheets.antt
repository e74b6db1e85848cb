-- The timing sheet, computed: lines with arrivals in the order of work, then required times from the last line back, then the nodes' slacks.
-- A block's arcs are listed by rising number, so that the first of equals in a list is the one with the lowest arc.
use Rattle.std.specs.Prelude.{ℕ, zero, suc, cond, List, [], ◌∷◌, ◌++◌, map, length, Some, None, Ok, Err, Option, Result, ◌==◌, nat_lt}
use Rattle.paths.specs.Rows.{Rows, minus}
use Rattle.paths.specs.Blocks.{Arc, RowBlock, pass, passes}

-- the marks that mean "none"
abbrev pub no_arc : ℕ
no_arc = 1024

abbrev pub no_line : ℕ
no_line = 4096

-- an arrival, and the arc and the line that it came from
pub record Line (R : Type 0) : Type 0 where
  pub node : ℕ
  pub tag : ℕ
  pub arrival : R
  pub back_arc : ℕ
  pub back_line : ℕ

-- a row, with the arc and the line that it is told by
pub record Told (R : Type 0) : Type 0 where
  pub row : R
  pub arc : ℕ
  pub line : ℕ

-- a line with its required time, if any, and the arc and the line which that comes from
pub record Timed (R : Type 0) : Type 0 where
  pub line : Line R
  pub required : Option (Told R)

-- the lines without their required times
abbrev pub lines : {R : Type 0} → List (Timed R) → List (Line R)
lines ts = map (λ t. t.line) ts

-- ---- parts that need no block
abbrev pub started : {R : Type 0} → ℕ → Option R → List (Line R)
started v None = []
started v (Some x) = record { node = v; tag = 0; arrival = x; back_arc = no_arc; back_line = no_line } ∷ []

abbrev pub ended : {R : Type 0} → Option R → List (Told R)
ended None = []
ended (Some y) = record { row = y; arc = no_arc; line = no_line } ∷ []

module _ {R : Type 0} (m : Rows R) where
  -- c enters the lines ls of one node, which are sorted by tag; of one tag the latest stays, the earlier comer of equals
  abbrev pub enter : Line R → List (Line R) → List (Line R)
  enter c [] = c ∷ []
  enter c (l ∷ ls) =
      let rest = enter c ls in
      cond (nat_lt c.tag l.tag) (c ∷ (l ∷ ls)) (cond (nat_lt l.tag c.tag) (l ∷ rest) (cond (m.not_later c.arrival l.arrival) (l ∷ ls) (c ∷ ls)))

  abbrev pub entered : List (Line R) → List (Line R) → List (Line R)
  entered [] ls = ls
  entered (c ∷ cs) ls = entered cs (enter c ls)

  -- the first least of the rows told, where a is told first
  abbrev pub least : Told R → List (Told R) → Told R
  least a [] = a
  least a (c ∷ cs) = least (cond (m.not_later a.row c.row) a c) cs

  abbrev pub first_least : List (Told R) → Option (Told R)
  first_least [] = None
  first_least (a ∷ cs) = Some (least a cs)

  -- what the required time of a line beyond the arc e, numbered k, asks before the arc
  abbrev pub asks : Arc R → ℕ → Option (Told R) → List (Told R)
  asks e k None = []
  asks e k (Some y) = record { row = minus m y.row e.row; arc = e.number; line = k } ∷ []

  -- the slack of the line t, numbered k, with its required time
  abbrev pub slack_of : ℕ → Timed R → Option (Told R) → List (Told R)
  slack_of k t None = []
  slack_of k t (Some y) = record { row = minus m y.row t.line.arrival; arc = no_arc; line = k } ∷ []

  -- the slacks of v's lines among ts, numbered from k
  abbrev pub slacks : ℕ → ℕ → List (Timed R) → List (Told R)
  slacks v k [] = []
  slacks v k (t ∷ ts) = let rest = slacks v (suc k) ts in cond (t.line.node == v) (slack_of k t t.required ++ rest) rest

  -- the slack of v, and its line: the least, the lowest line of equals
  abbrev pub node_slack : ℕ → List (Timed R) → Option (Told R)
  node_slack v ts = first_least (slacks v 0 ts)

abbrev pub row_of : {R : Type 0} → Option (Told R) → Option R
row_of None = None
row_of (Some t) = Some t.row

module _ {R : Type 0} (m : Rows R) (b : RowBlock R) where
  -- ---- arrivals
  -- the arrival that the line l, numbered i, sends over the arc e
  abbrev pub sent : Arc R → ℕ → Line R → Line R
  sent e i l = record { node = e.to; tag = pass b l.tag e; arrival = m.plus l.arrival e.row; back_arc = e.number; back_line = i }

  -- the arrivals that the arc e has from the lines ls, numbered from i
  abbrev pub over : Arc R → ℕ → List (Line R) → List (Line R)
  over e i [] = []
  over e i (l ∷ ls) = let rest = over e (suc i) ls in cond (l.node == e.from) (cond (passes b l.tag e) (sent e i l ∷ rest) rest) rest

  -- the arrivals that the arcs es bring to v
  abbrev pub into : ℕ → List (Arc R) → List (Line R) → List (Line R)
  into v [] ls = []
  into v (e ∷ es) ls = let rest = into v es ls in cond (e.to == v) (over e 0 ls ++ rest) rest

  -- the lines of the nodes below n
  abbrev pub arrivals : ℕ → List (Line R)
  arrivals zero = []
  arrivals (suc v) = let ls = arrivals v in ls ++ entered m (started v (b.start v) ++ into v b.arcs ls) []

  -- ---- required times
  -- what the lines ts, numbered from k, ask of the line l over the arc e
  abbrev pub asked_over : Line R → Arc R → ℕ → List (Timed R) → List (Told R)
  asked_over l e k [] = []
  asked_over l e k (t ∷ ts) =
      let rest = asked_over l e (suc k) ts in
      cond (t.line.node == e.to) (cond (t.line.tag == pass b l.tag e) (asks m e k t.required ++ rest) rest) rest

  abbrev pub asked_by : Line R → List (Arc R) → ℕ → List (Timed R) → List (Told R)
  asked_by l [] k ts = []
  asked_by l (e ∷ es) k ts =
      let rest = asked_by l es k ts in
      cond (e.from == l.node) (cond (passes b l.tag e) (asked_over l e k ts ++ rest) rest) rest

  -- the lines ls, numbered from k, with their required times
  abbrev pub timed : ℕ → List (Line R) → List (Timed R)
  timed k [] = []
  timed k (l ∷ ls) =
      let ts = timed (suc k) ls in
      record { line = l; required = first_least m (ended (b.end l.node) ++ asked_by l b.arcs (suc k) ts) } ∷ ts

  -- the sheet of a block whose nodes are below n
  abbrev pub sheet : ℕ → List (Timed R)
  sheet n = timed 0 (arrivals n)

-- timing answers how many lines the sheet has, and is refused by 15 where the line tables are shorter than that
abbrev pub count_answer : {R : Type 0} → ℕ → List (Timed R) → Result ℕ ℕ
count_answer table ts = cond (nat_lt table (length ts)) (Err 15) (Ok (length ts))
