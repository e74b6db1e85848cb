-- What is proved.
use Rattle.std.specs.Prelude.{◌≡◌, ℕ, suc, ◌-◌, ◌*◌, ◌^◌, ◌<◌, Bool, T, ◌↔◌, List, ℤ, Some, Ok, Err, Option}
use mathlib.Core.List.{Memᴰ}
use Rattle.measure.specs.Rows.{Row, Bounded, plus, negated, summed}
use Rattle.measure.specs.Laws.{Laws, Order, InRange}
use Rattle.delay.specs.Entries.{Entry}
use Rattle.graph.specs.Block.{Block, Kept}
use Rattle.graph.specs.Sets.{holds}
use Rattle.paths.specs.Rows.{Rows, rows}
use Rattle.paths.specs.Tags.{set_count, has}
use Rattle.paths.specs.Blocks.{Arc, RowBlock, Live}
use Rattle.paths.specs.Paths.{Leads, Open, Carries, Ending, LeastSlack}
use Rattle.paths.specs.Sheets.{Told, Timed, sheet, node_slack, row_of}
use Rattle.paths.specs.Traces.{trace}
use Rattle.paths.specs.Relations.{IsSheet, IsEntry, Shows}
use Rattle.paths.specs.Sound.{Sound}
use Rattle.paths.specs.Graphs.{WorkOrder, by_node, Suits, Untimed, row_block, node_count, Mirrors, Stops}

-- ---- what a theorem is about
-- what is said of a block of rows of w places, whose nodes are below n
abbrev pub Claim : Type 1
Claim = (w : ℕ) → Rows (Row w) → RowBlock (Row w) → ℕ → Type 0

-- said of every sound block, for every width of rows and every order with the four laws, which are asked of rows in range only
abbrev pub OfBlocks : Claim → Type 0
OfBlocks Says =
    (w : ℕ) (not_later : Row w → Row w → Bool) → Order w not_later
    → (b : RowBlock (Row w)) (n : ℕ) → Sound (Bounded w 1000000) b n → Says w (rows w not_later) b n

-- what is said of a block and all that it is made from
abbrev pub GraphClaim : Type 1
GraphClaim = (w : ℕ) → Rows (Row w) → WorkOrder → (ℤ → Row w) → (ℤ → Row w) → Block → (ℕ → Entry) → RowBlock (Row w) → Type 0

-- said of every content that a graph keeps and its block, for every meaning of a source, every measure and every order of work that suits
abbrev pub AtGraphs : GraphClaim → Type 0
AtGraphs Says =
    (w : ℕ) (not_later : Row w → Row w → Bool) (row_of_time row_of_arc : ℤ → Row w) → Laws w not_later row_of_time row_of_arc
    → (g : Block) → Kept g → (means : ℕ → Entry) (order : WorkOrder) → Suits order g
    → (b : RowBlock (Row w)) → row_block order row_of_time row_of_arc g means ≡ Ok b → Says w (rows w not_later) order row_of_time row_of_arc g means b

abbrev pub OfGraphs : Claim → Type 0
OfGraphs Says = AtGraphs (λ w m order row_of_time row_of_arc g means b. Says w m b node_count)

-- ---- graphs and their blocks
-- the block of a graph is sound
abbrev pub GraphsAreSound : Claim
GraphsAreSound w m b n = Sound (Bounded w 1000000) b n

-- it has the graph's live arcs, with the rows of their ticks, its starts and ends, and its paths
abbrev pub BlocksMirror : GraphClaim
BlocksMirror w m order row_of_time row_of_arc g means b = Mirrors order row_of_time row_of_arc g means b

-- where there is none, the lowest live arc without ticks says why
abbrev pub LowestStops : Type 0
LowestStops =
    (w : ℕ) (row_of_time row_of_arc : ℤ → Row w) (g : Block) (means : ℕ → Entry) (order : WorkOrder) (x : Untimed)
    → row_block order row_of_time row_of_arc g means ≡ Err x → Stops g means x

-- a tag holds a set exactly when the graph's sum of 2 ^ s does
abbrev pub TagsAreSums : Type 0
TagsAreSums = (t s : ℕ) → has t s ≡ holds t s

-- the lower node first suits every content that a graph keeps
abbrev pub LowerFirstSuits : Type 0
LowerFirstSuits = (g : Block) → Kept g → Suits by_node g

-- ---- tags and paths
-- a tag is the sets of which a stretch is under way
abbrev pub TagsAreStretches : {R : Type 0} → RowBlock R → Type 0
TagsAreStretches {R} b =
    (u v t : ℕ) (es : List (Arc R)) → Leads b u es v → Carries b 0 es t → (i : ℕ) → i < set_count → T (has t i) ↔ Ending b i es

-- a path is carried from the empty tag undropped exactly when it is open
abbrev pub CarriedIsOpen : {R : Type 0} → RowBlock R → Type 0
CarriedIsOpen {R} b = (u v : ℕ) (es : List (Arc R)) → Leads b u es v → ((t : ℕ) × Carries b 0 es t) ↔ Open b es

-- ---- the sheet
-- what is said of the lines of a sheet is true of one list of lines and no other, and what is said of a node's entry of one entry and no other:
-- of those that are computed
pub record Settled {R : Type 0} (m : Rows R) (b : RowBlock R) (n : ℕ) : Type 0 where
  pub sheet_is : IsSheet m b n (sheet m b n)
  pub one_sheet : (ts us : List (Timed R)) → IsSheet m b n ts → IsSheet m b n us → ts ≡ us
  pub entry_is : (v : ℕ) → v < n → IsEntry m b (sheet m b n) v (node_slack m v (sheet m b n))
  pub one_entry : (ts : List (Timed R)) (v : ℕ) → v < n → (o p : Option (Told R)) → IsEntry m b ts v o → IsEntry m b ts v p → o ≡ p

abbrev pub SheetIsSettled : Claim
SheetIsSettled w m b n = Settled m b n

-- ---- the least slack
-- the slack of a node is the least slack of the open complete paths through it, and there is none exactly when there is no such path
abbrev pub SlackIsLeast : Claim
SlackIsLeast w m b n = (v : ℕ) → v < n → LeastSlack m b v (row_of (node_slack m v (sheet m b n)))

-- the path that is traced for a node is an open complete path through it, with the node's slack
abbrev pub TraceShowsLeast : Claim
TraceShowsLeast w m b n = (v : ℕ) → Shows m b v (row_of (node_slack m v (sheet m b n))) (trace m v (sheet m b n))

-- ---- the range of the rows
-- a tag has the 16 sets only; each place of an arrival at a node v is within v + 1 million of zero, of a required time within n − v, and of a slack within n + 1
pub record SmallRows (w : ℕ) (m : Rows (Row w)) (b : RowBlock (Row w)) (n : ℕ) : Type 0 where
  pub tags : (t : Timed (Row w)) → Memᴰ t (sheet m b n) → t.line.tag < 2 ^ set_count
  pub arrivals : (t : Timed (Row w)) → Memᴰ t (sheet m b n) → Bounded w (1000000 * suc t.line.node) t.line.arrival
  pub required : (t : Timed (Row w)) (y : Told (Row w)) → Memᴰ t (sheet m b n) → t.required ≡ Some y → Bounded w (1000000 * (n - t.line.node)) y.row
  pub slacks : (v : ℕ) (a : Told (Row w)) → node_slack m v (sheet m b n) ≡ Some a → Bounded w (1000000 * suc n) a.row

abbrev pub RowsStaySmall : Claim
RowsStaySmall w m b n = SmallRows w m b n

-- no sum that the sheet is made of is refused: of a line's arrival and an arc's row, of its required time less an arc's row, and of its slack
pub record SumsAnswered (w : ℕ) (m : Rows (Row w)) (b : RowBlock (Row w)) (n : ℕ) : Type 0 where
  pub passing : (t : Timed (Row w)) (e : Arc (Row w)) → Memᴰ t (sheet m b n) → Live b e
      → summed w t.line.arrival e.row ≡ Some (plus w t.line.arrival e.row)
  pub asking : (t : Timed (Row w)) (y : Told (Row w)) (e : Arc (Row w)) → Memᴰ t (sheet m b n) → t.required ≡ Some y → Live b e
      → summed w y.row (negated w e.row) ≡ Some (plus w y.row (negated w e.row))
  pub slack : (t : Timed (Row w)) (y : Told (Row w)) → Memᴰ t (sheet m b n) → t.required ≡ Some y
      → summed w y.row (negated w t.line.arrival) ≡ Some (plus w y.row (negated w t.line.arrival))

abbrev pub SumsAreAnswered : Claim
SumsAreAnswered w m b n = SumsAnswered w m b n

-- the sheet compares rows in range only: an order that agrees there, whatever it says of other rows, makes the same sheet and the same slacks
abbrev pub RangeSuffices : Claim
RangeSuffices w m b n =
    (other : Row w → Row w → Bool) → ((a c : Row w) → InRange w a → InRange w c → other a c ≡ m.not_later a c)
    → (sheet (rows w other) b n ≡ sheet m b n) × ((v : ℕ) → node_slack (rows w other) v (sheet (rows w other) b n) ≡ node_slack m v (sheet m b n))
