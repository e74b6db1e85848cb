-- The worked cases of the two-selector block, as one table: calls on a new graph, an annotated delay table, and what timing then answers and shows.
use Rattle.std.specs.Prelude.{◌≡◌, ℕ, zero, suc, Bool, true, List, [], ◌∷◌, map, ℤ, pos, negsuc, Some, None, Ok, Err, Option, Result}
use Rattle.std.specs.List.{AllByRecursion}
use Rattle.std.specs.declared.clone.Clone as clone
use Rattle.measure.specs.Rows.{Row}
use Rattle.measure.specs.Laws.{Laws}
use Rattle.measure.specs.contracts.ticks.Ticks.{the_row}
use Rattle.measure.specs.contracts.ticks.TicksMeasure.TheImpl as ticks
use Rattle.measure.specs.contracts.early.EarlyMeasure.TheImpl as early
use Rattle.delay.specs.declared.annotated.AnnotatedRow.{AnnotatedRow}
use Rattle.delay.specs.Entries.{Entry}
use Rattle.delay.specs.Annotated.{annotated_ticks}
use Rattle.delay.specs.Tables.{tabled}
use Rattle.delay.specs.Margin.{clamped, margin_means}
use Rattle.graph.specs.Block.{Block, Kept, blank}
use Rattle.ledger.specs.declared.words.Call.{Call}
use Rattle.ledger.specs.declared.words.Call.TheVariants.{AddArc, DropArc, SetStart, SetEnd, Pair}
use Rattle.ledger.specs.declared.words.Act.TheVariants.{Make}
use Rattle.ledger.specs.Answers as ledger
use Rattle.ledger.specs.Answers.{Answer}
use Rattle.ledger.specs.Ledger.{Runs, closed, opened, put_back}
use Rattle.paths.specs.Rows.{Rows, rows}
use Rattle.paths.specs.Blocks.{RowBlock}
use Rattle.paths.specs.Sheets.{Timed, sheet, count_answer, node_slack, row_of}
use Rattle.paths.specs.Traces.{trace}
use Rattle.paths.specs.Graphs.{Untimed, by_node, Suits, row_block, node_count}
use Rattle.paths.specs.Calls.{called, ran}

-- ---- the two-selector block
abbrev marked : ℤ → AnnotatedRow
marked t = record { marked = true; ticks = t }

abbrev pub delays : List ℤ → ℕ → Entry
delays ts = tabled (map annotated_ticks (map marked ts))

abbrev pub selector_delays : ℕ → Entry
selector_delays = delays (pos 200 ∷ pos 100 ∷ pos 0 ∷ pos 0 ∷ pos 200 ∷ pos 100 ∷ pos 0 ∷ pos 0 ∷ [])

-- its arcs, its start and its end, and then the calls
abbrev two_selectors : List Call → List Call
two_selectors cs =
    AddArc (pos 0) (pos 1) ∷ AddArc (pos 0) (pos 2) ∷ AddArc (pos 1) (pos 3) ∷ AddArc (pos 2) (pos 3)
    ∷ AddArc (pos 3) (pos 4) ∷ AddArc (pos 3) (pos 5) ∷ AddArc (pos 4) (pos 6) ∷ AddArc (pos 5) (pos 6)
    ∷ SetStart (pos 0) (pos 0) ∷ SetEnd (pos 6) (pos 350) ∷ cs

-- with a false set of the paths from node 1 to node 4
abbrev one_false : List Call → List Call
one_false cs = two_selectors (Pair (pos 0) (pos 1) (pos 4) ∷ cs)

-- ---- what is asked
pub data Measured : Type 0 where
  in_ticks : Measured
  in_early_ticks : Measured

pub data Question : Type 0 where
  -- after these calls, timing in this measure with line tables of this length, and what these nodes show
  timing : List Call → Measured → ℕ → List ℕ → Question
  -- after these calls, the same in ticks under a trial of this arc with these ticks, and after its end
  trial : List Call → ℤ → ℤ → List ℕ → Question
  -- after these calls, one more
  call : List Call → Call → Question
  -- under this margin, the delay of an arc of so many ticks
  margin : ℕ → ℤ → Question

-- a node's slack, and the arcs of the path shown for it
pub record Shown : Type 0 where
  pub slack : Option (Row 1)
  pub arcs : Option (List ℕ)

pub data Reply : Type 0 where
  lines : ℕ → List Shown → Reply
  -- timing is refused by a number, or there is nothing to time
  refused : ℕ → Reply
  untimed : Untimed → Reply
  -- one of the calls before is refused
  stopped : ℕ → Reply
  both : Reply → Reply → Reply
  answered : Answer → Reply
  delay : Entry → Reply

-- ---- what is answered
-- a copy of a count of ticks, which the early measure asks of the one below, is the count itself
abbrev ticks_clone : clone.Ghosts the_row.Denot
ticks_clone = record { is_clone = λ x y. y ≡ x; is_infallible = λ _. Unit {0} }

-- the order and the rows of the two measures, which the measures themselves name
abbrev pub not_after : Measured → Row 1 → Row 1 → Bool
not_after in_ticks = (ticks.ghosts).not_later
not_after in_early_ticks = (early.ghosts the_row ticks.ghosts ticks.dict ticks_clone ticks.dict).not_later

abbrev pub time_row : Measured → ℤ → Row 1
time_row in_ticks = (ticks.ghosts).row_of_time
time_row in_early_ticks = (early.ghosts the_row ticks.ghosts ticks.dict ticks_clone ticks.dict).row_of_time

abbrev pub arc_row : Measured → ℤ → Row 1
arc_row in_ticks = (ticks.ghosts).row_of_arc
arc_row in_early_ticks = (early.ghosts the_row ticks.ghosts ticks.dict ticks_clone ticks.dict).row_of_arc

abbrev pub block_in : Measured → Block → Result (RowBlock (Row 1)) Untimed
block_in m g = row_block by_node (time_row m) (arc_row m) g selector_delays

abbrev shown_by : Rows (Row 1) → List (Timed (Row 1)) → ℕ → Shown
shown_by m ts v = record { slack = row_of (node_slack m v ts); arcs = trace m v ts }

abbrev counted : Rows (Row 1) → Result ℕ ℕ → List (Timed (Row 1)) → List ℕ → Reply
counted m (Err n) ts vs = refused n
counted m (Ok n) ts vs = lines n (map (shown_by m ts) vs)

abbrev timed : Rows (Row 1) → ℕ → List ℕ → Result (RowBlock (Row 1)) Untimed → Reply
timed m table vs (Err x) = untimed x
timed m table vs (Ok b) = let ts = sheet m b node_count in counted m (count_answer table ts) ts vs

abbrev timed_in : Measured → ℕ → List ℕ → Block → Reply
timed_in m table vs g = timed (rows 1 (not_after m)) table vs (block_in m g)

abbrev timed_after : Measured → ℕ → List ℕ → Result Block ℕ → Reply
timed_after m table vs (Err n) = stopped n
timed_after m table vs (Ok g) = timed_in m table vs g

abbrev tried_after : ℤ → ℤ → List ℕ → Result Block ℕ → Reply
tried_after n t vs (Err x) = stopped x
tried_after n t vs (Ok g) =
    let l = opened g n t in both (timed_in in_ticks 4096 vs l.block) (timed_in in_ticks 4096 vs (put_back l.block l.trial))

abbrev called_after : Call → Result Block ℕ → Reply
called_after c (Err n) = stopped n
called_after c (Ok g) = answered (called g c).answer

abbrev pub reply : Question → Reply
reply (timing cs m table vs) = timed_after m table vs (ran (Ok blank) cs)
reply (trial cs n t vs) = tried_after n t vs (ran (Ok blank) cs)
reply (call cs c) = called_after c (ran (Ok blank) cs)
reply (margin p t) = delay (margin_means (clamped p) 0 (delays (t ∷ [])) 0)

-- ---- the table
pub record Case : Type 0 where
  pub question : Question
  pub expected : Reply

abbrev silent : Shown
silent = record { slack = None; arcs = None }

abbrev shows : ℤ → List ℕ → Shown
shows x es = record { slack = Some (x, tt); arcs = Some es }

-- the nodes below n, the highest first
abbrev below : ℕ → List ℕ
below zero = []
below (suc n) = n ∷ below n

abbrev case : Question → Reply → Case
case q r = record { question = q; expected = r }

abbrev pub cases : List Case
cases =
    case (timing [] in_ticks 4096 (below node_count)) (lines 0 (map (λ _. silent) (below node_count)))
    ∷ case (timing (SetStart (pos 5) (pos 7) ∷ SetEnd (pos 5) (pos 10) ∷ []) in_ticks 4096 (5 ∷ [])) (lines 1 (shows (pos 3) [] ∷ []))
    ∷ case (timing (two_selectors []) in_ticks 4096 (6 ∷ [])) (lines 7 (shows (negsuc 49) (0 ∷ 2 ∷ 4 ∷ 6 ∷ []) ∷ []))
    ∷ case (timing (one_false []) in_ticks 4096 (6 ∷ 5 ∷ [])) (lines 8 (shows (pos 50) (1 ∷ 3 ∷ 4 ∷ 6 ∷ []) ∷ shows (pos 50) (0 ∷ 2 ∷ 5 ∷ 7 ∷ []) ∷ []))
    -- a tie of arcs at node 0, of lines at node 3, and two tags beyond node 1
    ∷ case (timing (one_false []) in_ticks 8 (0 ∷ 3 ∷ 1 ∷ []))
    (lines 8 (shows (pos 50) (0 ∷ 2 ∷ 5 ∷ 7 ∷ []) ∷ shows (pos 50) (1 ∷ 3 ∷ 4 ∷ 6 ∷ []) ∷ shows (pos 50) (0 ∷ 2 ∷ 5 ∷ 7 ∷ []) ∷ []))
    ∷ case (timing (one_false []) in_ticks 7 []) (refused 15)
    ∷ case (timing (one_false (Pair (pos 1) (pos 2) (pos 4) ∷ [])) in_ticks 4096 (4 ∷ [])) (lines 7 (silent ∷ []))
    ∷ case (timing (two_selectors (Pair (pos 0) (pos 0) (pos 3) ∷ [])) in_ticks 4096 (below node_count)) (lines 3 (map (λ _. silent) (below node_count)))
    ∷ case (timing (one_false []) in_early_ticks 4096 (6 ∷ [])) (lines 8 (shows (negsuc 149) (1 ∷ 3 ∷ 5 ∷ 7 ∷ []) ∷ []))
    ∷ case (trial (two_selectors []) (pos 0) (negsuc 99) (6 ∷ []))
    (both (lines 7 (shows (pos 50) (0 ∷ 2 ∷ 4 ∷ 6 ∷ []) ∷ [])) (lines 7 (shows (negsuc 49) (0 ∷ 2 ∷ 4 ∷ 6 ∷ []) ∷ [])))
    ∷ case (call (one_false []) (DropArc (pos 2))) (answered (ledger.refused 10))
    ∷ case (call (one_false []) (Pair (pos 0) (pos 4) (pos 1))) (answered (ledger.refused 11))
    ∷ case (margin 1500 (negsuc 0)) (delay (Ok (negsuc 0)))
    ∷ case (margin 1500 (pos 1)) (delay (Ok (pos 2)))
    ∷ case (margin 1500 (pos 3)) (delay (Ok (pos 5)))
    ∷ []

abbrev pub CasesHold : Type 0
CasesHold = map (λ c. reply c.question) cases ≡ map (λ c. c.expected) cases

-- ---- the theorems are about these cases
-- the graph after the calls, the measure and the block meet what the theorems ask
pub record Met (cs : List Call) (m : Measured) : Type 0 where
  pub content : Block
  pub answers : List Answer
  pub block : RowBlock (Row 1)
  -- the calls are a run of the ledger
  pub run : Runs (closed blank) (map Make cs) answers (closed content)
  pub kept : Kept content
  pub suits : Suits by_node content
  pub laws : Laws 1 (not_after m) (time_row m) (arc_row m)
  pub made : block_in m content ≡ Ok block

abbrev pub AsksMet : Question → Type 0
AsksMet (timing cs m table vs) = Met cs m
AsksMet (trial cs n t vs) = Met cs in_ticks
AsksMet (call cs c) = Unit {0}
AsksMet (margin p t) = Unit {0}

abbrev pub CasesAreMet : Type 0
CasesAreMet = AllByRecursion (λ c. AsksMet c.question) cases
