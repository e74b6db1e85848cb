-- What a timing of a held graph answers and leaves, and what a trace does.
use Rattle.std.specs.Prelude.{◌≡◌, ℕ, List, map, length, ℤ, Some, None, Option, Result}
use Rattle.measure.specs.declared.measure.Measure.{Ghosts as Measure}
use Rattle.measure.specs.Rows.{Row, zeros}
use Rattle.reader.specs.declared.faults.FileRefusal.{FileRefusal}
use Rattle.delay.specs.declared.annotated.AnnotatedRow.{AnnotatedRow}
use Rattle.delay.specs.Annotated.{annotated_ticks}
use Rattle.delay.specs.Tables.{tabled}
use Rattle.delay.specs.Margin.{clamped, margin_means}
use Rattle.delay.specs.DelayFiles.{Loads, LastLineStands}
use Rattle.delay.specs.Entries.{Entry}
use Rattle.ledger.specs.Answers.{load_answer}
use Rattle.ledger.specs.Ledger.{Ledger}
use Rattle.paths.specs.Graphs.{by_node, row_block}
use Rattle.sheet.specs.Tables.{Tables, blanked}
use Rattle.sheet.specs.Traces.{trace_outcome}
use Rattle.timing.specs.Measured.{measured}
use Rattle.timing.specs.Times.{TimeOutcome, time_outcome}
use Rattle.held.specs.declared.answer.Answer.{Answer}
use Rattle.held.specs.Answers.{refused, told, told_time, told_trace}

-- the load of a delay file: rows are the table before it, rows' after it
abbrev pub LoadsDelays : List ℕ → List AnnotatedRow → Answer → List AnnotatedRow → Type 0
LoadsDelays bytes rows a rows' = (r : Result Unit FileRefusal) × (a ≡ told (load_answer r)) × Loads bytes rows r rows' × LastLineStands bytes rows r rows'

-- the delays that the rows have, and those under a margin
abbrev pub delays_of : List AnnotatedRow → ℕ → Entry
delays_of rows = tabled (map annotated_ticks rows)

abbrev pub delays_with_margin : ℕ → List AnnotatedRow → ℕ → Entry
delays_with_margin permille rows = margin_means (clamped permille) 0 (delays_of rows)

abbrev pub Gives : {R : Type 0} → TimeOutcome R → Answer → Tables R → Type 0
Gives o a t = (a ≡ told_time o.answer) × (t ≡ o.tables)

module _ {M : Type 0} (m : Measure M) where
  -- the timing of what the memory holds, with the delays that means has for each arc: t are the tables before it, t' after it.
  -- Where no graph was made it is refused by 30, which leaves blank tables too
  abbrev pub Times : Option Ledger → (ℕ → Entry) → Tables (Row m.width) → Answer → Tables (Row m.width) → Type 0
  Times None means t a t' = (a ≡ refused 30) × (t' ≡ blanked (zeros m.width) t)
  Times (Some l) means t a t' = Gives (time_outcome (measured m) t (row_block by_node m.row_of_time m.row_of_arc l.block means)) a t'

-- the trace of a node in tables that stay as they are: list is the list before it, list' after it
pub record Traces {R : Type 0} (t : Tables R) (node : ℤ) (list : List ℕ) (a : Answer) (list' : List ℕ) : Type 0 where
  pub answer : a ≡ told_trace (trace_outcome t node (length list)).answer
  pub shown : list' ≡ (trace_outcome t node (length list)).list
