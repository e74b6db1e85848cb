-- What each step of a history answers and leaves, and a run of steps.
use Rattle.std.specs.Prelude.{◌≡◌, ℕ, Bool, false, List, length, Some, Option}
use Rattle.graph.specs.Block.{Block, blank}
use Rattle.ledger.specs.declared.words.Misuse.{Misuse}
use Rattle.ledger.specs.declared.words.Misuse.TheVariants.{Lengths, Nesting}
use Rattle.ledger.specs.Answers as answers
use Rattle.ledger.specs.Ledger as ledger
use Rattle.ledger.specs.Ledger.{Ledger, closed, Acts}
use Rattle.ledger.specs.Histories.{RunsBy, nested_by}
use Rattle.paths.specs.Graphs.{by_node, row_block}
use Rattle.sheet.specs.Tables.{Tables}
use Rattle.sheet.specs.Traces.{trace_outcome}
use Rattle.timing.specs.Times.{TimeOutcome, time_outcome}
use Rattle.timing.specs.Terms.{Terms}
use Rattle.history.specs.declared.steps.Step.{Step}
use Rattle.history.specs.declared.steps.Step.TheVariants.{Act, Time, Trace}
use Rattle.history.specs.declared.steps.StepReply.{StepReply}
use Rattle.history.specs.Answers.{Answer, acted, timed, traced}

-- the ledger of the acts, and the tables and the list of arcs that the timer writes
pub record State (R : Type 0) : Type 0 where
  pub ledger : Ledger
  pub tables : Tables R
  pub list : List ℕ

-- a graph with no trial open
abbrev pub at_rest : {R : Type 0} → Block → Tables R → List ℕ → State R
at_rest b tables list = record { ledger = closed b; tables = tables; list = list }

-- a new graph, with tables and a list of any content
abbrev pub new : {R : Type 0} → Tables R → List ℕ → State R
new tables list = at_rest blank tables list

-- a timing of the ledger's block, and a trace in the tables as they are
abbrev pub timing_of : {R : Type 0} → Terms R → Block → Tables R → TimeOutcome R
timing_of k g t = time_outcome k.rows t (row_block by_node k.row_of_time k.row_of_arc g k.means)

-- s is the state before the step, s' after it. Time and trace leave the ledger, an act leaves the tables and the list.
abbrev pub Goes : {R : Type 0} → Terms R → State R → Step → Answer → State R → Type 0
Goes k s (Act x) a s' = (r : answers.Answer) × (a ≡ acted r) × Acts s.ledger x r s'.ledger × (s'.tables ≡ s.tables) × (s'.list ≡ s.list)
Goes k s Time a s' =
    let w = timing_of k s.ledger.block s.tables in
    (a ≡ timed w.answer) × (s' ≡ record { ledger = s.ledger; tables = w.tables; list = s.list })
Goes k s (Trace node) a s' =
    let w = trace_outcome s.tables node (length s.list) in
    (a ≡ traced w.answer) × (s' ≡ record { ledger = s.ledger; tables = s.tables; list = w.list })

-- the steps in their order, each with its answer
abbrev pub Runs : {R : Type 0} → Terms R → State R → List Step → List Answer → State R → Type 0
Runs k s steps answers s' = RunsBy (Goes k) s steps answers s'

-- whether a trial is open after a step; timings and traces may come under an open trial
abbrev pub open_after : Step → Bool → Option Bool
open_after (Act x) trying = ledger.open_after x trying
open_after Time trying = Some trying
open_after (Trace node) trying = Some trying

abbrev pub nested : List Step → Bool → Bool
nested steps trying = nested_by open_after steps trying

-- when a list of steps is not run
abbrev pub Misused : Misuse → List Step → List StepReply → Type 0
Misused Lengths steps replies = length replies ≡ length steps → ⊥
Misused Nesting steps replies = (length replies ≡ length steps) × (nested steps false ≡ false)
