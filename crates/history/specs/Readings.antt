-- Steps that only read the graph.
use Rattle.std.specs.Prelude.{◌≡◌, ℕ, Bool, true, false, List, length, Some, None, Option}
use Rattle.graph.specs.Block.{Block, arc_at}
use Rattle.ledger.specs.declared.words.Act.TheVariants.{Make, Open, Read, End}
use Rattle.ledger.specs.Answers.{shows}
use Rattle.sheet.specs.Tables.{Tables}
use Rattle.sheet.specs.Traces.{trace_outcome}
use Rattle.history.specs.declared.steps.Step.{Step}
use Rattle.history.specs.declared.steps.Step.TheVariants as step
use Rattle.history.specs.declared.steps.StepReply.{StepReply}
use Rattle.history.specs.Answers.{Answer, acted, timed, traced, answer_of}
use Rattle.timing.specs.Terms.{Terms}
use Rattle.history.specs.Steps.{timing_of}

-- an answer, and the tables and the list after it
pub record Answered {R : Type 0} (a : Answer) (t : Tables R) (list : List ℕ) (r : Option StepReply) (t' : Tables R) (list' : List ℕ) : Type 0 where
  pub reply : StepReply
  pub reply_is : r ≡ Some reply
  pub answer_is : answer_of reply ≡ a
  pub tables_are : t' ≡ t
  pub list_is : list' ≡ list

-- no reading: nothing is answered, and nothing changes
abbrev pub NotRead : {R : Type 0} → Tables R → List ℕ → Option StepReply → Tables R → List ℕ → Type 0
NotRead t list r t' list' = (r ≡ None) × (t' ≡ t) × (list' ≡ list)

-- the step x on the graph g, with the tables t and the list before it
abbrev pub Reads : {R : Type 0} → Terms R → Block → Step → Tables R → List ℕ → Option StepReply → Tables R → List ℕ → Type 0
Reads k g (step.Act (Make c)) t list r t' list' = NotRead t list r t' list'
Reads k g (step.Act (Open n d)) t list r t' list' = NotRead t list r t' list'
Reads k g (step.Act (Read n)) t list r t' list' = Answered (acted (shows (arc_at g n))) t list r t' list'
Reads k g (step.Act End) t list r t' list' = NotRead t list r t' list'
Reads k g step.Time t list r t' list' = let w = timing_of k g t in Answered (timed w.answer) w.tables list r t' list'
Reads k g (step.Trace node) t list r t' list' = let w = trace_outcome t node (length list) in Answered (traced w.answer) t w.list r t' list'

-- whether a step only reads the graph
abbrev pub is_reading : Step → Bool
is_reading (step.Act (Make c)) = false
is_reading (step.Act (Open n d)) = false
is_reading (step.Act (Read n)) = true
is_reading (step.Act End) = false
is_reading step.Time = true
is_reading (step.Trace node) = true
