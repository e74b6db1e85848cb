-- The promise: after every history, the timer and a person with the list of all open complete paths agree.
use Rattle.std.specs.Prelude.{◌≡◌, ℕ, Bool, List, [], ◌∷◌, ◌++◌, ℤ, Result}
use Rattle.measure.specs.Rows.{Row}
use Rattle.delay.specs.Entries.{Entry}
use Rattle.graph.specs.Block.{blank}
use Rattle.ledger.specs.declared.words.Act.{Act}
use Rattle.ledger.specs.Answers as answers
use Rattle.ledger.specs.Ledger as ledger
use Rattle.ledger.specs.Ledger.{closed}
use Rattle.sheet.specs.Tables.{Tables}
use Rattle.timing.specs.Refusals.{Refused}
use Rattle.timing.specs.Terms.{Terms, terms}
use Rattle.timing.specs.Agreement.{TimingAgrees}
use Rattle.history.specs.declared.steps.Step.{Step}
use Rattle.history.specs.declared.steps.Step.TheVariants as step
use Rattle.history.specs.Answers.{Answer, acted, timed, traced}
use Rattle.history.specs.Steps.{State, new, Goes, Runs}

-- ---- the acts of a history
abbrev pub acts_of : List Step → List Act
acts_of [] = []
acts_of (step.Act x ∷ xs) = x ∷ acts_of xs
acts_of (step.Time ∷ xs) = acts_of xs
acts_of (step.Trace node ∷ xs) = acts_of xs

abbrev pub act_answers : List Answer → List answers.Answer
act_answers [] = []
act_answers (acted a ∷ xs) = a ∷ act_answers xs
act_answers (timed r ∷ xs) = act_answers xs
act_answers (traced r ∷ xs) = act_answers xs

-- ---- every history
-- each timing in a run: the state before it and after it, and what they agree on
pub record EachTiming {R : Type 0} (k : Terms R) (s : State R) (before after : List Step) (answers : List Answer) (s' : State R) : Type 0 where
  pub earlier : State R
  pub later : State R
  pub before_answers : List Answer
  pub answer : Answer
  pub told : Result ℕ Refused
  pub after_answers : List Answer
  pub answers_are : answers ≡ before_answers ++ (answer ∷ after_answers)
  pub ran : Runs k s before before_answers earlier
  pub timed_it : Goes k earlier step.Time answer later
  pub answer_is : answer ≡ timed told
  pub agrees : TimingAgrees k earlier.ledger.block earlier.tables told later.tables
  pub runs_on : Runs k later after after_answers s'

-- for the rows of one measure: every run on a new graph, with any source, tables and list
abbrev pub HistoriesAgree : (w : ℕ) → (Row w → Row w → Bool) → (ℤ → Row w) → (ℤ → Row w) → Type 0
HistoriesAgree w not_later row_of_time row_of_arc =
    (means : ℕ → Entry) (tables : Tables (Row w)) (list : List ℕ) (steps : List Step) (given : List Answer) (s : State (Row w))
    → Runs (terms w not_later row_of_time row_of_arc means) (new tables list) steps given s
    → ledger.Runs (closed blank) (acts_of steps) (act_answers given) s.ledger
    × ((before after : List Step) → steps ≡ before ++ (step.Time ∷ after)
    → EachTiming (terms w not_later row_of_time row_of_arc means) (new tables list) before after given s)
