-- What holds of every run of steps.
use Rattle.std.specs.Prelude.{◌≡◌, ℕ, List}
use Rattle.measure.specs.Rows.{Row}
use Rattle.history.specs.declared.steps.Step.{Step}
use Rattle.history.specs.Answers.{Answer}
use Rattle.timing.specs.Terms.{Terms}
use Rattle.history.specs.Steps.{State, Runs}

-- the steps, the measure and what the source means settle the answers and the state after them
abbrev pub StepsSettle : Type 0
StepsSettle = (w : ℕ) (k : Terms (Row w)) (s : State (Row w)) (steps : List Step) (answers answers' : List Answer) (m m' : State (Row w))
    → Runs k s steps answers m → Runs k s steps answers' m' → (answers ≡ answers') × (m ≡ m')
