-- Runs of steps of any kind, each with its answer, and how trials nest among them.
use Rattle.std.specs.Prelude.{◌≡◌, Bool, false, not, List, [], ◌∷◌, Some, None, Option}

module _ {S X A : Type 0} (Goes : S → X → A → S → Type 0) where
  -- the steps in their order, each with its answer
  abbrev pub RunsBy : S → List X → List A → S → Type 0
  RunsBy s [] [] s' = s' ≡ s
  RunsBy s [] (a ∷ answers) s' = ⊥
  RunsBy s (x ∷ xs) [] s' = ⊥
  RunsBy s (x ∷ xs) (a ∷ answers) s' = (m : S) × Goes s x a m × RunsBy m xs answers s'

-- after says whether a trial is open after a step, where its flag says whether one is before it; None where the step may not come
module _ {X : Type 0} (after : X → Bool → Option Bool) where
  -- each trial is ended before the next call, and the last before the end
  abbrev pub nested_by : List X → Bool → Bool
  nested_by [] trying = not trying
  nested_by (x ∷ xs) trying = elim (after x trying) [ None ↦ false | Some o ↦ nested_by xs o ]
