-- The steps of a run settle its answers and states.
use Rattle.std.proofs.Common.{◌≡◌, List, [], ◌∷◌, sym, refl, ap, ◌∙◌, subst}
use Rattle.ledger.specs.Answers as answers
use Rattle.ledger.proofs.Settling.{all_settled}
use Rattle.history.specs.declared.steps.Step.{Step}
use Rattle.history.specs.declared.steps.Step.TheVariants as step
use Rattle.history.specs.Answers.{Answer, acted}
use Rattle.timing.specs.Terms.{Terms}
use Rattle.history.specs.Steps.{State, Goes, Runs}
use Rattle.history.specs.Laws.{StepsSettle}

abbrev first_of : answers.Answer → List answers.Answer → answers.Answer
first_of d [] = d
first_of d (a ∷ us) = a

module _ {R : Type 0} (k : Terms R) where
  goes_same : (s : State R) (x : Step) (a a' : Answer) (m m' : State R) → Goes k s x a m → Goes k s x a' m' → (a ≡ a') × (m ≡ m')
  goes_same s (step.Act x) a a' m m' p q =
      let h = all_settled s.ledger (x ∷ []) (p.0 ∷ []) (q.0 ∷ []) m.ledger m'.ledger (m.ledger, p.2, refl) (m'.ledger, q.2, refl) in
      let t = p.3 ∙ sym q.3 in
      let l = p.4 ∙ sym q.4 in
      (p.1 ∙ ap (λ us. acted (first_of p.0 us)) h.0 ∙ sym q.1, λ i. record { ledger = h.1 i; tables = t i; list = l i })
  goes_same s step.Time a a' m m' p q = (p.0 ∙ sym q.0, p.1 ∙ sym q.1)
  goes_same s (step.Trace node) a a' m m' p q = (p.0 ∙ sym q.0, p.1 ∙ sym q.1)

  runs_same : (s : State R) (xs : List Step) (us us' : List Answer) (m m' : State R) → Runs k s xs us m → Runs k s xs us' m' → (us ≡ us') × (m ≡ m')
  runs_same s [] [] [] m m' p q = (refl, p ∙ sym q)
  runs_same s [] [] (a ∷ us') m m' p q = absurd q
  runs_same s [] (a ∷ us) us' m m' p q = absurd p
  runs_same s (x ∷ xs) [] us' m m' p q = absurd p
  runs_same s (x ∷ xs) (a ∷ us) [] m m' p q = absurd q
  runs_same s (x ∷ xs) (a ∷ us) (a' ∷ us') m m' p q =
      let h = goes_same s x a a' p.0 q.0 p.1 q.1 in
      let t = runs_same p.0 xs us us' m m' p.2 (subst (λ n. Runs k n xs us' m') (sym h.1) q.2) in
      ((λ i. h.0 i ∷ t.0 i), t.1)

pub all_settle : StepsSettle
all_settle w k s steps us us' m m' p q = runs_same k s steps us us' m m' p q
