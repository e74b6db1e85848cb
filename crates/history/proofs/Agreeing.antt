-- Every history agrees with the list of all open complete paths.
use Rattle.std.proofs.Common.{◌≡◌, ℕ, Bool, List, [], ◌∷◌, ◌++◌, ℤ, sym, refl, ap, subst}
use Rattle.measure.specs.Rows.{Row}
use Rattle.measure.specs.Laws.{Laws}
use Rattle.delay.specs.Entries.{Entry}
use Rattle.ledger.specs.Ledger as ledger
use Rattle.ledger.specs.Ledger.{Ledger}
use Rattle.ledger.proofs.Undoing.{all_keep}
use Rattle.sheet.specs.Tables.{Tables}
use Rattle.timing.specs.Terms.{Terms, terms}
use Rattle.timing.proofs.Agreeing.{timing_agrees}
use Rattle.history.specs.declared.steps.Step.{Step}
use Rattle.history.specs.declared.steps.Step.TheVariants as step
use Rattle.history.specs.Answers.{Answer}
use Rattle.history.specs.Steps.{State, new, timing_of, Goes, Runs}
use Rattle.history.specs.Promise.{acts_of, act_answers, EachTiming, HistoriesAgree}

-- ---- the acts of a run, and its parts around a timing
module _ {R : Type 0} (k : Terms R) where
  -- a timing or a trace leaves the ledger, and its answer is none of an act's
  acts_first : (s : State R) (x : Step) (a : Answer) (m : State R) (xs : List Step) (told : List Answer) (l : Ledger) → Goes k s x a m
      → ledger.Runs m.ledger (acts_of xs) (act_answers told) l → ledger.Runs s.ledger (acts_of (x ∷ xs)) (act_answers (a ∷ told)) l
  acts_first s (step.Act x) a m xs told l g h =
      subst (λ b. ledger.Runs s.ledger (x ∷ acts_of xs) (act_answers (b ∷ told)) l) (sym g.1) (m.ledger, g.2, h)
  acts_first s step.Time a m xs told l g h =
      subst (λ b. ledger.Runs s.ledger (acts_of xs) (act_answers (b ∷ told)) l) (sym g.0)
      (subst (λ (n : State R). ledger.Runs n.ledger (acts_of xs) (act_answers told) l) g.1 h)
  acts_first s (step.Trace node) a m xs told l g h =
      subst (λ b. ledger.Runs s.ledger (acts_of xs) (act_answers (b ∷ told)) l) (sym g.0)
      (subst (λ (n : State R). ledger.Runs n.ledger (acts_of xs) (act_answers told) l) g.1 h)

  acts_run : (s : State R) (xs : List Step) (told : List Answer) (s' : State R) → Runs k s xs told s' → ledger.Runs s.ledger (acts_of xs) (act_answers told) s'.ledger
  acts_run s [] [] s' h = ap (λ (z : State R). z.ledger) h
  acts_run s [] (a ∷ told) s' h = absurd h
  acts_run s (x ∷ xs) [] s' h = absurd h
  acts_run s (x ∷ xs) (a ∷ told) s' h = acts_first s x a h.0 xs told s'.ledger h.1 (acts_run h.0 xs told s' h.2)

  -- a run with a timing in it, before that is looked into
  record Parts (s : State R) (before after : List Step) (given : List Answer) (s' : State R) : Type 0 where
    earlier : State R
    later : State R
    before_answers : List Answer
    answer : Answer
    after_answers : List Answer
    answers_are : given ≡ before_answers ++ (answer ∷ after_answers)
    ran : Runs k s before before_answers earlier
    timed_it : Goes k earlier step.Time answer later
    runs_on : Runs k later after after_answers s'

  parts : (s : State R) (before after : List Step) (given : List Answer) (s' : State R) → Runs k s (before ++ (step.Time ∷ after)) given s' → Parts s before after given s'
  parts s [] after [] s' h = absurd h
  parts s [] after (a ∷ told) s' h = record {
    earlier = s;
    later = h.0;
    before_answers = [];
    answer = a;
    after_answers = told;
    answers_are = refl;
    ran = refl;
    timed_it = h.1;
    runs_on = h.2;
  }
  parts s (x ∷ xs) after [] s' h = absurd h
  parts s (x ∷ xs) after (a ∷ told) s' h =
      let p = parts h.0 xs after told s' h.2 in
      record {
        earlier = p.earlier;
        later = p.later;
        before_answers = a ∷ p.before_answers;
        answer = p.answer;
        after_answers = p.after_answers;
        answers_are = ap (λ us. a ∷ us) p.answers_are;
        ran = (h.0, h.1, p.ran);
        timed_it = p.timed_it;
        runs_on = p.runs_on;
      }

module _ (w : ℕ) (not_later : Row w → Row w → Bool) (row_of_time row_of_arc : ℤ → Row w) (laws : Laws w not_later row_of_time row_of_arc) (means : ℕ → Entry) where
  abbrev these : Terms (Row w)
  these = terms w not_later row_of_time row_of_arc means

  each_timing : (tables : Tables (Row w)) (list : List ℕ) (before after : List Step) (given : List Answer) (s : State (Row w))
      → Runs these (new tables list) (before ++ (step.Time ∷ after)) given s → EachTiming these (new tables list) before after given s
  each_timing tables list before after given s h =
      let p = parts these (new tables list) before after given s h in
      let kept = all_keep (acts_of before) (act_answers p.before_answers) p.earlier.ledger
      (acts_run these (new tables list) before p.before_answers p.earlier p.ran) in
      record {
        earlier = p.earlier;
        later = p.later;
        before_answers = p.before_answers;
        answer = p.answer;
        after_answers = p.after_answers;
        answers_are = p.answers_are;
        ran = p.ran;
        timed_it = p.timed_it;
        told = (timing_of these p.earlier.ledger.block p.earlier.tables).answer;
        answer_is = p.timed_it.0;
        agrees = timing_agrees w not_later row_of_time row_of_arc laws means p.earlier.ledger.block kept p.earlier.tables
            (timing_of these p.earlier.ledger.block p.earlier.tables).answer p.later.tables refl (ap (λ (z : State (Row w)). z.tables) p.timed_it.1);
        runs_on = p.runs_on;
      }

pub histories_agree : (w : ℕ) (not_later : Row w → Row w → Bool) (row_of_time row_of_arc : ℤ → Row w) → Laws w not_later row_of_time row_of_arc → HistoriesAgree w not_later row_of_time row_of_arc
histories_agree w not_later row_of_time row_of_arc laws means tables list steps given s h =
    let k = terms w not_later row_of_time row_of_arc means in (
      acts_run k (new tables list) steps given s h,
      λ before after e.
          each_timing w not_later row_of_time row_of_arc laws means tables list before after given s
          (subst (λ xs. Runs k (new tables list) xs given s) e h),
    )
