-- Steps that read, as steps of a run.
use Rattle.std.proofs.Common.{◌≡◌, ℕ, Bool, true, false, List, Some, None, sym, refl, ap, ◌∙◌, arith}
use Rattle.std.proofs.lemmas.Bool.{both_ways}
use Rattle.ledger.specs.declared.words.Act.TheVariants.{Make, Open, Read, End}
use Rattle.ledger.specs.Answers.{shows}
use Rattle.ledger.specs.Ledger.{Ledger}
use Rattle.ledger.proofs.Histories.{by_next}
use Rattle.graph.specs.Block.{arc_at}
use Rattle.sheet.specs.Tables.{Tables}
use Rattle.history.specs.declared.steps.Step.{Step}
use Rattle.history.specs.declared.steps.Step.TheVariants as step
use Rattle.history.specs.declared.steps.StepReply.{StepReply}
use Rattle.history.specs.Answers.{answer_of}
use Rattle.timing.specs.Terms.{Terms}
use Rattle.history.specs.Steps.{State, Goes, open_after, nested}
use Rattle.history.specs.Readings.{Reads}

module _ {R : Type 0} (k : Terms R) (l : Ledger) (t : Tables R) (list : List ℕ) (t' : Tables R) (list' : List ℕ) where
  abbrev pub before : State R
  before = record { ledger = l; tables = t; list = list }

  abbrev pub after : State R
  after = record { ledger = l; tables = t'; list = list' }

  -- a step that was answered is one of the run, and leaves a trial open or closed
  pub record IsStep (x : Step) (p : StepReply) : Type 0 where
    pub goes : Goes k before x (answer_of p) after
    pub stays : (o : Bool) → open_after x o ≡ Some o

  same_reply : (p q : StepReply) → Some p ≡ Some q → p ≡ q
  same_reply p q e = cc

  no_reply : {A : Type 0} (p : StepReply) → Some p ≡ None → A
  no_reply p e = absurd (let z : ◌≡◌ {A = ℕ} 0 1 = cc in omega arith)

  pub answered_step : (x : Step) (p : StepReply) → Reads k l.block x t list (Some p) t' list' → IsStep x p
  answered_step (step.Act (Make c)) p r = no_reply p r.0
  answered_step (step.Act (Open n d)) p r = no_reply p r.0
  answered_step (step.Act End) p r = no_reply p r.0
  answered_step (step.Act (Read n)) p r = record {
    goes = (shows (arc_at l.block n), ap answer_of (same_reply p r.reply r.reply_is) ∙ r.answer_is, (refl, refl), r.tables_are, r.list_is);
    stays = λ o. refl;
  }
  answered_step step.Time p r = record {
    goes = (ap answer_of (same_reply p r.reply r.reply_is) ∙ r.answer_is, λ i. record { ledger = l; tables = r.tables_are i; list = r.list_is i });
    stays = λ o. refl;
  }
  answered_step (step.Trace node) p r = record {
    goes = (ap answer_of (same_reply p r.reply r.reply_is) ∙ r.answer_is, λ i. record { ledger = l; tables = r.tables_are i; list = r.list_is i });
    stays = λ o. refl;
  }

  -- a step that was not answered under an open trial is its end, and nothing changed
  pub record IsEnd (x : Step) (xs : List Step) : Type 0 where
    pub ends : x ≡ step.Act End
    pub nests : nested xs false ≡ true
    pub tables_are : t' ≡ t
    pub list_is : list' ≡ list

  pub unanswered_step : (x : Step) (xs : List Step) → Reads k l.block x t list None t' list' → by_next open_after (open_after x true) xs ≡ true → IsEnd x xs
  unanswered_step (step.Act (Make c)) xs r h = absurd (both_ways false refl h)
  unanswered_step (step.Act (Open n d)) xs r h = absurd (both_ways false refl h)
  unanswered_step (step.Act End) xs r h = record { ends = refl; nests = h; tables_are = r.1; list_is = r.2 }
  unanswered_step (step.Act (Read n)) xs r h = no_reply r.reply (sym r.reply_is)
  unanswered_step step.Time xs r h = no_reply r.reply (sym r.reply_is)
  unanswered_step (step.Trace node) xs r h = no_reply r.reply (sym r.reply_is)
