use Rattle.std.proofs.Common.{◌≡◌, get_or, pos, sym, refl, ◌∙◌, rules}
use Rattle.std.proofs.lemmas.List.{get_or_default}
use Rattle.ledger.specs.Answers as answers
use Rattle.ledger.specs.declared.words.Act.TheVariants.{Make}
use Rattle.ledger.specs.declared.words.Call.TheVariants.{AddArc}
use Rattle.ledger.proofs.Histories.{runs_more}
use Rattle.history.specs.declared.steps.Step.TheVariants as step
use Rattle.history.specs.declared.steps.Step.TheVariants.{Time}
use Rattle.history.specs.declared.steps.StepReply.TheVariants.{Act}
use Rattle.history.specs.Answers.{answer_of}
use Rattle.timing.specs.Terms.{terms_of}
use Rattle.history.specs.Steps.{Goes}
use Rattle.history.proofs.running.advance.Goals as goal

pub returns-in-Act-Make-clause-ran : goal.returns-in-Act-Make-clause-ran
returns-in-Act-Make-clause-ran g c =
    let m = g.M.Measure in
    let k = terms_of m (g.S.Source.means c.args.source.now) in
    let x = c.in-Act-Make in
    let read-as = step.Act (Make (AddArc (pos 0) (pos 0))) in
    let is : get_or c.args.steps.now 0 read-as ≡ step.Act (Make x.call) = search rules in
    let first = sym (get_or_default c.args.steps.now 0 read-as Time c.requires.some) ∙ is in
    runs_more (Goes k) answer_of _ c.args.steps.now c.args.replies.now 0 Time (step.Act (Make x.call)) _ (Act c.make.result) _ c.requires.some c.requires.room first refl
    (answers.answer_of c.make.result, refl, (refl, refl, c.make.ensures), refl, refl)
