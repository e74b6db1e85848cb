use Rattle.std.proofs.Common.{◌+◌, true, map, get_or, take, drop, set, Some, None, sym, refl, ap, ◌∙◌, subst, arith, length-set, w32, rules}
use Rattle.std.specs.Option.{option_map}
use Rattle.std.proofs.lemmas.Int.{to_z-of_z}
use Rattle.std.proofs.lemmas.List.{get_or_default}
use Rattle.measure.specs.Rows.{Row}
use Rattle.graph.specs.Refusals.{refusal_number}
use Rattle.graph.specs.Block.{Block, block_of}
use Rattle.ledger.specs.declared.words.Reply.TheVariants.{Done}
use Rattle.ledger.specs.Answers as answers
use Rattle.ledger.specs.Answers.{open_answer}
use Rattle.ledger.proofs.Histories.{runs_more, by_next, left_at}
use Rattle.ledger.proofs.Running.{under, opened_acts, ended_acts}
use Rattle.sheet.specs.Lent.{tables_in}
use Rattle.ledger.specs.declared.words.Act.TheVariants.{End}
use Rattle.history.specs.declared.steps.Step.TheVariants as step
use Rattle.history.specs.declared.steps.Step.TheVariants.{Time}
use Rattle.history.specs.declared.steps.StepReply.TheVariants.{Act}
use Rattle.history.specs.Answers.{answer_of}
use Rattle.timing.specs.Terms.{terms_of}
use Rattle.history.specs.Steps.{State, at_rest, Goes, Runs, open_after}
use Rattle.history.specs.Readings.{Reads}
use Rattle.history.proofs.Stepping.{answered_step, unanswered_step}
use Rattle.history.proofs.running.under_trial.Goals as goal

pub loop-i-init : goal.loop-i-init
loop-i-init g c =
    let m = g.M.Measure in
    let k = terms_of m (g.S.Source.means c.args.source.now) in
    let t = tables_in m.row c.args.tables.now in
    let list = c.args.list.now in
    let trial = c.trial-trial.result in
    let opened : State (Row m.width) = record { ledger = under (block_of trial.graph.now) trial.arc trial.earlier trial.refusal; tables = t; list = list } in
    let reply = Act c.opening.result in (
      length-set _ _ _ ∙ c.requires.room,
      omega arith,
      c.requires.nests,
      refl,
      refl,
      search rules,
      subst (λ b. Runs k (at_rest b t list) (take 1 c.args.steps.now) (map answer_of (take 1 (set c.args.replies.now 0 reply))) opened) (sym c.trial-trial.ensures.back)
          (runs_more (Goes k) answer_of (at_rest (block_of c.args.graph.now) t list) c.args.steps.now c.args.replies.now 0 _ _ _ reply opened c.requires.some c.requires.room c.requires.opens refl (
            answers.answer_of c.opening.result,
            refl,
            opened_acts _ _ _ _ _ _ _ _ _ _ (to_z-of_z w32 c.args.arc c.ranges.arc) (to_z-of_z w32 c.args.ticks c.ranges.ticks) c.trial-trial.ensures.opened
                (c.opening.ensures ∙ ap (λ o. open_answer (option_map refusal_number o)) c.refusal.ensures),
            refl,
            refl,
          )),
    )

pub loop-i-preserved : goal.loop-i-preserved
loop-i-preserved g c =
    let m = g.M.Measure in
    let k = terms_of m in
    let i = c.loop-i.i in
    let steps = c.args.steps.now in
    let here = c.loop-i.list in
    let t = tables_in m.row c.loop-i.tables in
    let t' = tables_in m.row c.read.new.tables in
    let trial = c.trial-trial.result in
    let l = under (block_of trial.graph.now) trial.arc trial.earlier trial.refusal in
    let inv = c.loop-i.invariant in
    let reply = Some c.in-Some.reply in
    let told = subst (λ x. Reads (k (g.S.Source.means c.loop-i.source)) (block_of c.graph.result.now) x t here reply t' c.read.new.list) (get_or_default steps i _ Time c.loop-i-test.true) c.in-Some.ensures.reads in
    let known = subst (λ f. Reads (k f) (block_of c.graph.result.now) (get_or steps i Time) t here reply t' c.read.new.list) inv.3 told in
    let reads = subst (λ h. Reads (k (g.S.Source.means c.args.source.now)) (block_of h) (get_or steps i Time) t here reply t' c.read.new.list) c.graph.ensures known in
    let s = answered_step (k (g.S.Source.means c.args.source.now)) l t here t' c.read.new.list (get_or steps i Time) c.in-Some.reply reads in
    let next = ap (λ o. by_next open_after o (drop (i + 1) steps)) (sym (s.stays true)) ∙ sym (left_at open_after steps i Time (get_or steps i Time) true c.loop-i-test.true refl) ∙ inv.2 in (
      length-set _ _ _ ∙ inv.0,
      omega arith,
      next,
      c.in-Some.ensures.same ∙ inv.3,
      c.in-Some.ensures.level ∙ inv.4,
      search rules,
      runs_more (Goes (k (g.S.Source.means c.args.source.now))) answer_of _ steps c.loop-i.replies i Time (get_or steps i Time) _ c.in-Some.reply _ c.loop-i-test.true inv.0 refl inv.6 s.goes,
    )

-- the step that is not answered is the trial's end
pub returns-in_default : goal.returns-in_default
returns-in_default g c =
    let m = g.M.Measure in
    let k = terms_of m in
    let i = c.loop-i.i in
    let steps = c.args.steps.now in
    let here = c.loop-i.list in
    let t = tables_in m.row c.loop-i.tables in
    let t' = tables_in m.row c.read.new.tables in
    let trial = c.trial-trial.result in
    let l = under (block_of trial.graph.now) trial.arc trial.earlier trial.refusal in
    let inv = c.loop-i.invariant in
    let told = subst (λ x. Reads (k (g.S.Source.means c.loop-i.source)) (block_of c.graph.result.now) x t here None t' c.read.new.list) (get_or_default steps i _ Time c.loop-i-test.true) c.in_default.ensures.reads in
    let known = subst (λ f. Reads (k f) (block_of c.graph.result.now) (get_or steps i Time) t here None t' c.read.new.list) inv.3 told in
    let reads = subst (λ h. Reads (k (g.S.Source.means c.args.source.now)) (block_of h) (get_or steps i Time) t here None t' c.read.new.list) c.graph.ensures known in
    let left = sym (left_at open_after steps i Time (get_or steps i Time) true c.loop-i-test.true refl) ∙ inv.2 in
    let e = unanswered_step (k (g.S.Source.means c.args.source.now)) l t here t' c.read.new.list (get_or steps i Time) (drop (i + 1) steps) reads left in
    let start : Block → State (Row m.width) = λ b. at_rest b (tables_in m.row c.args.tables.now) c.args.list.now in
    let so_far = subst (λ b. Runs (k (g.S.Source.means c.args.source.now)) (start b) (take i steps) (map answer_of (take i c.loop-i.replies)) (record { ledger = l; tables = t; list = here })) c.trial-trial.ensures.back inv.6 in
    record {
      further = omega arith;
      within = omega (arith, c.loop-i-test.true);
      nests = e.nests;
      ran = runs_more (Goes (k (g.S.Source.means c.args.source.now))) answer_of _ steps c.loop-i.replies i Time (step.Act End) _ (Act Done) _ c.loop-i-test.true inv.0 e.ends so_far
          (answers.done, refl, ended_acts _ _ _ _ _ (search rules), e.tables_are, e.list_is);
      loans = search rules;
      same = c.in_default.ensures.same ∙ inv.3;
      level = c.in_default.ensures.level ∙ inv.4;
    }
