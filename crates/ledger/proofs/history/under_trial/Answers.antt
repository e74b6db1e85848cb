use Rattle.std.proofs.Common.{◌+◌, true, drop, sym, refl, ap, ◌∙◌, arith, length-set, w32, rules}
use Rattle.std.specs.Option.{option_map}
use Rattle.std.proofs.lemmas.Int.{to_z-of_z}
use Rattle.graph.specs.Block.{block_of, arc_at}
use Rattle.graph.specs.Refusals.{refusal_number}
use Rattle.ledger.specs.Ledger.{Acts, open_after}
use Rattle.ledger.specs.Answers.{answer_of, shows, open_answer}
use Rattle.ledger.proofs.Histories.{runs_more, left_at}
use Rattle.ledger.proofs.Running.{opened_acts, ended_acts, then_end}
use Rattle.ledger.proofs.history.under_trial.Goals as goal

pub loop-i-init : goal.loop-i-init
loop-i-init c = (
  length-set _ _ _ ∙ c.requires.room,
  omega arith,
  c.requires.nests,
  runs_more Acts answer_of _ c.args.acts.now c.args.replies.now c.args.at _ _ _ _ _ c.requires.within c.requires.room c.requires.opens c.requires.before
      (opened_acts _ _ _ _ _ _ _ _ _ _ (to_z-of_z w32 c.args.arc c.ranges.arc) (to_z-of_z w32 c.args.ticks c.ranges.ticks) c.trial-trial.ensures.opened
      (c.opening.ensures ∙ ap (λ o. open_answer (option_map refusal_number o)) c.refusal.ensures)),
)

pub loop-i-preserved : goal.loop-i-preserved
loop-i-preserved c =
    let left = sym (left_at open_after c.args.acts.now c.loop-i.i _ _ true c.loop-i-test.true c.in-Read.is) ∙ c.loop-i.invariant.2 in (
      length-set _ _ _ ∙ c.loop-i.invariant.0,
      omega arith,
      left,
      runs_more Acts answer_of _ c.args.acts.now c.loop-i.replies c.loop-i.i _ _ _ _ _ c.loop-i-test.true c.loop-i.invariant.0 c.in-Read.is c.loop-i.invariant.3
          (ap shows (c.arc.ensures ∙ ap (λ g. arc_at (block_of g) c.in-Read.arc) c.graph.ensures), refl),
    )

-- the act that is no reading is the trial's end
pub returns-in_default : goal.returns-in_default
returns-in_default c =
    let at-end = then_end _ (drop (c.loop-i.i + 1) c.args.acts.now) c.in_default.not-Read (sym (left_at open_after c.args.acts.now c.loop-i.i _ _ true c.loop-i-test.true refl) ∙ c.loop-i.invariant.2) in
    record {
      further = omega arith;
      within = omega (arith, c.loop-i-test.true);
      nests = at-end.1;
      ran = runs_more Acts answer_of _ c.args.acts.now c.loop-i.replies c.loop-i.i _ _ _ _ _ c.loop-i-test.true c.loop-i.invariant.0 at-end.0 c.loop-i.invariant.3
          (ended_acts _ _ _ _ _ (search rules));
    }
