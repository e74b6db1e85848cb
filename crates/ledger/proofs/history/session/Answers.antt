use Rattle.std.proofs.Common.{false, sym, refl, ap, ◌∙◌, ap₂, arith, w32, SFits, rules}
use Rattle.std.proofs.lemmas.List.{get_or_default}
use Rattle.std.proofs.lemmas.Int.{to_z-of_z}
use Rattle.std.proofs.lemmas.Bool.{both_ways}
use Rattle.ledger.specs.declared.words.Act.TheVariants.{Open, End}
use Rattle.ledger.specs.Ledger.{Acts, open_after}
use Rattle.ledger.specs.Answers.{answer_of, shows}
use Rattle.ledger.proofs.Histories.{runs_more, runs_all, left_at}
use Rattle.ledger.proofs.history.session.Goals as goal

pub bounds-replies-i : goal.bounds-replies-i
bounds-replies-i c = omega arith

pub bounds-replies-i-in-Read : goal.bounds-replies-i-in-Read
bounds-replies-i-in-Read c = omega arith

pub loop-i-preserved-in-Make : goal.loop-i-preserved-in-Make
loop-i-preserved-in-Make c = (
  omega arith,
  sym (left_at open_after c.args.acts.now c.loop-i.i _ _ false c.loop-i-test.true c.in-Make.is) ∙ c.loop-i.invariant.1,
  runs_more Acts answer_of _ c.args.acts.now c.loop-i.replies c.loop-i.i _ _ _ _ _ c.loop-i-test.true (c.loop-i.auto.replies ∙ c.if-replies-acts.false) c.in-Make.is c.loop-i.invariant.2
      (refl, refl, c.make.ensures),
)

pub loop-i-preserved-in-Read : goal.loop-i-preserved-in-Read
loop-i-preserved-in-Read c = (
  omega arith,
  sym (left_at open_after c.args.acts.now c.loop-i.i _ _ false c.loop-i-test.true c.in-Read.is) ∙ c.loop-i.invariant.1,
  runs_more Acts answer_of _ c.args.acts.now c.loop-i.replies c.loop-i.i _ _ _ _ _ c.loop-i-test.true (c.loop-i.auto.replies ∙ c.if-replies-acts.false) c.in-Read.is c.loop-i.invariant.2
      (ap shows c.arc.ensures, refl),
)

pub under_trial-i-requires : goal.under_trial-i-requires
under_trial-i-requires c =
    let fits-arc : SFits w32 c.in-Open.arc = search rules in
    let fits-ticks : SFits w32 c.in-Open.ticks = search rules in
    record {
      room = c.loop-i.auto.replies ∙ c.if-replies-acts.false;
      within = c.loop-i-test.true;
      opens = get_or_default c.args.acts.now c.loop-i.i End _ c.loop-i-test.true ∙ c.in-Open.is
          ∙ sym (ap₂ Open (to_z-of_z w32 c.in-Open.arc fits-arc) (to_z-of_z w32 c.in-Open.ticks fits-ticks));
      nests = sym (left_at open_after c.args.acts.now c.loop-i.i _ _ false c.loop-i-test.true c.in-Open.is) ∙ c.loop-i.invariant.1;
      before = c.loop-i.invariant.2;
    }

pub unreachable-requires : goal.unreachable-requires
unreachable-requires c = both_ways _ (left_at open_after c.args.acts.now c.loop-i.i _ _ false c.loop-i-test.true c.in-End.is) c.loop-i.invariant.1

pub returns : goal.returns
returns c = runs_all Acts answer_of _ c.args.acts.now c.loop-i.replies c.loop-i.i _ (omega arith) (c.loop-i.auto.replies ∙ c.if-replies-acts.false) c.loop-i.invariant.2
