use Rattle.std.proofs.Common.{get_or, refl, subst}
use Rattle.std.proofs.lemmas.List.{get_or_default}
use Rattle.graph.specs.Block.{block_of}
use Rattle.ledger.specs.Ledger.{closed}
use Rattle.ledger.proofs.Histories.{runs_more}
use Rattle.sheet.specs.Lent.{tables_in}
use Rattle.history.specs.declared.steps.Step.TheVariants.{Time}
use Rattle.history.specs.Answers.{answer_of}
use Rattle.timing.specs.Terms.{terms_of}
use Rattle.history.specs.Steps.{Goes}
use Rattle.history.specs.Readings.{Reads}
use Rattle.history.proofs.Stepping.{answered_step}
use Rattle.history.proofs.running.read_first.Goals as goal

pub returns-clause-ran : goal.returns-clause-ran
returns-clause-ran g c =
    let m = g.M.Measure in
    let k = terms_of m (g.S.Source.means c.args.source.now) in
    let t = tables_in m.row c.args.tables.now in
    let t' = tables_in m.row c.read.new.tables in
    let steps = c.args.steps.now in
    let here = block_of c.args.graph.now in
    let told = subst (λ x. Reads k here x t c.args.list.now c.read.result t' c.read.new.list) (get_or_default steps 0 _ Time c.requires.some) c.read.ensures.reads in
    let reads = subst (λ r. Reads k here (get_or steps 0 Time) t c.args.list.now r t' c.read.new.list) c.unwrap.ensures told in
    let s = answered_step k (closed here) t c.args.list.now t' c.read.new.list (get_or steps 0 Time) c.unwrap.result reads in
    runs_more (Goes k) answer_of _ steps c.args.replies.now 0 Time (get_or steps 0 Time) _ c.unwrap.result _ c.requires.some c.requires.room refl refl s.goes
