use Rattle.std.proofs.Common.{length, Some, sym, refl, ap, ◌∙◌, subst, w32, SFits, ap₂, rules}
use Rattle.std.proofs.lemmas.Int.{to_z-of_z}
use Rattle.graph.specs.Block.{block_of}
use Rattle.sheet.specs.Lent.{tables_in}
use Rattle.sheet.specs.Traces.{trace_outcome}
use Rattle.history.specs.declared.steps.StepReply.TheVariants.{Trace}
use Rattle.history.specs.Answers.{traced}
use Rattle.timing.specs.Terms.{terms_of}
use Rattle.history.specs.Readings.{Reads}
use Rattle.history.proofs.reading.read.Goals as goal

pub returns-in-Trace-clause-reads : goal.returns-in-Trace-clause-reads
returns-in-Trace-clause-reads g c =
    let m = g.M.Measure in
    let k = terms_of m (g.S.Source.means c.args.source.now) in
    let t = tables_in m.row c.args.tables.now in
    let list = c.args.list.now in
    let fits : SFits w32 c.in-Trace.node = search rules in
    let same = to_z-of_z w32 c.in-Trace.node fits in
    subst (λ x. Reads k (block_of c.args.graph.now) x t list (Some (Trace c.trace.result)) t c.trace.new.list) (sym c.in-Trace.is) (record {
      reply = Trace c.trace.result;
      reply_is = refl;
      answer_is = ap traced (c.trace.ensures.answer ∙ ap₂ (λ u n. (trace_outcome u n (length list)).answer) c.shared.ensures same);
      tables_are = refl;
      list_is = c.trace.ensures.list ∙ ap₂ (λ u n. (trace_outcome u n (length list)).list) c.shared.ensures same;
    })
