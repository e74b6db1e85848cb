use Rattle.std.proofs.Common.{length, ap, ◌∙◌, w32, SFits, rules}
use Rattle.std.proofs.lemmas.Int.{to_z-of_z}
use Rattle.sheet.specs.Tables.{tables_of}
use Rattle.sheet.specs.Traces.{trace_outcome}
use Rattle.held.specs.Answers.{told_trace}
use Rattle.held.proofs.timed.trace.Goals as goal

pub returns : goal.returns
returns g c =
    let lent = tables_of g.M.Measure.row c.args.lines.now c.args.arrivals.now c.args.required.now c.args.nodes.now c.args.slacks.now in
    let fits : SFits w32 c.args.node = search rules in
    let places = length c.args.list.now in
    let same = to_z-of_z w32 c.args.node fits in
    record {
      answer = c.into.ensures ∙ ap told_trace (c.trace.ensures.answer ∙ ap (λ n. (trace_outcome lent n places).answer) same);
      shown = c.trace.ensures.list ∙ ap (λ n. (trace_outcome lent n places).list) same;
    }
