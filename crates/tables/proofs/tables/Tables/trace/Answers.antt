use Rattle.std.proofs.Common.{length, ap, ◌∙◌, w32, SFits, rules}
use Rattle.std.proofs.lemmas.Int.{to_z-of_z}
use Rattle.sheet.specs.Tables.{tables_of}
use Rattle.sheet.specs.Traces.{trace_outcome}
use Rattle.tables.proofs.Full.{lent_whole}
use Rattle.tables.proofs.tables.Tables.trace.Goals as goal

pub returns-clause-answer : goal.returns-clause-answer
returns-clause-answer g c =
    let lent = tables_of g.M.Measure.row c.as_slice.result.now c.as_slice-2.result.now c.as_slice-3.result.now c.as_slice-4.result.now c.as_slice-5.result.now in
    let whole = lent_whole g.M.Measure.row c.args.self.now _ _ _ _ _ c.as_slice.ensures.value c.as_slice-2.ensures.value c.as_slice-3.ensures.value c.as_slice-4.ensures.value c.as_slice-5.ensures.value in
    let fits : SFits w32 c.args.node = search rules in
    let places = length c.args.list.now in
    c.trace.ensures.answer ∙ ap (λ n. (trace_outcome lent n places).answer) (to_z-of_z w32 c.args.node fits) ∙ ap (λ t. (trace_outcome t c.args.node places).answer) whole

pub returns-clause-list : goal.returns-clause-list
returns-clause-list g c =
    let lent = tables_of g.M.Measure.row c.as_slice.result.now c.as_slice-2.result.now c.as_slice-3.result.now c.as_slice-4.result.now c.as_slice-5.result.now in
    let whole = lent_whole g.M.Measure.row c.args.self.now _ _ _ _ _ c.as_slice.ensures.value c.as_slice-2.ensures.value c.as_slice-3.ensures.value c.as_slice-4.ensures.value c.as_slice-5.ensures.value in
    let fits : SFits w32 c.args.node = search rules in
    let places = length c.args.list.now in
    c.trace.ensures.list ∙ ap (λ n. (trace_outcome lent n places).list) (to_z-of_z w32 c.args.node fits) ∙ ap (λ t. (trace_outcome t c.args.node places).list) whole
