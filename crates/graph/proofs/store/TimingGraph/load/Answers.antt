use Rattle.std.proofs.Common.{◌≡◌, Err, sym, ap, ◌∙◌, subst}
use Rattle.std.proofs.lemmas.Result.{err_from_is_err_and}
use Rattle.reader.specs.declared.records.Kind.{Kind}
use Rattle.reader.specs.Format.{scanned}
use Rattle.reader.specs.Loading.{Answers, loaded, reached}
use Rattle.graph.specs.Block.{block_of}
use Rattle.graph.specs.Computed.{line_step}
use Rattle.graph.specs.Lines.{kind_of, Loads}
use Rattle.graph.proofs.Replayed.{loads_ok, loads_err, kept_of}
use Rattle.graph.proofs.store.TimingGraph.load.Goals as goal

pub returns-in_err-run : goal.returns-in_err-run
returns-in_err-run c =
    let b = block_of c.args.self.now in
    let file = λ (k : Kind). scanned k c.args.bytes.now in
    let a = subst (λ k. Answers (loaded line_step (file k) b) (reached line_step (file k).records b) c.run.result (block_of c.run.new.sink.graph)) c.into.ensures
    (subst (λ x. Answers (loaded line_step (file c.into.result) x) (reached line_step (file c.into.result).records x) c.run.result (block_of c.run.new.sink.graph)) c.on-loading.ensures c.run.ensures) in
    let p = err_from_is_err_and c.from_residual.result c.from_residual.ensures.1 in
    let refusal : c.from_residual.result ≡ Err c.in_err-run.field-0.0 = p.1 ∙ ap Err p.2 in
    subst (λ r. Loads b (file (kind_of c.args.file)) r b) (sym refusal)
    (loads_err b (file (kind_of c.args.file)) _ c.run.result _ (kept_of c.args.self.now) c.in_err-run.was _ a)

pub returns : goal.returns
returns c =
    let b = block_of c.args.self.now in
    let file = λ (k : Kind). scanned k c.args.bytes.now in
    let a = subst (λ k. Answers (loaded line_step (file k) b) (reached line_step (file k).records b) c.run.result (block_of c.run.new.sink.graph)) c.into.ensures
    (subst (λ x. Answers (loaded line_step (file c.into.result) x) (reached line_step (file c.into.result).records x) c.run.result (block_of c.run.new.sink.graph)) c.on-loading.ensures c.run.ensures) in
    loads_ok b (file (kind_of c.args.file)) _ c.run.result (kept_of c.args.self.now) c.in_ok-run.was _ a
