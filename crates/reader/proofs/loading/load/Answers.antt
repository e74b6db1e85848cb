use Rattle.std.proofs.Common.{Err, sym, ap, ◌∙◌, subst}
use Rattle.std.proofs.lemmas.Result.{err_from_is_err_and}
use Rattle.reader.specs.Format.{scanned}
use Rattle.reader.specs.Loading.{Leaves, loaded}
use Rattle.reader.proofs.Loads.{kept_copy, dropped_copy}
use Rattle.reader.proofs.loading.load.Goals as goal

pub returns-in_err-run : goal.returns-in_err-run
returns-in_err-run g c =
    let p = err_from_is_err_and c.from_residual.result c.from_residual.ensures.1 in
    let model = loaded g.S.Sink.step (scanned c.args.kind c.args.bytes.now) (g.S.Sink.holds c.args.sink.now) in
    let held = g.S.Sink.holds c.args.sink.now in
    subst (λ r. Leaves model held r held) (sym (p.1 ∙ ap (λ e. Err e) p.2)) (dropped_copy model _ held _ _ c.in_err-run.ensures)

pub returns : goal.returns
returns g c = kept_copy _ _ _ _ _ c.in_ok-run.ensures
