use Rattle.std.proofs.Common.{Err, ap, ◌∙◌}
use Rattle.std.proofs.lemmas.Result.{err_from_is_err_and}
use Rattle.paths.specs.Graphs.{arc_ticks}
use Rattle.timing.specs.Asking.{or_refused}
use Rattle.timing.proofs.Sums.{read_ticks}
use Rattle.timing.proofs.Asking.{one_stops}
use Rattle.timing.proofs.ask.ask_arc.Goals as goal

pub returns-in_err-ticks : goal.returns-in_err-ticks
returns-in_err-ticks g c =
    let p = err_from_is_err_and c.from_residual.result c.from_residual.ensures.1 in
    let b = c.in_err-ticks.ensures in
    let e = c.in-Some.arc in
    let means = g.S.Source.means c.args.source.now in
    let told = b.value ∙ ap (λ t. or_refused (arc_ticks c.args.number t (means c.args.number))) (read_ticks e.trim (c.requires.trim e c.in-Some.is)) in
    record {
      asked = one_stops c.args.number c.args.arc e means c.args.ticks.now c.args.ticks.now c.from_residual.result p.0 c.in-Some.is p.1 (ap Err p.2 ∙ told);
      same = b.same;
      level = b.level;
    }
