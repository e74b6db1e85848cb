use Rattle.std.proofs.Common.{Ok, Err, sym, refl, ap, ◌∙◌, subst}
use Rattle.std.proofs.lemmas.Result.{err_from_is_err_and}
use Rattle.reader.specs.declared.records.Kind.TheVariants.{Delays}
use Rattle.reader.specs.Format.{scanned}
use Rattle.reader.specs.Loading.{Leaves, loaded}
use Rattle.delay.specs.DelayFiles.{length_answer, take_line, Loads}
use Rattle.delay.proofs.Standing.{loads_by, loads_stand}
use Rattle.delay.proofs.loading.load_delays.Goals as goal

pub returns-in_err-copy : goal.returns-in_err-copy
returns-in_err-copy c =
    let bytes = c.args.bytes.now in
    let s = c.args.table.now in
    let p = err_from_is_err_and c.from_residual.result c.from_residual.ensures.1 in
    let all : Loads bytes s c.from_residual.result s = loads_by bytes s s _ _ (sym c.in_err-copy.ensures) (p.1 ∙ ap Err p.2, refl) in
    record { loads = all; stands = loads_stand bytes s s _ all }

pub returns : goal.returns
returns c =
    let bytes = c.args.bytes.now in
    let s = c.args.table.now in
    let f = scanned Delays bytes in
    let r = c.load-done.result in
    let began = subst (λ x. Leaves (loaded take_line f x) x r c.load-done.new.sink.rows) c.in_ok-copy.ensures.1 c.load-done.ensures in
    let ended = subst (λ t. Leaves (loaded take_line f s) s r t) (sym c.copy_from_slice.ensures.after) began in
    let all : Loads bytes s r c.copy_from_slice.new.self = loads_by bytes s _ r (Ok tt) (ap length_answer (sym c.in_ok-copy.ensures.0)) ended in
    record { loads = all; stands = loads_stand bytes s _ r all }
