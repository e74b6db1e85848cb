use Rattle.timing.specs.Measured.{measured}
use Rattle.timing.specs.TimedBlock.{brings}
use Rattle.timing.specs.Lines.{Stands}
use Rattle.timing.proofs.Bringing.{joining}
use Rattle.timing.proofs.bring.bring_all.Given as goal

abbrev pub invariant-loop-number : goal.invariant-loop-number
invariant-loop-number g l =
    let m = g.M.Measure in
    let ms = measured m in
    let F = brings m l.block l.firsts in
    Stands m.row l.base l.initial.lines l.initial.times (joining m.row ms F l.number-index l.numbers l.base l.initial.count l.initial.lines l.initial.times) l.lines l.times l.count
