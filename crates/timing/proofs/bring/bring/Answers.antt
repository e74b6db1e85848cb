use Rattle.std.proofs.Common.{sym}
use Rattle.timing.proofs.Tabled.{crossing_near}
use Rattle.timing.proofs.bring.bring.Goals as goal

pub cross-requires-clause-bounded : goal.cross-requires-clause-bounded
cross-requires-clause-bounded g c = crossing_near g.M.Measure c.args.block.now g.met.M.Measure.laws c.args.number c.in-Some.arc (sym c.in-Some.ensures) c.crossing-crossing.result c.crossing-crossing.ensures
