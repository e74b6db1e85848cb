use Rattle.std.proofs.Common.{arith}
use Rattle.std.proofs.lemmas.Grind.{common_steps}
use Rattle.tables.proofs.Full.{map-replicate}
use Rattle.tables.proofs.tables.Tables.filled.Goals as goal

pub returns : goal.returns
returns g c = grind (arith, common_steps, map-replicate)
