use Rattle.paths.specs.Theorems.{SheetIsSettled}
use Rattle.paths.proofs.Theorems.{settled}
use Rattle.paths.proofs.OnGraphs.{on_graphs}
use Rattle.paths.proofs.sheet_is_settled.Goals as goal

pub returns : goal.returns
returns c = record { blocks = settled; graphs = on_graphs SheetIsSettled settled }
