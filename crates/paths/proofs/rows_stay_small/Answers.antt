use Rattle.paths.specs.Theorems.{RowsStaySmall}
use Rattle.paths.proofs.Theorems.{small}
use Rattle.paths.proofs.OnGraphs.{on_graphs}
use Rattle.paths.proofs.rows_stay_small.Goals as goal

pub returns : goal.returns
returns c = record { blocks = small; graphs = on_graphs RowsStaySmall small }
