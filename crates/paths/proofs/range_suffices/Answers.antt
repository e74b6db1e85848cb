use Rattle.paths.specs.Theorems.{RangeSuffices}
use Rattle.paths.proofs.Theorems.{ranges}
use Rattle.paths.proofs.OnGraphs.{on_graphs}
use Rattle.paths.proofs.range_suffices.Goals as goal

pub returns : goal.returns
returns c = record { blocks = ranges; graphs = on_graphs RangeSuffices ranges }
