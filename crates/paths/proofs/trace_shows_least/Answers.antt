use Rattle.paths.specs.Theorems.{TraceShowsLeast}
use Rattle.paths.proofs.Theorems.{traced}
use Rattle.paths.proofs.OnGraphs.{on_graphs}
use Rattle.paths.proofs.trace_shows_least.Goals as goal

pub returns : goal.returns
returns c = record { blocks = traced; graphs = on_graphs TraceShowsLeast traced }
