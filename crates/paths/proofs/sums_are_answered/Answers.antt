use Rattle.paths.specs.Theorems.{SumsAreAnswered}
use Rattle.paths.proofs.Theorems.{answered}
use Rattle.paths.proofs.OnGraphs.{on_graphs}
use Rattle.paths.proofs.sums_are_answered.Goals as goal

pub returns : goal.returns
returns c = record { blocks = answered; graphs = on_graphs SumsAreAnswered answered }
