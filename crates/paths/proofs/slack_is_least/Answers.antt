use Rattle.paths.specs.Theorems.{SlackIsLeast}
use Rattle.paths.proofs.Theorems.{least}
use Rattle.paths.proofs.OnGraphs.{on_graphs}
use Rattle.paths.proofs.slack_is_least.Goals as goal

pub returns : goal.returns
returns c = record { blocks = least; graphs = on_graphs SlackIsLeast least }
