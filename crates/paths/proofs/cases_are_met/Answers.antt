use Rattle.paths.proofs.Called.{cases_are_met_lem}
use Rattle.paths.proofs.cases_are_met.Goals as goal

pub returns : goal.returns
returns c = cases_are_met_lem
