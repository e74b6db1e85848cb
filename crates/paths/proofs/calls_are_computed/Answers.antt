use Rattle.paths.proofs.Called.{calls_are_computed_lem}
use Rattle.paths.proofs.calls_are_computed.Goals as goal

pub returns : goal.returns
returns c = calls_are_computed_lem
