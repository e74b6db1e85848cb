use Rattle.history.proofs.Working.{worked}
use Rattle.history.proofs.laws.promise_is_met.Goals as goal

pub returns : goal.returns
returns c = worked
