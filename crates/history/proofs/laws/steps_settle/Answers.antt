use Rattle.history.proofs.Settling.{all_settle}
use Rattle.history.proofs.laws.steps_settle.Goals as goal

pub returns : goal.returns
returns c = all_settle
