use Rattle.ledger.proofs.Undoing.{all_undone}
use Rattle.ledger.proofs.laws.trials_leave_nothing.Goals as goal

pub returns : goal.returns
returns c = all_undone
