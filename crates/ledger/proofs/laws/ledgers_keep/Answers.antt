use Rattle.ledger.proofs.Undoing.{all_keep}
use Rattle.ledger.proofs.laws.ledgers_keep.Goals as goal

pub returns : goal.returns
returns c = all_keep
