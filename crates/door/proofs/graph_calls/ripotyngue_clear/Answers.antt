use Rattle.ledger.specs.declared.words.Act.TheVariants.{Make}
use Rattle.ledger.specs.declared.words.Call.TheVariants.{Clear}
use Rattle.held.specs.Held.{held_in, Serves}
use Rattle.door.proofs.Numbers.{of_one}
use Rattle.door.proofs.graph_calls.ripotyngue_clear.Goals as goal

pub returns : goal.returns
returns c =
    of_one (λ x. Serves (held_in c.args.held.now) (Make (Clear x)) c.serve.result (held_in c.serve.new.held))
    c.args.set c.ranges.set c.serve.ensures
