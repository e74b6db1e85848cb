use Rattle.ledger.specs.declared.words.Act.TheVariants.{Make}
use Rattle.ledger.specs.declared.words.Call.TheVariants.{Pair}
use Rattle.held.specs.Held.{held_in, Serves}
use Rattle.door.proofs.Numbers.{of_three}
use Rattle.door.proofs.graph_calls.ripotyngue_pair.Goals as goal

pub returns : goal.returns
returns c =
    of_three (λ x y z. Serves (held_in c.args.held.now) (Make (Pair x y z)) c.serve.result (held_in c.serve.new.held))
    c.args.set c.args.from c.args.to c.ranges.set c.ranges.from c.ranges.to c.serve.ensures
