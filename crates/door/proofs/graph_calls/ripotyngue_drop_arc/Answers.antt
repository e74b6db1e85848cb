use Rattle.ledger.specs.declared.words.Act.TheVariants.{Make}
use Rattle.ledger.specs.declared.words.Call.TheVariants.{DropArc}
use Rattle.held.specs.Held.{held_in, Serves}
use Rattle.door.proofs.Numbers.{of_one}
use Rattle.door.proofs.graph_calls.ripotyngue_drop_arc.Goals as goal

pub returns : goal.returns
returns c =
    of_one (λ x. Serves (held_in c.args.held.now) (Make (DropArc x)) c.serve.result (held_in c.serve.new.held))
    c.args.arc c.ranges.arc c.serve.ensures
