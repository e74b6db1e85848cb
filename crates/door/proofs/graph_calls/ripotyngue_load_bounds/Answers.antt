use Rattle.door.proofs.graph_calls.ripotyngue_load_bounds.Goals as goal

pub returns : goal.returns
returns c = c.serve.ensures
