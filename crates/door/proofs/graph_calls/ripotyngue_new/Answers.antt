use Rattle.door.proofs.graph_calls.ripotyngue_new.Goals as goal

pub returns : goal.returns
returns c = c.make_graph.ensures
