use Rattle.door.proofs.in_early_staged_ticks.ripotyngue_time_margin_early_staged_ticks.Goals as goal

pub returns : goal.returns
returns c = c.time_with_margin.ensures
