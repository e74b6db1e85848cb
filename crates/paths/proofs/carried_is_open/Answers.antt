use Rattle.paths.proofs.Stretches.{carried_is_open_lem}
use Rattle.paths.proofs.carried_is_open.Goals as goal

pub returns : goal.returns
returns g c = record { blocks = carried_is_open_lem; graphs = λ w not_later row_of_time row_of_arc laws content t means order s b h. carried_is_open_lem b }
