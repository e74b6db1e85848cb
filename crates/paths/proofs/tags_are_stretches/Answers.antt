use Rattle.paths.proofs.Stretches.{tags_are_stretches_lem}
use Rattle.paths.proofs.tags_are_stretches.Goals as goal

pub returns : goal.returns
returns g c = record { blocks = tags_are_stretches_lem; graphs = λ w not_later row_of_time row_of_arc laws content t means order s b h. tags_are_stretches_lem b }
