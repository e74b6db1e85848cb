-- What holds of all sound blocks holds of the blocks that graphs make.
use Rattle.std.proofs.Common.{sym, subst}
use Rattle.paths.specs.Rows.{rows}
use Rattle.paths.specs.Graphs.{arcs_in_ticks, block_in_ticks, in_ticks, in_rows}
use Rattle.paths.specs.Theorems.{Claim, OfBlocks, OfGraphs, AtGraphs, GraphsAreSound, BlocksMirror, LowestStops}
use Rattle.paths.proofs.InRows.{sound_in_rows}
use Rattle.paths.proofs.Making.{mapped_ok, mapped_err, sound_in_ticks, stops}
use Rattle.paths.proofs.Walking.{mirrors}

pub graphs_are_sound : OfGraphs GraphsAreSound
graphs_are_sound w not_later row_of_time row_of_arc laws g t means order s b h =
    let x = mapped_ok (in_rows row_of_time row_of_arc) (in_ticks order g means) b h in
    subst (λ z. GraphsAreSound w (rows w not_later) z 256) (sym x.2) (sound_in_rows w not_later row_of_time row_of_arc laws x.0 256 (sound_in_ticks order g means x.0 x.1 t s))

pub on_graphs : (Says : Claim) → OfBlocks Says → OfGraphs Says
on_graphs Says proof w not_later row_of_time row_of_arc laws g t means order s b h =
    proof w not_later laws.order b 256 (graphs_are_sound w not_later row_of_time row_of_arc laws g t means order s b h)

pub blocks_mirror : AtGraphs BlocksMirror
blocks_mirror w not_later row_of_time row_of_arc laws g t means order s b h =
    let x = mapped_ok (in_rows row_of_time row_of_arc) (in_ticks order g means) b h in
    subst (λ z. BlocksMirror w (rows w not_later) order row_of_time row_of_arc g means z) (sym x.2) (mirrors order row_of_time row_of_arc g means x.0 x.1 t s)

pub lowest_stops : LowestStops
lowest_stops w row_of_time row_of_arc g means order x h =
    stops order means x g
    (mapped_err (block_in_ticks order g) (arcs_in_ticks order means 0 g.arcs) x (mapped_err (in_rows row_of_time row_of_arc) (in_ticks order g means) x h))
