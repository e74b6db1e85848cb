-- The delivered measures, and the rows of their values in the form that C shares.
use Rattle.std.specs.Prelude.{◌≡◌}
use Rattle.std.specs.declared.clone.Clone as clone
use Rattle.measure.specs.declared.measure.Measure.{Ghosts as Measure}
use Rattle.measure.specs.Rows.{Row}
use Rattle.measure.specs.contracts.ticks.Ticks as ticks_type
use Rattle.measure.specs.contracts.ticks.TicksMeasure.TheImpl as of_ticks
use Rattle.measure.specs.contracts.staged.StagedTicks as staged_type
use Rattle.measure.specs.contracts.staged.StagedTicksMeasure.TheImpl as of_staged
use Rattle.measure.specs.contracts.early.EarlyMeasure.TheImpl as of_early
use Rattle.measure.specs.declared.ticks.Ticks.{Ticks}
use Rattle.measure.specs.declared.staged.StagedTicks.{StagedTicks}
use Rattle.measure.specs.declared.early.Early.{Early}
use Rattle.held.specs.declared.early.EarlyTicks.{EarlyTicks}
use Rattle.held.specs.declared.early.EarlyStagedTicks.{EarlyStagedTicks}

abbrev pub ticks : Measure Ticks
ticks = of_ticks.ghosts

abbrev pub staged_ticks : Measure StagedTicks
staged_ticks = of_staged.ghosts

-- a copy of a value, which the early measures ask of the one below, is the value itself
abbrev pub copies : {M : Type 0} → clone.Ghosts M
copies = record { is_clone = λ x y. y ≡ x; is_infallible = λ _. Unit {0} }

abbrev pub early_ticks : Measure (Early Ticks)
early_ticks = of_early.ghosts ticks_type.the_row ticks of_ticks.dict copies of_ticks.dict

abbrev pub early_staged_ticks : Measure (Early StagedTicks)
early_staged_ticks = of_early.ghosts staged_type.the_row staged_ticks of_staged.dict copies of_staged.dict

abbrev pub early_row : EarlyTicks → Row 1
early_row x = ticks.row x.value

abbrev pub early_staged_row : EarlyStagedTicks → Row 2
early_staged_row x = staged_ticks.row x.value
