-- The rows of a measure.
use Rattle.measure.specs.declared.measure.Measure.{Ghosts as Measure}
use Rattle.measure.specs.Rows.{Row}
use Rattle.paths.specs.Rows.{Rows, rows}

-- its rows, with what is computed on them
abbrev pub measured : {M : Type 0} (m : Measure M) → Rows (Row m.width)
measured m = rows m.width m.not_later
