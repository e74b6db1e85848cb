-- What the timer is used with.
use Rattle.std.specs.Prelude.{ℕ, Bool, ℤ}
use Rattle.measure.specs.declared.measure.Measure.{Ghosts as Measure}
use Rattle.measure.specs.Rows.{Row}
use Rattle.delay.specs.Entries.{Entry}
use Rattle.paths.specs.Rows.{Rows, rows}

-- a measure's rows, and what a delay source means
pub record Terms (R : Type 0) : Type 0 where
  pub rows : Rows R
  pub row_of_time : ℤ → R
  pub row_of_arc : ℤ → R
  pub means : ℕ → Entry

-- for the rows of one measure
abbrev pub terms : (w : ℕ) → (Row w → Row w → Bool) → (ℤ → Row w) → (ℤ → Row w) → (ℕ → Entry) → Terms (Row w)
terms w not_later row_of_time row_of_arc means = record { rows = rows w not_later; row_of_time = row_of_time; row_of_arc = row_of_arc; means = means }

-- by what a measure names of itself
abbrev pub terms_of : {M : Type 0} → (m : Measure M) → (ℕ → Entry) → Terms (Row m.width)
terms_of m means = terms m.width m.not_later m.row_of_time m.row_of_arc means
