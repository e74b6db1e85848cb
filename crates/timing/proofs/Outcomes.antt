-- The outcome of a timing, case by case.
use Rattle.std.proofs.Common.{◌≡◌, true, false, cond, Result, ap}
use Rattle.paths.specs.Rows.{Rows}
use Rattle.paths.specs.Blocks.{RowBlock}
use Rattle.paths.specs.Graphs.{Untimed}
use Rattle.sheet.specs.Tables.{Tables, well_sized}
use Rattle.timing.specs.declared.refusals.TimeRefusal.TheVariants.{WrongLength}
use Rattle.timing.specs.Times.{untimed, block_outcome, time_outcome}

module _ {R : Type 0} (m : Rows R) (t : Tables R) where
  pub wrong_length : (block : Result (RowBlock R) Untimed) → well_sized t ≡ false → time_outcome m t block ≡ untimed m t WrongLength
  wrong_length block e = ap (λ w. cond w (block_outcome m t block) (untimed m t WrongLength)) e

  pub right_length : (block : Result (RowBlock R) Untimed) → well_sized t ≡ true → time_outcome m t block ≡ block_outcome m t block
  right_length block e = ap (λ w. cond w (block_outcome m t block) (untimed m t WrongLength)) e
