-- What a timing answers, and the tables that it leaves, for the block that a graph makes or what stops it.
use Rattle.std.specs.Prelude.{◌≡◌, ℕ, cond, List, length, Ok, Err, Result, nat_lt}
use Rattle.std.specs.Result.{result_map_both}
use Rattle.paths.specs.Rows.{Rows}
use Rattle.paths.specs.Blocks.{RowBlock}
use Rattle.paths.specs.Graphs.{Untimed, node_count}
use Rattle.paths.specs.Sheets as sheets
use Rattle.paths.specs.Sheets.{sheet, count_answer}
use Rattle.sheet.specs.Tables.{Tables, well_sized, blanked}
use Rattle.sheet.specs.Written.{written}
use Rattle.timing.specs.declared.refusals.TimeRefusal.{TimeRefusal}
use Rattle.timing.specs.declared.refusals.TimeRefusal.TheVariants.{WrongLength, TooFewLines}
use Rattle.timing.specs.Refusals.{Refused, refused_time, stopped}

-- the number of lines, or the refusal; and the tables after it
pub record TimeOutcome (R : Type 0) : Type 0 where
  pub answer : Result ℕ Refused
  pub tables : Tables R

module _ {R : Type 0} (m : Rows R) (t : Tables R) where
  -- a refused timing leaves blank tables
  abbrev pub untimed : TimeRefusal → TimeOutcome R
  untimed x = record { answer = Err (refused_time x); tables = blanked m.origin t }

  -- the sheet ts, refused exactly where the tables have fewer lines
  abbrev pub sheet_outcome : List (sheets.Timed R) → TimeOutcome R
  sheet_outcome ts = cond (nat_lt (length t.lines) (length ts)) (untimed TooFewLines) (record { answer = Ok (length ts); tables = written m (length t.lines) ts })

  abbrev pub block_outcome : Result (RowBlock R) Untimed → TimeOutcome R
  block_outcome (Err u) = untimed (stopped u)
  block_outcome (Ok b) = sheet_outcome (sheet m b node_count)

  abbrev pub time_outcome : Result (RowBlock R) Untimed → TimeOutcome R
  time_outcome block = cond (well_sized t) (block_outcome block) (untimed WrongLength)

  -- so a sheet is answered as is said of it by itself, without tables to write it in
  abbrev pub CountsSheets : Type 0
  CountsSheets = (ts : List (sheets.Timed R)) → result_map_both (λ n. n) (λ x. x.number) (sheet_outcome ts).answer ≡ count_answer (length t.lines) ts
