-- Tables of the right lengths that a timing has filled, or why it has not.
use Rattle.std.specs.Prelude.{◌≡◌, ℕ, ◌<◌, ◌≤◌, length, Ok, Err, Result, MatchResult}
use Rattle.paths.specs.Rows.{Rows}
use Rattle.paths.specs.Blocks.{RowBlock}
use Rattle.paths.specs.Graphs.{Untimed}
use Rattle.paths.specs.Sheets.{sheet}
use Rattle.sheet.specs.Tables.{Tables}
use Rattle.sheet.specs.Written.{written}
use Rattle.timing.specs.declared.refusals.TimeRefusal.{TimeRefusal}
use Rattle.timing.specs.declared.refusals.TimeRefusal.TheVariants.{TooFewLines}
use Rattle.timing.specs.Refusals.{stopped}

-- the tables have size lines; after the timing they are t
abbrev pub FilledFor : {R : Type 0} → Rows R → ℕ → Tables R → Result (RowBlock R) Untimed → Result ℕ TimeRefusal → Type 0
FilledFor m size t (Err u) r = r ≡ Err (stopped u)
FilledFor m size t (Ok b) r =
    MatchResult r (λ n. (n ≡ length (sheet m b 256)) × (n ≤ size) × (t ≡ written m size (sheet m b 256))) (λ x. (x ≡ TooFewLines) × (size < length (sheet m b 256)))
