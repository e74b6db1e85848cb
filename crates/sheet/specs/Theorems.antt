-- What is proved of written sheets.
use Rattle.std.specs.Prelude.{◌≡◌, ℕ, ◌-◌, ◌<◌, ◌≤◌, List, ◌++◌, length, pos, Some, None, Ok, Option}
use Rattle.paths.specs.Sheets.{sheet}
use Rattle.paths.specs.Traces.{trace}
use Rattle.paths.specs.Theorems.{Claim}
use Rattle.sheet.specs.Written.{written}
use Rattle.sheet.specs.Traces.{TraceOutcome, no_arcs, nothing_shown, trace_outcome}

-- the path of a definition, if any, in a list of room arcs that is long enough
abbrev pub traced_outcome : ℕ → Option (List ℕ) → TraceOutcome
traced_outcome room None = nothing_shown room
traced_outcome room (Some ks) = record { answer = Ok (Some (length ks)); list = ks ++ no_arcs (room - length ks) }

-- the written sheet of a block is traced as its definition says, and a list of 255 arcs is long enough
abbrev pub SheetsAreTraced : Claim
SheetsAreTraced w m b n =
    (size : ℕ) → length (sheet m b n) ≤ size → size ≤ 4096 → (v : ℕ) → v < 256 → (room : ℕ) → 255 ≤ room
    → trace_outcome (written m size (sheet m b n)) (pos v) room ≡ traced_outcome room (trace m v (sheet m b n))
