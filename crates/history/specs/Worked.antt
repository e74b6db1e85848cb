-- A history that meets all that the promise asks: a block of three nodes with a false set, timed and traced in ticks.
use Rattle.std.specs.Prelude.{◌≡◌, true, List, [], ◌∷◌, ◌++◌, map, replicate, pos, Some, Ok, slice_index_or}
use Rattle.measure.specs.Rows.{Row, zeros}
use Rattle.graph.specs.Block.{Block}
use Rattle.ledger.specs.declared.words.Call.{Call}
use Rattle.ledger.specs.declared.words.Call.TheVariants.{AddArc, SetStart, SetEnd, Pair}
use Rattle.ledger.specs.declared.words.Act.TheVariants.{Make}
use Rattle.ledger.specs.Answers.{done, taken}
use Rattle.paths.specs.Blocks.{RowBlock}
use Rattle.paths.specs.Sheets.{Timed}
use Rattle.paths.specs.Cases.{in_ticks, not_after, time_row, arc_row, delays}
use Rattle.sheet.specs.Blanks.{blank_line, blank_entry}
use Rattle.sheet.specs.Tables.{Tables}
use Rattle.sheet.specs.Traces.{no_arcs}
use Rattle.history.specs.declared.steps.Step.{Step}
use Rattle.history.specs.declared.steps.Step.TheVariants as step
use Rattle.history.specs.Answers.{Answer, acted, timed, traced}
use Rattle.timing.specs.Terms.{Terms, terms}
use Rattle.timing.specs.Agreement.{LinesOf, Accepted}
use Rattle.history.specs.Steps.{at_rest, new, Runs}

-- two ways from node 0 to node 2: over node 1 in 20 ticks, and straight in 15. Set 0 holds arc 0 alone, so that the slower way is false.
abbrev pub worked_calls : List Call
worked_calls =
    AddArc (pos 0) (pos 1) ∷ AddArc (pos 1) (pos 2) ∷ AddArc (pos 0) (pos 2) ∷ SetStart (pos 0) (pos 7) ∷ SetEnd (pos 2) (pos 30)
    ∷ Pair (pos 0) (pos 0) (pos 1) ∷ []

abbrev pub worked_steps : List Step
worked_steps = map (λ c. step.Act (Make c)) worked_calls ++ (step.Time ∷ step.Trace (pos 2) ∷ [])

-- every call is accepted, the timing has two lines, and the trace one arc
abbrev pub worked_answers : List Answer
worked_answers =
    acted (taken 0) ∷ acted (taken 1) ∷ acted (taken 2) ∷ acted done ∷ acted done ∷ acted done ∷ timed (Ok 2) ∷ traced (Ok (Some 1)) ∷ []

-- ticks, and an annotated table with 10, 10 and 15
abbrev pub worked_terms : Terms (Row 1)
worked_terms = terms 1 (not_after in_ticks) (time_row in_ticks) (arc_row in_ticks) (delays (pos 10 ∷ pos 10 ∷ pos 15 ∷ []))

-- blank tables of 16 lines
abbrev pub worked_tables : Tables (Row 1)
worked_tables = record {
  lines = replicate 16 blank_line;
  arrivals = replicate 16 (zeros 1);
  required = replicate 16 (zeros 1);
  nodes = replicate 256 blank_entry;
  slacks = replicate 256 (zeros 1);
}

-- the run, and its accepted timing as the promise has it: node 2 has slack 8, which the path over arc 2 shows, and node 1 has none
pub record WorkedHistory : Type 0 where
  pub content : Block
  pub block : RowBlock (Row 1)
  pub lines : List (Timed (Row 1))
  pub tables : Tables (Row 1)
  pub ran : Runs worked_terms (new worked_tables (no_arcs 255)) worked_steps worked_answers (at_rest content tables (2 ∷ no_arcs 254))
  pub mirrored : LinesOf worked_terms content block
  pub accepted : Accepted worked_terms content worked_tables (Ok 2) tables block lines
  pub entry_of_2 : slice_index_or tables.nodes 2 blank_entry ≡ record { timed = true; line = 1 }
  pub slack_of_2 : slice_index_or tables.slacks 2 (zeros 1) ≡ (pos 8, tt)
  pub entry_of_1 : slice_index_or tables.nodes 1 blank_entry ≡ blank_entry
