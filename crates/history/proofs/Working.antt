-- The worked history is a run, and its timing is accepted.
use Rattle.std.proofs.Common.{ℕ, List, [], ◌∷◌, map, pos, Some, None, Ok, refl, lit≤}
use Rattle.measure.specs.Rows.{Row}
use Rattle.graph.specs.Block.{Block, Kept, blank}
use Rattle.graph.specs.Computed.{lies_between}
use Rattle.graph.proofs.Keeping.{kept_blank}
use Rattle.ledger.specs.declared.words.Call.{Call}
use Rattle.ledger.specs.declared.words.Act.TheVariants.{Make}
use Rattle.ledger.specs.Ledger.{closed}
use Rattle.ledger.proofs.Histories.{runs_append}
use Rattle.ledger.proofs.Undoing.{kept_acts}
use Rattle.std.specs.Result.{result_unwrap_or}
use Rattle.paths.specs.Graphs.{by_node, row_block, node_count}
use Rattle.paths.specs.Rows.{rows}
use Rattle.paths.specs.Sheets.{sheet}
use Rattle.paths.specs.Theorems.{Settled}
use Rattle.paths.specs.Blocks.{RowBlock, begin_sets, end_sets, pass, passes}
use Rattle.paths.specs.Calls.{called}
use Rattle.paths.specs.Cases.{in_ticks, not_after, time_row, arc_row}
use Rattle.paths.proofs.Called.{call_acts, laws_in}
use Rattle.sheet.specs.Tables.{Tables}
use Rattle.sheet.specs.Traces.{no_arcs}
use Rattle.sheet.specs.Written.{by_nodes}
use Rattle.history.specs.declared.steps.Step.TheVariants as step
use Rattle.history.specs.Answers.{Answer, acted, timed, traced}
use Rattle.timing.specs.Terms.{Terms}
use Rattle.timing.specs.Agreement.{TimingAgrees}
use Rattle.timing.proofs.Agreeing.{timing_agrees, settled}
use Rattle.history.specs.Steps.{State, new, timing_of, Goes, Runs}
use Rattle.history.specs.Worked.{worked_calls, worked_terms, worked_tables, WorkedHistory}

-- ---- calls as steps
abbrev answered : Block → List Call → List Answer
answered g [] = []
answered g (c ∷ cs) = acted (called g c).answer ∷ answered (called g c).after cs

abbrev left_by : Block → List Call → Block
left_by g [] = g
left_by g (c ∷ cs) = left_by (called g c).after cs

keeps : (g : Block) → Kept g → (c : Call) → Kept (called g c).after
keeps g k c = kept_acts (closed g) (Make c) (called g c).answer (closed (called g c).after) k (call_acts g k c)

kept_left : (cs : List Call) (g : Block) → Kept g → Kept (left_by g cs)
kept_left [] g k = k
kept_left (c ∷ cs) g k = kept_left cs (called g c).after (keeps g k c)

module _ {R : Type 0} (k : Terms R) (t : Tables R) (list : List ℕ) where
  abbrev at : Block → State R
  at g = record { ledger = closed g; tables = t; list = list }

  calls_run : (cs : List Call) (g : Block) → Kept g → Runs k (at g) (map (λ c. step.Act (Make c)) cs) (answered g cs) (at (left_by g cs))
  calls_run [] g kept = refl
  calls_run (c ∷ cs) g kept = (at (called g c).after, ((called g c).answer, refl, call_acts g kept c, refl, refl), calls_run cs (called g c).after (keeps g kept c))

-- ---- the worked one
-- the graph after the calls, and the tables after the timing
abbrev content : Block
content = left_by blank worked_calls

abbrev timed_tables : Tables (Row 1)
timed_tables = (timing_of worked_terms content worked_tables).tables

abbrev timed_state : State (Row 1)
timed_state = record { ledger = closed content; tables = timed_tables; list = no_arcs 255 }

abbrev traced_state : State (Row 1)
traced_state = record { ledger = closed content; tables = timed_tables; list = 2 ∷ no_arcs 254 }

calls_first : Runs worked_terms (new worked_tables (no_arcs 255)) (map (λ c. step.Act (Make c)) worked_calls) (answered blank worked_calls) (at worked_terms worked_tables (no_arcs 255) content)
calls_first = calls_run worked_terms worked_tables (no_arcs 255) worked_calls blank kept_blank

agrees : TimingAgrees worked_terms content worked_tables (timing_of worked_terms content worked_tables).answer timed_tables
agrees = timing_agrees 1 (not_after in_ticks) (time_row in_ticks) (arc_row in_ticks) (laws_in in_ticks) worked_terms.means content (kept_left worked_calls blank kept_blank) worked_tables _ _ refl refl

pub worked : WorkedHistory
unfolding begin_sets end_sets pass passes blank lies_between by_nodes
worked = record {
  content = content;
  block = block;
  lines = sheet (rows 1 (not_after in_ticks)) block node_count;
  tables = timed_tables;
  ran =
      runs_append (Goes worked_terms) (new worked_tables (no_arcs 255)) (map (λ c. step.Act (Make c)) worked_calls) (answered blank worked_calls) (at worked_terms worked_tables (no_arcs 255) content)
      (step.Time ∷ step.Trace (pos 2) ∷ []) (timed (Ok 2) ∷ traced (Ok (Some 1)) ∷ []) traced_state calls_first (timed_state, (refl, refl), (traced_state, (refl, refl), refl));
  mirrored = agrees.has_lines block refl;
  accepted = agrees.accepted refl _ refl _ is_sheet.sheet_is (lit≤ tt);
  entry_of_2 = refl;
  slack_of_2 = refl;
  entry_of_1 = refl;
}
  where
    bare : RowBlock (Row 1)
    bare = record { arcs = []; start = λ _. None; end = λ _. None }

    block : RowBlock (Row 1)
    block = result_unwrap_or (row_block by_node (time_row in_ticks) (arc_row in_ticks) content worked_terms.means) bare

    is_sheet : Settled (rows 1 (not_after in_ticks)) block node_count
    is_sheet =
        settled 1 (not_after in_ticks) (time_row in_ticks) (arc_row in_ticks) (laws_in in_ticks) worked_terms.means content (kept_left worked_calls blank kept_blank) block refl
