-- What a timing and a person with the list of all open complete paths agree on.
use Rattle.std.specs.Prelude.{◌≡◌, ℕ, ◌-◌, ◌<◌, ◌≤◌, true, false, List, ◌++◌, length, get_or, pos, Some, Ok, Err, Result, slice_index_or}
use Rattle.graph.specs.Block.{Block}
use Rattle.paths.specs.Rows.{Rows, Before}
use Rattle.paths.specs.Blocks.{RowBlock}
use Rattle.paths.specs.Paths.{numbers, Through, slack}
use Rattle.paths.specs.Graphs.{Untimed, by_node, row_block, node_count, Mirrors, Stops}
use Rattle.paths.specs.Sheets.{Timed, node_slack}
use Rattle.paths.specs.Relations.{IsSheet, IsEntry}
use Rattle.sheet.specs.Blanks.{blank_entry}
use Rattle.sheet.specs.Tables.{Tables, well_sized, blanked}
use Rattle.sheet.specs.Written.{written}
use Rattle.sheet.specs.Traces.{no_arcs, trace_outcome}
use Rattle.timing.specs.declared.refusals.TimeRefusal.{TimeRefusal}
use Rattle.timing.specs.declared.refusals.TimeRefusal.TheVariants.{WrongLength, TooFewLines}
use Rattle.timing.specs.Refusals.{Refused, refused_time, stopped}
use Rattle.timing.specs.Terms.{Terms}

-- ---- one node
module _ {R : Type 0} (m : Rows R) (b : RowBlock R) (t : Tables R) (v : ℕ) where
  -- the path p has the slack that the table shows, and is the one that a trace shows, whatever list of 255 arcs or more it is given
  pub record Shown (p : Through b v) : Type 0 where
    pub slack_is : slack m p ≡ slice_index_or t.slacks v m.origin
    pub traced_as : (room : ℕ) → 255 ≤ room
        → trace_outcome t (pos v) room
        ≡ record { answer = Ok (Some (length (numbers (p.before ++ p.after)))); list = numbers (p.before ++ p.after) ++ no_arcs (room - length (numbers (p.before ++ p.after))) }

  -- the table shows a slack exactly when some open complete path runs through the node; one with exactly that slack is traced, and every other has at least as much
  pub record NodeAgrees : Type 0 where
    pub none : (get_or t.nodes v blank_entry).timed ≡ false → Through b v → ⊥
    pub some : (get_or t.nodes v blank_entry).timed ≡ true → (p : Through b v) × Shown p
    pub least : (get_or t.nodes v blank_entry).timed ≡ true → (p : Through b v) → Before m (slice_index_or t.slacks v m.origin) (slack m p)

-- ---- the block of a graph's content g
module _ {R : Type 0} (k : Terms R) (g : Block) where
  -- the block b has exactly the graph's live arcs, their ticks and sets, starts, ends and paths; its sheet has lines, of which there is one list
  pub record LinesOf (b : RowBlock R) : Type 0 where
    pub mirrors : Mirrors by_node k.row_of_time k.row_of_arc g k.means b
    pub lines : List (Timed R)
    pub are_lines : IsSheet k.rows b node_count lines
    pub no_others : (others : List (Timed R)) → IsSheet k.rows b node_count others → others ≡ lines

-- ---- one timing: of the graph's content g, with the tables t before it, the answer a, and the tables t' after it
module _ {R : Type 0} (k : Terms R) (g : Block) (t : Tables R) (a : Result ℕ Refused) (t' : Tables R) where
  -- a refused timing, and every table is blank
  pub record RefusedBy (x : TimeRefusal) : Type 0 where
    pub answer_is : a ≡ Err (refused_time x)
    pub blank_tables : t' ≡ blanked k.rows.origin t

  -- an accepted timing of the block b, whose sheet has the lines ts
  pub record Accepted (b : RowBlock R) (ts : List (Timed R)) : Type 0 where
    pub are_entries : (v : ℕ) → v < node_count → IsEntry k.rows b ts v (node_slack k.rows v ts)
    pub answer_is : a ≡ Ok (length ts)
    pub tables_are : t' ≡ written k.rows (length t.lines) ts
    pub agree : (v : ℕ) → v < node_count → NodeAgrees k.rows b t' v

  pub record TimingAgrees : Type 0 where
    pub wrong_length : well_sized t ≡ false → RefusedBy WrongLength
    pub without_ticks : well_sized t ≡ true → (x : Untimed) → row_block by_node k.row_of_time k.row_of_arc g k.means ≡ Err x → Stops g k.means x × RefusedBy (stopped x)
    pub has_lines : (b : RowBlock R) → row_block by_node k.row_of_time k.row_of_arc g k.means ≡ Ok b → LinesOf k g b
    pub few_lines : well_sized t ≡ true → (b : RowBlock R) → row_block by_node k.row_of_time k.row_of_arc g k.means ≡ Ok b
        → (ts : List (Timed R)) → IsSheet k.rows b node_count ts → length t.lines < length ts → RefusedBy TooFewLines
    pub accepted : well_sized t ≡ true → (b : RowBlock R) → row_block by_node k.row_of_time k.row_of_arc g k.means ≡ Ok b
        → (ts : List (Timed R)) → IsSheet k.rows b node_count ts → length ts ≤ length t.lines → Accepted b ts
