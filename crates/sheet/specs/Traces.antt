-- What a trace answers, and the list that it leaves, on any tables.
use Rattle.std.specs.Prelude.{ℕ, ◌-◌, cond, List, ◌++◌, length, replicate, ℤ, Some, None, Ok, Err, Option, Result, nat_le, slice_index_or, unsigned_abs, codes, decimal}
use Rattle.graph.specs.Ranges.{is_node}
use Rattle.paths.specs.Sheets.{no_arc}
use Rattle.sheet.specs.declared.line.Line.{Line}
use Rattle.sheet.specs.declared.node.NodeEntry.{NodeEntry}
use Rattle.sheet.specs.declared.refusals.TraceRefusal.{TraceRefusal}
use Rattle.sheet.specs.declared.refusals.TraceRefusal.TheVariants.{WrongLength, OutOfRange, BrokenLink, ShortList}
use Rattle.sheet.specs.Blanks.{blank_entry}
use Rattle.sheet.specs.Tables.{Tables, well_sized}
use Rattle.sheet.specs.Trails.{back_arcs, fore_arcs}

-- the number of each refusal: 14 a wrong length, 6 no node, 16 a link that cannot be followed, 17 a short list
abbrev pub refusal_number : TraceRefusal → ℕ
refusal_number WrongLength = 14
refusal_number OutOfRange = 6
refusal_number BrokenLink = 16
refusal_number ShortList = 17

-- the words of each, and what it is shown by
abbrev pub refusal_cause : TraceRefusal → List ℕ
refusal_cause WrongLength = codes "a table has the wrong length"
refusal_cause OutOfRange = codes "there is no such node"
refusal_cause BrokenLink = codes "a link of the sheet cannot be followed"
refusal_cause ShortList = codes "the list for the arcs is too short"

abbrev pub refusal_words : TraceRefusal → List ℕ
refusal_words r = codes "number " ++ decimal (refusal_number r) ++ codes ": " ++ refusal_cause r

-- the count of arcs, or nothing, or the number of a refusal; and the list after it
pub record TraceOutcome : Type 0 where
  pub answer : Result (Option ℕ) ℕ
  pub list : List ℕ

-- without a path, a list of size arcs is full of the mark for none
abbrev pub no_arcs : ℕ → List ℕ
no_arcs size = replicate size no_arc

abbrev pub untraced : ℕ → ℕ → TraceOutcome
untraced size number = record { answer = Err number; list = no_arcs size }

abbrev pub nothing_shown : ℕ → TraceOutcome
nothing_shown size = record { answer = Ok None; list = no_arcs size }

-- the path in a list of size arcs
abbrev pub shown : ℕ → List ℕ → TraceOutcome
shown size path = cond (nat_le (length path) size) (record { answer = Ok (Some (length path)); list = path ++ no_arcs (size - length path) }) (untraced size 17)

-- the arcs before the node's line, and those after it
abbrev pub joined_at : ℕ → Option (List ℕ) → Option (List ℕ) → TraceOutcome
joined_at size None after = untraced size 16
joined_at size (Some before) None = untraced size 16
joined_at size (Some before) (Some after) = shown size (before ++ after)

abbrev pub entry_traced : List Line → ℕ → NodeEntry → TraceOutcome
entry_traced lines size e = cond e.timed (joined_at size (back_arcs lines e.line) (fore_arcs lines e.line)) (nothing_shown size)

-- the trace of a node by its number, with a list of size arcs
abbrev pub trace_outcome : {R : Type 0} → Tables R → ℤ → ℕ → TraceOutcome
trace_outcome t node size =
    cond (well_sized t)
    (cond (is_node node) (entry_traced t.lines size (slice_index_or t.nodes (unsigned_abs node) blank_entry)) (untraced size 6))
    (untraced size 14)
