-- The written sheet of a block is traced as its definition says.
use Rattle.std.proofs.Common.{◌≡◌, ℕ, ◌+◌, ◌-◌, ◌<◌, ◌≤◌, Bool, true, cond, eqb, leb, List, [], ◌∷◌, ◌++◌, map, length, get_or, replicate, ℤ, nat_abs, pos, Some, None, Option, sym, refl, ap, ◌∙◌, subst, ap₂, append-nil, arith}
use Rattle.std.specs.List.{range_with_len}
use Rattle.std.proofs.lemmas.List.{length-append, length-map, length-replicate}
use Rattle.std.proofs.lemmas.List.FromFn.{length-range_with_len, get_or-map-range_with_len}
use Rattle.std.proofs.lemmas.Int.{ints}
use Rattle.std.proofs.lemmas.Bool.{le-leb, eq-eqb, and_from, cond-true}
use Rattle.graph.specs.Ranges.{is_node}
use Rattle.paths.specs.Rows.{Rows, rows}
use Rattle.paths.specs.Blocks.{Arc, RowBlock, Live, Rising}
use Rattle.paths.specs.Paths.{Leads}
use Rattle.paths.specs.Sheets.{Told, Timed, node_slack, row_of, sheet}
use Rattle.paths.specs.Relations.{Shows}
use Rattle.paths.specs.Traces.{backs, fores, traced, trace}
use Rattle.paths.specs.Theorems.{OfBlocks}
use Rattle.paths.proofs.Choosing.{at_below}
use Rattle.paths.proofs.Small.{Given}
use Rattle.paths.proofs.Slacks.{slack_line}
use Rattle.paths.proofs.Tracing.{trace_shows_least_lem}
use Rattle.paths.proofs.Joining.{given}
use Rattle.sheet.specs.declared.line.Line.{Line}
use Rattle.sheet.specs.declared.node.NodeEntry.{NodeEntry}
use Rattle.sheet.specs.Blanks.{blank_line, blank_entry}
use Rattle.sheet.specs.Tables.{Tables, sized, well_sized}
use Rattle.sheet.specs.Written.{line_of, arrival_of, required_of, row_or, entry_of, by_nodes, written}
use Rattle.sheet.specs.Trails.{back_arcs, fore_arcs}
use Rattle.sheet.specs.Traces.{TraceOutcome, untraced, joined_at, entry_traced, trace_outcome}
use Rattle.sheet.specs.Theorems.{traced_outcome, SheetsAreTraced}
use Rattle.sheet.proofs.Unaltered.{backs_same, fores_same}

-- ---- the tables' lengths, and a node's entry
by_nodes_length : {X : Type 0} (f : ℕ → X) → length (by_nodes f) ≡ 256
unfolding by_nodes
by_nodes_length f = length-map (range_with_len 0 256) f ∙ length-range_with_len 0 256

pub by_nodes_at : {X : Type 0} (f : ℕ → X) (v : ℕ) (d : X) → v < 256 → get_or (by_nodes f) v d ≡ f v
unfolding by_nodes
by_nodes_at f v d h = get_or-map-range_with_len f 0 256 v v d h (omega arith)

filled_length : {X Y : Type 0} (f : X → Y) (ts : List X) (size : ℕ) (y : Y) → length ts ≤ size → length (map f ts ++ replicate (size - length ts) y) ≡ size
filled_length f ts size y h = omega (arith, length-append (map f ts) (replicate (size - length ts) y), length-map ts f, length-replicate (size - length ts) y)

module _ {R : Type 0} (m : Rows R) where
  written_sized : (size : ℕ) (ts : List (Timed R)) → length ts ≤ size → size ≤ 4096 → well_sized (written m size ts) ≡ true
  written_sized size ts h k =
      (λ i. sized
      (filled_length line_of ts size blank_line h i)
      (filled_length arrival_of ts size m.origin h i)
      (filled_length (required_of m.origin) ts size m.origin h i)
      (by_nodes_length (λ v. entry_of (node_slack m v ts)) i)
      (by_nodes_length (λ v. row_or m.origin (node_slack m v ts)) i))
      ∙ and_from (leb size 4096) _ (le-leb size 4096 k)
      (and_from (eqb size size) _ (eq-eqb size size refl) (and_from (eqb size size) _ (eq-eqb size size refl) refl))

node_in_range : (v : ℕ) → v < 256 → is_node (pos v) ≡ true
node_in_range v h = grind (arith, ints)

-- the trace in tables of the right lengths, of a node that there is
module _ {R : Type 0} (t : Tables R) (node : ℤ) (size : ℕ) where
  abbrev by_node : Bool → TraceOutcome
  by_node x = cond x (entry_traced t.lines size (get_or t.nodes (nat_abs node) blank_entry)) (untraced size 6)

  by_entry : well_sized t ≡ true → is_node node ≡ true → (e : NodeEntry) → e ≡ get_or t.nodes (nat_abs node) blank_entry
      → trace_outcome t node size ≡ entry_traced t.lines size e
  by_entry e f n is = ap (λ x. cond x (by_node (is_node node)) (untraced size 14)) e ∙ ap by_node f ∙ ap (entry_traced t.lines size) (sym is)

-- ---- a path has at most 255 arcs
module _ {R : Type 0} (b : RowBlock R) (rising : Rising b) where
  leads_rise : (u : ℕ) (es : List (Arc R)) (w : ℕ) → Leads b u es w → u + length es ≤ w
  leads_rise u [] w p = omega arith
  leads_rise u (e ∷ es) w p = omega (arith, rising e p.0, p.1, leads_rise e.to es w p.2)

  leads_below : (below : (e : Arc R) → Live b e → e.to < 256) (u : ℕ) (es : List (Arc R)) (w : ℕ) → u < 256 → Leads b u es w → w < 256
  leads_below below u [] w h p = omega arith
  leads_below below u (e ∷ es) w h p = leads_below below e.to es w (below e p.0) p.2

module _ {R : Type 0} (m : Rows R) (b : RowBlock R) (n : ℕ) (known : Given m b n) (v : ℕ) (node : v < 256) where
  trace_short : (o : Option (Told R)) (ks : List ℕ) → Shows m b v (row_of o) (Some ks) → length ks ≤ 255
  trace_short None ks s = absurd s
  trace_short (Some x) ks s =
      let p = s.0 in
      let last : p.last < 256 = leads_below b known.rising (λ e l. omega (arith, known.below e l, known.few)) v p.after p.last node p.goes_on in
      omega (
        arith,
        ap length s.2,
        length-map (p.before ++ p.after) (λ (e : Arc R). e.number),
        length-append p.before p.after,
        leads_rise b known.rising p.first p.before v p.reaches,
        leads_rise b known.rising v p.after p.last p.goes_on,
      )

  module _ (size : ℕ) (fits : length (sheet m b n) ≤ size) (room : ℕ) (enough : 255 ≤ room) where
    abbrev lines : List Line
    lines = map line_of (sheet m b n) ++ replicate (size - length (sheet m b n)) blank_line

    entry_is_traced : (o : Option (Told R)) → node_slack m v (sheet m b n) ≡ o → entry_traced lines room (entry_of o) ≡ traced_outcome room (traced (sheet m b n) o)
    entry_is_traced None e = refl
    entry_is_traced (Some s) e =
        let ts = sheet m b n in
        let w = slack_line m b n known v s e in
        let place_is : s.line ≡ w.place = omega (arith, w.place_is) in
        let rest = replicate (size - length ts) blank_line in
        let back = backs_same m b known.laws n known.numbered rest (length ts) w.place w.by w.stands (at_below ts w.place w.by w.stands) in
        let fore = fores_same m b known.laws n known.numbered rest (length ts) w.place w.by w.required w.stands w.required_is (omega arith) in
        let before : back_arcs lines s.line ≡ Some (backs (length ts) ts s.line []) =
        ap (back_arcs lines) place_is ∙ back.1 ∙ ap Some (sym (back.2 [] ∙ append-nil back.0) ∙ ap (λ k. backs (length ts) ts k []) (sym place_is)) in
        let after : fore_arcs lines s.line ≡ Some (fores (length ts) ts s.line) =
        ap (fore_arcs lines) place_is ∙ fore ∙ ap (λ k. Some (fores (length ts) ts k)) (sym place_is) in
        let ks = backs (length ts) ts s.line [] ++ fores (length ts) ts s.line in
        let short : length ks ≤ 255 = trace_short (Some s) ks (subst (λ o. Shows m b v (row_of o) (traced ts o)) e (trace_shows_least_lem m b n known v)) in
        ap₂ (joined_at room) before after
        ∙ cond-true (leb (length ks) room) (traced_outcome room (Some ks)) (untraced room 17) (le-leb (length ks) room (omega arith))

    pub sheet_is_traced : size ≤ 4096 → trace_outcome (written m size (sheet m b n)) (pos v) room ≡ traced_outcome room (trace m v (sheet m b n))
    sheet_is_traced limit =
        let slack = node_slack m v (sheet m b n) in
        by_entry (written m size (sheet m b n)) (pos v) room (written_sized m size (sheet m b n) fits limit) (node_in_range v node) (entry_of slack)
        (sym (by_nodes_at (λ u. entry_of (node_slack m u (sheet m b n))) v blank_entry node))
        ∙ entry_is_traced slack refl

pub sheets_are_traced_lem : OfBlocks SheetsAreTraced
sheets_are_traced_lem w not_later order b n sound size fits limit v node room enough =
    sheet_is_traced (rows w not_later) b n (given w not_later order b n sound) v node size fits room (omega arith) limit
