-- The steps of the required pass, from the last line back.
use Rattle.std.proofs.Common.{◌≡◌, ℕ, zero, suc, ◌+◌, ◌-◌, ◌<◌, ◌≤◌, true, List, [], ◌∷◌, ◌++◌, map, length, get_or, drop, set, Some, None, Option, sym, refl, ap, ◌∙◌, subst, ap₂, arith, option_to_list}
use Rattle.std.specs.List.{AllByRecursion, flat_map}
use Rattle.std.proofs.lemmas.List.{append_assoc, length-map, length-drop, take_all, drop_all, drop_at, drop_more, drop-set, drop-map, map-set, set-get_or, get_or-map, get_or-drop, get_or_append_left}
use Rattle.measure.specs.declared.measure.Measure.{Ghosts as Measure}
use Rattle.measure.specs.Rows.{Row, Bounded}
use Rattle.graph.specs.declared.parts.LiveArc.{LiveArc}
use Rattle.graph.specs.declared.parts.ArcEnd.TheVariants.{Tail}
use Rattle.graph.specs.Index.{numbers_at}
use Rattle.paths.specs.Rows.{Rows}
use Rattle.paths.specs.Blocks.{RowBlock}
use Rattle.paths.specs.Sheets as sheets
use Rattle.paths.specs.Sheets.{first_least, ended, asked_by, arrivals, timed, sheet}
use Rattle.paths.proofs.RowLaws.{Laws}
use Rattle.paths.proofs.Choosing.{in_all, some_is}
use Rattle.paths.proofs.Joining.{laws_of, given, far_bounded}
use Rattle.paths.proofs.Slacks.{required_near}
use Rattle.paths.proofs.Entering.{entered_sorted}
use Rattle.paths.proofs.Arriving.{candidates}
use Rattle.graph.specs.Sorting.{segment}
use Rattle.sheet.specs.declared.line.Line.{Line}
use Rattle.sheet.specs.Lines.{past_line}
use Rattle.sheet.specs.Written.{line_with, line_of, row_or, required_of}
use Rattle.timing.specs.Lines.{views, SortedByTag}
use Rattle.timing.specs.declared.block.TimedBlock.{TimedBlock}
use Rattle.timing.specs.Measured.{measured}
use Rattle.timing.specs.TimedBlock.{arcs_in, rows_of, asks}
use Rattle.timing.specs.Arrived.{Arrived}
use Rattle.timing.specs.Requiring.{Mark, mark_of, marks, AllBeyond, AllAskBeyond}
use Rattle.timing.specs.RequiredFrom.{asked_line, unasked, unasked_of, FirstsAre, RequiredFrom}
use Rattle.timing.proofs.Tabled.{LawsOf, rows_sound}
use Rattle.timing.proofs.Blocks.{Listed, all_listed}
use Rattle.timing.proofs.Arriving.{all_get_d, lines_at, own_nodes, later, arrivals_grow, first_next, segment_at}
use Rattle.timing.proofs.Requiring.{marks_drop}
use Rattle.timing.proofs.Sorted.{sorted_segment}
use Rattle.std.proofs.ByRecursion.{All-drop}
use Rattle.timing.proofs.AskedBy.{mark, timed_drop, asked_here, first_after, firsts_rise, by_tables}

-- ---- one line
asked_written : {R : Type 0} (x : Line) (l : sheets.Line R) (o : Option (sheets.Told R)) → unasked x ≡ unasked_of l → asked_line x o ≡ line_with l o
asked_written x l None u = u
asked_written x l (Some y) u =
    ap (λ (z : Line). let w : Line = record { node = z.node; tag = z.tag; back_arc = z.back_arc; back_line = z.back_line; fore_arc = y.arc; fore_line = y.line; required = true } in w) u

unasked_asked : {R : Type 0} (x : Line) (o : Option (sheets.Told R)) → unasked (asked_line x o) ≡ unasked x
unasked_asked x None = refl
unasked_asked x (Some y) = refl

module _ {M R : Type 0} (row : M → R) (zero_row : R) where
  mark_written : (l : sheets.Line R) (o : Option (sheets.Told R)) (y : M) → row y ≡ row_or zero_row o → mark_of row (line_with l o) y ≡ mark (record { line = l; required = o })
  mark_written l None y e = refl
  mark_written l (Some z) y e =
      let f : R → Mark R = λ r. record { tag = l.tag; required = Some (record { row = r; arc = z.arc; line = z.line }) } in ap f e

  -- the marks of written lines
  marks_written : (ts : List (sheets.Timed R)) (ys : List M) → map row ys ≡ map (required_of zero_row) ts → marks row (map line_of ts) ys ≡ map mark ts
  marks_written [] ys e = refl
  marks_written (t ∷ ts) [] e = absurd (let z = ap length e in omega arith)
  marks_written (t ∷ ts) (y ∷ ys) e = ap₂ (λ a cs. a ∷ cs) (mark_written t.line t.required y (cc)) (marks_written ts ys (cc))

  -- what holds of the required times of written lines
  pub asks_written : (P : R → Type 0) (ts : List (sheets.Timed R)) (ys : List M) → map row ys ≡ map (required_of zero_row) ts → AllByRecursion (λ (t : sheets.Timed R). (z : sheets.Told R) → t.required ≡ Some z → P z.row) ts
      → (j : ℕ) (y : M) → j < length ts → y ≡ get_or ys j y → (get_or (map line_of ts) j past_line).required ≡ true → P (row y)
  asks_written P [] ys e a j y h q r = absurd (omega arith)
  asks_written P (t ∷ ts) [] e a j y h q r = absurd (let z = ap length e in omega arith)
  asks_written P (t ∷ ts) (x ∷ ys) e a zero y h q r = go t.required refl r (cc)
    where
      go : (o : Option (sheets.Told R)) → t.required ≡ o → (line_with t.line o).required ≡ true → row x ≡ row_or zero_row t.required → P (row y)
      go None p f d = absurd (let z : ◌≡◌ {A = ℕ} 0 1 = cc in omega arith)
      go (Some z) p f d = subst P (sym (ap row q ∙ d ∙ ap (row_or zero_row) p)) (a.0 z p)
  asks_written P (t ∷ ts) (x ∷ ys) e a (suc j) y h q r = asks_written P ts ys (cc) a.1 j y (omega arith) q r

unasked_views : {M R : Type 0} (row : M → R) (ls : List Line) (xs : List M) → length xs ≡ length ls → map unasked ls ≡ map unasked_of (views row ls xs)
unasked_views row [] xs e = refl
unasked_views row (l ∷ ls) [] e = absurd (omega arith)
unasked_views row (l ∷ ls) (x ∷ xs) e = ap (λ t. unasked l ∷ t) (unasked_views row ls xs (omega arith))

-- ---- the whole table
module _ {M : Type 0} (measure : Measure M) (laws : LawsOf measure) (t : TimedBlock) where
  abbrev R : Type 0
  R = Row measure.width

  abbrev row : M → R
  row = measure.row

  abbrev m : Rows R
  m = measured measure

  abbrev b : RowBlock R
  b = rows_of measure t

  abbrev arcs : List (Option LiveArc)
  arcs = arcs_in t

  abbrev rows : List R
  rows = map measure.row_of_arc t.ticks

  abbrev orders : Laws m
  orders = laws_of measure.width measure.not_later laws.order

  arrived_count : (ls : List Line) → map unasked ls ≡ map unasked_of (arrivals m b 256) → length ls ≡ length (arrivals m b 256)
  arrived_count ls arrived = sym (length-map ls unasked) ∙ ap length arrived ∙ length-map (arrivals m b 256) unasked_of

  pub lines_count : (i : ℕ) (ls : List Line) (ys : List M) → RequiredFrom row m b 256 i ls ys → length ls ≡ length (arrivals m b 256)
  lines_count i ls ys r = arrived_count ls r.arrived

  -- before the first step and after the last
  pub all_unasked : (ls : List Line) (xs : List M) (firsts : List ℕ) → Arrived row m b 256 ls xs firsts (length ls) → map unasked ls ≡ map unasked_of (arrivals m b 256)
  all_unasked ls xs firsts a =
      let same : views row ls xs ≡ arrivals m b 256 = sym (ap₂ (views row) (take_all (length ls) ls (omega arith)) (take_all (length ls) xs (omega (arith, a.even)))) ∙ a.stand in
      unasked_views row ls xs a.even ∙ ap (map unasked_of) same

  pub required_none : (ls : List Line) (ys : List M) (firsts : List ℕ) → length ys ≡ length ls → FirstsAre m b 256 firsts → map unasked ls ≡ map unasked_of (arrivals m b 256) → RequiredFrom row m b 256 (get_or firsts 256 0) ls ys
  required_none ls ys firsts e at whole =
      let A = arrivals m b 256 in
      let i = get_or firsts 256 0 in
      let size : length ls ≡ length A = arrived_count ls whole in
      let last : i ≡ length A = at 256 (omega arith) in
      let no_lines : drop i ls ≡ [] = drop_all i ls (omega arith) in
      let no_rows : drop i ys ≡ [] = drop_all i ys (omega arith) in
      let none : drop i A ≡ [] = drop_all i A (omega arith) in
      record {
        arrived = whole;
        lines = no_lines ∙ ap (λ cs. map line_of (timed m b i cs)) (sym none);
        rows = ap (map row) no_rows ∙ ap (λ cs. map (required_of m.origin) (timed m b i cs)) (sym none);
      }

  pub required_all : (i : ℕ) (ls : List Line) (ys : List M) → i ≡ 0 → RequiredFrom row m b 256 i ls ys → (ls ≡ map line_of (sheet m b 256)) × (map row ys ≡ map (required_of m.origin) (sheet m b 256))
  required_all i ls ys z r = let s = subst (λ j. RequiredFrom row m b 256 j ls ys) z r in (s.lines, s.rows)

  -- the required times of the lines from i on are near zero
  pub sheet_near : AllByRecursion (λ (x : sheets.Timed R). (z : sheets.Told R) → x.required ≡ Some z → Bounded measure.width 256000000 z.row) (sheet m b 256)
  sheet_near =
      in_all (λ (x : sheets.Timed R). (z : sheets.Told R) → x.required ≡ Some z → Bounded measure.width 256000000 z.row) (sheet m b 256)
      (λ x i z e. far_bounded measure.width 256000000 z.row (required_near m b 256 (given measure.width measure.not_later laws.order b 256 (rows_sound measure t laws)) x z i e))

  pub asks_from : (i : ℕ) (ls : List Line) (ys : List M) → RequiredFrom row m b 256 i ls ys → (j : ℕ) (y : M) → i ≤ j → j < length ls → y ≡ get_or ys j y → (get_or ls j past_line).required ≡ true → Bounded measure.width 256000000 (row y)
  asks_from i ls ys r j y lo hi q f =
      let A = arrivals m b 256 in
      let T = timed m b i (drop i A) in
      let P : R → Type 0 = Bounded measure.width 256000000 in
      let z : i + (j - i) ≡ j = omega arith in
      let near : AllByRecursion (λ (x : sheets.Timed R). (z : sheets.Told R) → x.required ≡ Some z → P z.row) T =
      let s : drop i (sheet m b 256) ≡ T = timed_drop m b i 0 A ∙ (let o : 0 + i ≡ i = omega arith in ap (λ k. timed m b k (drop i A)) o) in
      subst (λ ts. AllByRecursion (λ (x : sheets.Timed R). (z : sheets.Told R) → x.required ≡ Some z → P z.row) ts) s (All-drop (λ (x : sheets.Timed R). (z : sheets.Told R) → x.required ≡ Some z → P z.row) i (sheet m b 256) sheet_near) in
      let count : length ls - i ≡ length T = sym (length-drop i ls) ∙ ap length r.lines ∙ length-map T line_of in
      asks_written row m.origin P T (drop i ys) r.rows near (j - i) y (omega arith)
      (q ∙ ap (λ k. get_or ys k y) (sym z) ∙ sym (get_or-drop i ys (j - i) y))
      (ap (λ (xs : List Line). (get_or xs (j - i) past_line).required) (sym r.lines) ∙ ap (λ (x : Line). x.required) (get_or-drop i ls (j - i) past_line ∙ ap (λ k. get_or ls k past_line) z) ∙ f)

  -- ---- one line more
  module _ (firsts : List ℕ) (at : FirstsAre m b 256 firsts) where
    abbrev past_model : sheets.Line R
    past_model = record { node = 0; tag = 0; arrival = m.origin; back_arc = 0; back_line = 0 }

    node_at_line : (v j : ℕ) → v < 256 → get_or firsts v 0 ≤ j → j < get_or firsts (v + 1) 0 → (get_or (arrivals m b 256) j past_model).node ≡ v
    node_at_line v j h lo hi =
        let k = later m b orders v 256 h in
        let A = arrivals m b v in
        let N = lines_at m b orders v in
        let F = length A in
        let first : get_or firsts v 0 ≡ F = at v (omega arith) in
        let z : F + (j - F) ≡ j = omega arith in
        let lt : j - F < length N = omega (arith, first_after m b orders arcs rows refl 256 t.graph.now.rising t.graph.now.noded firsts at v h) in
        let behind : drop F (arrivals m b 256) ≡ N ++ k.lines = ap (drop F) (k.parts ∙ append_assoc A N k.lines) ∙ drop_at A (N ++ k.lines) F refl in
        ap (λ (l : sheets.Line R). l.node)
        (ap (λ i. get_or (arrivals m b 256) i past_model) (sym z) ∙ sym (get_or-drop F (arrivals m b 256) (j - F) past_model) ∙ ap (λ ls. get_or ls (j - F) past_model) behind ∙ get_or_append_left N k.lines past_model (j - F) lt)
        ∙ all_get_d (λ (l : sheets.Line R). l.node ≡ v) N (j - F) past_model lt (own_nodes m b orders v)

    pub required_more : (numbers : List ℕ) (v : ℕ) → numbers ≡ numbers_at Tail v 0 arcs → (j : ℕ) (ls ls' : List Line) (ys ys' : List M) (es : List (sheets.Told R)) (o : Option (sheets.Told R)) → v < 256 → get_or firsts v 0 ≤ j → j < get_or firsts (v + 1) 0 → j < length ls → length ys ≡ length ls
        → RequiredFrom row m b 256 (j + 1) ls ys → es ≡ ended (b.end v)
        → o ≡ first_least m (es ++ flat_map (λ k. option_to_list (asks measure t firsts (marks row ls ys) (get_or ls j past_line).tag k)) numbers)
        → ls' ≡ set ls j (asked_line (get_or ls j past_line) o) → map row ys' ≡ set (map row ys) j (row_or m.origin o) → RequiredFrom row m b 256 j ls' ys'
    required_more numbers v listed j ls ls' ys ys' es o h lo hi in_lines even r ends told new-lines new-rows =
        let A = arrivals m b 256 in
        let x = get_or ls j past_line in
        let l = get_or A j past_model in
        let i = j + 1 in
        let T = timed m b i (drop i A) in
        let z : i ≡ suc j = omega arith in
        let size : length ls ≡ length A = lines_count i ls ys r in
        let same : unasked x ≡ unasked_of l = sym (get_or-map unasked ls j past_line past_line in_lines) ∙ ap (λ xs. get_or xs j past_line) r.arrived ∙ get_or-map unasked_of A j past_model past_line (omega arith) in
        let tag : x.tag ≡ l.tag = ap (λ (w : Line). w.tag) same in
        let node : l.node ≡ v = node_at_line v j h lo hi in
        let marked : drop i (marks row ls ys) ≡ map mark T =
        marks_drop row m i ls ys even ∙ ap (λ xs. marks row xs (drop i ys)) r.lines ∙ marks_written row m.origin T (drop i ys) r.rows in
        let asked : o ≡ asked_here m b l j (timed m b (suc j) (drop (suc j) A)) =
        told
        ∙ ap (λ ks. first_least m (es ++ flat_map (λ k. option_to_list (asks measure t firsts (marks row ls ys) x.tag k)) ks)) listed
        ∙ ap₂ (λ cs s. first_least m (cs ++ flat_map (λ k. option_to_list (asks measure t firsts (marks row ls ys) s k)) (numbers_at Tail v 0 arcs))) (ends ∙ ap (λ u. ended (b.end u)) (sym node)) tag
        ∙ ap (λ cs. first_least m (ended (b.end l.node) ++ cs)) (sym (by_tables m b orders arcs rows refl 256 t.graph.now.rising t.graph.now.noded firsts at l i (marks row ls ys) marked v node h (omega arith)))
        ∙ ap (λ k. first_least m (ended (b.end l.node) ++ asked_by m b l b.arcs k (timed m b k (drop k A)))) z in
        let behind : drop j A ≡ l ∷ drop (suc j) A = drop_more A j past_model (omega arith) ∙ ap (λ k. l ∷ drop k A) z in
        record {
          arrived = ap (map unasked) new-lines ∙ map-set unasked ls j (asked_line x o)
              ∙ ap (set (map unasked ls) j) (unasked_asked x o ∙ sym (get_or-map unasked ls j past_line past_line in_lines)) ∙ set-get_or (map unasked ls) j past_line ∙ r.arrived;
          lines = ap (drop j) new-lines ∙ drop-set ls j (asked_line x o) in_lines
              ∙ ap₂ (λ a cs. a ∷ cs) (asked_written x l o same ∙ ap (line_with l) asked) (r.lines ∙ ap (λ k. map line_of (timed m b k (drop k A))) z)
              ∙ ap (λ cs. map line_of (timed m b j cs)) (sym behind);
          rows = sym (drop-map row j ys') ∙ ap (drop j) new-rows ∙ drop-set (map row ys) j (row_or m.origin o) (omega (arith, length-map ys row))
              ∙ ap₂ (λ a cs. a ∷ cs) (ap (row_or m.origin) asked) (drop-map row i ys ∙ r.rows ∙ ap (λ k. map (required_of m.origin) (timed m b k (drop k A))) z)
              ∙ ap (λ cs. map (required_of m.origin) (timed m b j cs)) (sym behind);
        }

    -- the lines of each node stand in the table, sorted by tag
    pub node_rises : (v : ℕ) → v < 256 → get_or firsts v 0 ≤ get_or firsts (v + 1) 0
    node_rises v h = omega (arith, at v (omega arith), first_after m b orders arcs rows refl 256 t.graph.now.rising t.graph.now.noded firsts at v h)

    pub node_stands : (v : ℕ) → v < 256 → get_or firsts (v + 1) 0 ≤ length (arrivals m b 256)
    node_stands v h = omega (arith, first_next m b orders firsts v 256 h at, arrivals_grow m b orders v 256 h)

    node_sorted : (v : ℕ) → v < 256 → (ls : List Line) → map unasked ls ≡ map unasked_of (arrivals m b 256) → SortedByTag (segment (get_or firsts v 0) (get_or firsts (v + 1) 0 - get_or firsts v 0) ls)
    node_sorted v h ls arrived =
        let own : segment (get_or firsts v 0) (get_or firsts (v + 1) 0 - get_or firsts v 0) (arrivals m b 256) ≡ lines_at m b orders v =
        ap₂ (λ x y. segment x (y - x) (arrivals m b 256)) (at v (omega arith)) (first_next m b orders firsts v 256 h at) ∙ segment_at m b orders v 256 h in
        sorted_segment (get_or firsts v 0) (get_or firsts (v + 1) 0 - get_or firsts v 0) (arrivals m b 256) (lines_at m b orders v) ls own (entered_sorted m (candidates m b v) [] tt) arrived

    -- and so those that the arcs from a node lead to
    pub all_beyond : (v : ℕ) (ls : List Line) → map unasked ls ≡ map unasked_of (arrivals m b 256) → AllBeyond arcs firsts ls (numbers_at Tail v 0 arcs)
    all_beyond v ls arrived i e h live =
        let lt : e.to < 256 = t.graph.now.noded _ e live in
        record { rising = node_rises e.to lt; stand = omega (arith, node_stands e.to lt, arrived_count ls arrived); sorted = node_sorted e.to lt ls arrived }

    -- the required times beyond a node's arcs are near zero
    pub all_ask_beyond : (v i : ℕ) (ls : List Line) (ys : List M) → i ≤ get_or firsts (v + 1) 0 → RequiredFrom row m b 256 i ls ys → AllAskBeyond measure.width row arcs firsts ls ys (numbers_at Tail v 0 arcs)
    all_ask_beyond v i ls ys le r p a h live j y lo hi q f =
        let l = all_get_d (Listed Tail v arcs) (numbers_at Tail v 0 arcs) p 0 h (all_listed Tail v arcs) in
        let same : a ≡ l.arc = some_is a l.arc (sym live ∙ l.live) in
        let lt : v < a.to = omega (arith, t.graph.now.rising _ a live, ap (λ (x : LiveArc). x.from) same, l.at) in
        let in_table = all_beyond v ls r.arrived p a h live in
        asks_from i ls ys r j y (omega (arith, le, lo, firsts_rise m b orders arcs rows refl 256 t.graph.now.rising t.graph.now.noded firsts at v a.to lt (t.graph.now.noded _ a live), at a.to (omega (arith, t.graph.now.noded _ a live)))) (omega (arith, hi, in_table.stand)) q f
