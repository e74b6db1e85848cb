-- A table of lines whose columns are those of a sheet.
use Rattle.std.proofs.Common.{◌≡◌, ℕ, zero, suc, ◌<◌, ◌≤◌, true, List, [], ◌∷◌, ◌++◌, map, length, get_or, Some, None, Option, sym, refl, ap, ◌∙◌, subst, ap₂, ⊎_elim, arith}
use mathlib.Core.List.Memᴰ
use Rattle.std.specs.List.{AllByRecursion}
use Rattle.std.proofs.lemmas.List.{length-append, length-map, take_all, get_or-map}
use Rattle.std.proofs.lemmas.Bool.{cases_lt}
use Rattle.measure.specs.declared.measure.Measure.{Ghosts as Measure}
use Rattle.measure.specs.Rows.{Row, Bounded, zeros}
use Rattle.measure.proofs.Bounds.{from_bounded}
use Rattle.paths.specs.Rows.{Rows}
use Rattle.paths.specs.Blocks.{RowBlock}
use Rattle.paths.specs.Sheets as sheets
use Rattle.paths.specs.Sheets.{arrivals, timed, sheet}
use Rattle.paths.proofs.RowLaws.{Laws}
use Rattle.paths.proofs.Small.{Given, tame}
use Rattle.paths.proofs.Choosing.{In, in_all}
use Rattle.paths.proofs.Joining.{given, far_bounded}
use Rattle.paths.proofs.Slacks.{required_near}
use Rattle.paths.proofs.Arriving.{arrivals_right}
use Rattle.sheet.specs.declared.line.Line.{Line}
use Rattle.sheet.specs.Lines.{past_line}
use Rattle.sheet.specs.Written.{line_with, line_of, arrival_of, row_or, required_of}
use Rattle.timing.specs.declared.block.TimedBlock.{TimedBlock}
use Rattle.timing.specs.Measured.{measured}
use Rattle.timing.specs.TimedBlock.{rows_of}
use Rattle.timing.specs.Lines.{views, front}
use Rattle.timing.specs.Crossings.{Near}
use Rattle.timing.specs.Requiring.{AsksWithin}
use Rattle.timing.specs.Slacks.{timed_of, timeds, TimesWithin}
use Rattle.timing.specs.Arrived.{Arrived}
use Rattle.timing.specs.Grouped.{GroupAt}
use Rattle.timing.proofs.Tabled.{LawsOf, rows_sound}
use Rattle.timing.proofs.Arriving.{lines_at, own_nodes, nodes_below, later, Firsts, first_next}

-- ---- columns
module _ {M R : Type 0} (row : M → R) where
  timed_same : (none : R) (l : sheets.Line R) (o : Option (sheets.Told R)) (x y : M) → row x ≡ l.arrival → row y ≡ row_or none o → timed_of row (line_with l o) x y ≡ record { line = l; required = o }
  timed_same none l None x y p q =
      λ i. record { line = record { node = l.node; tag = l.tag; arrival = p i; back_arc = l.back_arc; back_line = l.back_line }; required = None }
  timed_same none l (Some u) x y p q =
      λ i. record { line = record { node = l.node; tag = l.tag; arrival = p i; back_arc = l.back_arc; back_line = l.back_line }; required = Some (record { row = q i; arc = u.arc; line = u.line }) }

  columns : (none : R) (ts : List (sheets.Timed R)) (xs ys : List M) → map row xs ≡ map arrival_of ts → map row ys ≡ map (required_of none) ts → timeds row (map line_of ts) xs ys ≡ ts
  columns none [] xs ys p q = refl
  columns none (t ∷ ts) [] ys p q = absurd (let z : ◌≡◌ {A = ℕ} 0 1 = cc in omega arith)
  columns none (t ∷ ts) (x ∷ xs) [] p q = absurd (let z : ◌≡◌ {A = ℕ} 0 1 = cc in omega arith)
  columns none (t ∷ ts) (x ∷ xs) (y ∷ ys) p q = ap₂ (λ c d. c ∷ d) (timed_same none t.line t.required x y (cc) (cc)) (columns none ts xs ys (cc) (cc))

  pub columns_are : (none : R) (ts : List (sheets.Timed R)) (ls : List Line) (xs ys : List M) → ls ≡ map line_of ts → map row xs ≡ map arrival_of ts → map row ys ≡ map (required_of none) ts → timeds row ls xs ys ≡ ts
  columns_are none ts ls xs ys e p q = ap (λ l. timeds row l xs ys) e ∙ columns none ts xs ys p q

  views_column : (ls : List Line) (xs : List M) → length xs ≡ length ls → map row xs ≡ map (λ l. l.arrival) (views row ls xs)
  views_column [] [] e = refl
  views_column [] (x ∷ xs) e = absurd (omega arith)
  views_column (l ∷ ls) [] e = absurd (omega arith)
  views_column (l ∷ ls) (x ∷ xs) e = ap (λ c. row x ∷ c) (views_column ls xs (omega arith))

  -- the table of arrivals has those of all lines in front
  pub front_column : (n : ℕ) (ls : List Line) (xs : List M) (A : List (sheets.Line R)) → n ≡ length ls → length xs ≡ length ls → front row n ls xs ≡ A → map row xs ≡ map (λ l. l.arrival) A
  front_column n ls xs A e even stand =
      views_column ls xs even ∙ ap₂ (λ a b. map (λ l. l.arrival) (views row a b)) (sym (take_all n ls (omega arith))) (sym (take_all n xs (omega arith))) ∙ ap (map (λ l. l.arrival)) stand

module _ {R : Type 0} (m : Rows R) (b : RowBlock R) where
  pub timed_arrivals : (k : ℕ) (A : List (sheets.Line R)) → map (λ l. l.arrival) A ≡ map arrival_of (timed m b k A)
  timed_arrivals k [] = refl
  timed_arrivals k (l ∷ A) = ap (λ c. l.arrival ∷ c) (timed_arrivals (suc k) A)

  node_same : (l : sheets.Line R) (o : Option (sheets.Told R)) → (line_with l o).node ≡ l.node
  node_same l None = refl
  node_same l (Some u) = refl

  pub timed_nodes : (k : ℕ) (A : List (sheets.Line R)) → map (λ l. l.node) (map line_of (timed m b k A)) ≡ map (λ l. l.node) A
  timed_nodes k [] = refl
  timed_nodes k (l ∷ A) = ap₂ (λ c d. c ∷ d) (node_same l _) (timed_nodes (suc k) A)

-- ---- rows stay near zero
module _ {M : Type 0} (w size : ℕ) (row : M → Row w) where
  ask_near : (none : Row w) (l : sheets.Line (Row w)) (o : Option (sheets.Told (Row w))) (y : M) → row y ≡ row_or none o → ((u : sheets.Told (Row w)) → o ≡ Some u → Bounded w size u.row)
      → (line_with l o).required ≡ true → Bounded w size (row y)
  ask_near none l None y e near f = absurd (let z : ◌≡◌ {A = ℕ} 0 1 = cc in omega arith)
  ask_near none l (Some u) y e near f = subst (λ r. Bounded w size r) (sym e) (near u refl)

  asks_near : (none : Row w) (ts : List (sheets.Timed (Row w))) (ys : List M) → map row ys ≡ map (required_of none) ts → ((t : sheets.Timed (Row w)) (u : sheets.Told (Row w)) → In t ts → t.required ≡ Some u → Bounded w size u.row)
      → (j : ℕ) (y : M) → j < length (map line_of ts) → y ≡ get_or ys j y → (get_or (map line_of ts) j past_line).required ≡ true → Bounded w size (row y)
  asks_near none [] ys q near j y h e f = absurd (omega arith)
  asks_near none (t ∷ ts) [] q near j y h e f = absurd (let z : ◌≡◌ {A = ℕ} 0 1 = cc in omega arith)
  asks_near none (t ∷ ts) (v ∷ ys) q near zero y h e f = ask_near none t.line t.required y (ap row e ∙ cc) (λ u r. near t u (Memᴰ.head refl) r) f
  asks_near none (t ∷ ts) (v ∷ ys) q near (suc j) y h e f = asks_near none ts ys (cc) (λ s u i r. near s u (Memᴰ.tail i) r) j y (omega arith) e f

  times_near : (A : List (sheets.Line (Row w))) (xs : List M) → map row xs ≡ map (λ l. l.arrival) A → Near w size A → (j : ℕ) (x : M) → j < length xs → x ≡ get_or xs j x → Bounded w size (row x)
  times_near A [] p near j x h e = absurd (omega arith)
  times_near [] (y ∷ xs) p near j x h e = absurd (let z : ◌≡◌ {A = ℕ} 0 1 = cc in omega arith)
  times_near (l ∷ A) (y ∷ xs) p near zero x h e = let s : l.arrival ≡ row x = let r : row y ≡ l.arrival = cc in sym r ∙ ap row (sym e) in subst (λ r. Bounded w size r) s near.0
  times_near (l ∷ A) (y ∷ xs) p near (suc j) x h e = times_near A xs (cc) near.1 j x (omega arith) e

module _ {M : Type 0} (w : ℕ) (row : M → Row w) where
  pub asks_within : (none : Row w) (ts : List (sheets.Timed (Row w))) (ls : List Line) (ys : List M) → ls ≡ map line_of ts → map row ys ≡ map (required_of none) ts
      → ((t : sheets.Timed (Row w)) (u : sheets.Told (Row w)) → In t ts → t.required ≡ Some u → Bounded w 256000000 u.row) → AsksWithin w row ls ys
  asks_within none ts ls ys e q near = subst (λ (l : List Line). AsksWithin w row l ys) (sym e) (λ j y h i f. from_bounded w 256000000 (row y) (asks_near w 256000000 row none ts ys q near j y h i f))

  pub times_within : (A : List (sheets.Line (Row w))) (xs : List M) → map row xs ≡ map (λ l. l.arrival) A → Near w 256000000 A → TimesWithin w row xs
  times_within A xs p near = λ j x h e. from_bounded w 256000000 (row x) (times_near w 256000000 row A xs p near j x h e)

-- ---- the lines of each node
module _ {R : Type 0} where
  abbrev node_at : List (sheets.Line R) → ℕ → ℕ
  node_at ls i = get_or (map (λ l. l.node) ls) i 0

  node_in_front : (A B : List (sheets.Line R)) (i : ℕ) → i < length A → node_at (A ++ B) i ≡ node_at A i
  node_in_front [] B i h = absurd (omega arith)
  node_in_front (a ∷ A) B zero h = refl
  node_in_front (a ∷ A) B (suc i) h = node_in_front A B i (omega arith)

  node_of_all : (P : ℕ → Type 0) (A : List (sheets.Line R)) (i : ℕ) → AllByRecursion (λ (l : sheets.Line R). P l.node) A → i < length A → P (node_at A i)
  node_of_all P [] i a h = absurd (omega arith)
  node_of_all P (l ∷ A) zero a h = a.0
  node_of_all P (l ∷ A) (suc i) a h = node_of_all P A i a.1 (omega arith)

  node_behind : (P : ℕ → Type 0) (A B : List (sheets.Line R)) (i : ℕ) → AllByRecursion (λ (l : sheets.Line R). P l.node) B → length A ≤ i → i < length (A ++ B) → P (node_at (A ++ B) i)
  node_behind P [] B i a g h = node_of_all P B i a h
  node_behind P (l ∷ A) B zero a g h = absurd (omega arith)
  node_behind P (l ∷ A) B (suc i) a g h = node_behind P A B i a (omega arith) (omega arith)

  -- v's lines stand between those of lower and of higher nodes
  module _ (v : ℕ) (A L B : List (sheets.Line R)) (low : AllByRecursion (λ (l : sheets.Line R). l.node < v) A) (own : AllByRecursion (λ (l : sheets.Line R). l.node ≡ v) L) (high : AllByRecursion (λ (l : sheets.Line R). v < l.node) B) where
    own_inside : (i : ℕ) → length A ≤ i → i < length (A ++ L) → node_at ((A ++ L) ++ B) i ≡ v
    own_inside i g h = node_in_front (A ++ L) B i h ∙ node_behind (λ n. n ≡ v) A L i own g h

    own_from : (i : ℕ) → node_at ((A ++ L) ++ B) i ≡ v → length A ≤ i
    own_from i e =
        ⊎_elim
        (λ (h : i < length A).
        let s : node_at ((A ++ L) ++ B) i ≡ node_at A i = node_in_front (A ++ L) B i (omega (arith, length-append A L)) ∙ node_in_front A L i h in
        absurd (omega (arith, s, node_of_all (λ n. n < v) A i low h)))
        (λ h. h)
        (cases_lt i (length A))

    own_below : (i : ℕ) → i < length ((A ++ L) ++ B) → node_at ((A ++ L) ++ B) i ≡ v → i < length (A ++ L)
    own_below i h e =
        ⊎_elim (λ k. k) (λ (k : length (A ++ L) ≤ i). absurd (omega (arith, node_behind (λ n. v < n) (A ++ L) B i high k h))) (cases_lt i (length (A ++ L)))

module _ {R : Type 0} (m : Rows R) (b : RowBlock R) (laws : Laws m) where
  -- lines with the nodes of the arrivals are grouped as these are
  pub grouped : (n : ℕ) (firsts : List ℕ) (ls : List Line) → Firsts m b laws firsts n → map (λ l. l.node) ls ≡ map (λ l. l.node) (arrivals m b n) → (v : ℕ) → v < n → GroupAt ls firsts v
  grouped n firsts ls f e v h =
      let k = later m b laws v n h in
      let A = arrivals m b v in
      let L = lines_at m b laws v in
      let B = k.lines in
      let low = nodes_below m b laws v in
      let own = own_nodes m b laws v in
      let from = f v (omega arith) in
      let to = first_next m b laws firsts v n h f in
      let size : length ls ≡ length ((A ++ L) ++ B) = sym (length-map ls (λ l. l.node)) ∙ ap length e ∙ length-map (arrivals m b n) (λ l. l.node) ∙ ap length k.parts in
      let at : (i : ℕ) → i < length ls → (get_or ls i past_line).node ≡ node_at ((A ++ L) ++ B) i =
      λ i p. sym (get_or-map (λ l. l.node) ls i past_line 0 p) ∙ ap (λ ns. get_or ns i 0) (e ∙ ap (map (λ l. l.node)) k.parts) in
      record {
        rising = omega (arith, from, to, length-append A L);
        stand = omega (arith, to, size, length-append (A ++ L) B);
        inside = λ i p q. at i (omega (arith, to, size, length-append (A ++ L) B)) ∙ own_inside v A L B low own k.above i (omega (arith, from)) (omega (arith, to));
        outside = λ i p q.
            let here = sym (at i p) ∙ q in
            (omega (arith, from, own_from v A L B low own k.above i here), omega (arith, to, own_below v A L B low own k.above i (omega (arith, size)) here));
      }

-- ---- the tables, once every line has its required time
module _ {M : Type 0} (measure : Measure M) (laws : LawsOf measure) (t : TimedBlock) (firsts : List ℕ) (old ls : List Line) (xs ys : List M)
    (arrived : Arrived measure.row (measured measure) (rows_of measure t) 256 old xs firsts (length old)) (lines_are : ls ≡ map line_of (sheet (measured measure) (rows_of measure t) 256))
    (required-are : map measure.row ys ≡ map (required_of (zeros measure.width)) (sheet (measured measure) (rows_of measure t) 256)) where
  abbrev w : ℕ
  w = measure.width

  abbrev m : Rows (Row w)
  m = measured measure

  abbrev b : RowBlock (Row w)
  b = rows_of measure t

  abbrev known : Given m b 256
  known = given w measure.not_later laws.order b 256 (rows_sound measure t laws)

  arrivals_are : map measure.row xs ≡ map (λ l. l.arrival) (arrivals m b 256)
  arrivals_are = front_column measure.row (length old) old xs (arrivals m b 256) refl arrived.even arrived.stand

  near : Near w 256000000 (arrivals m b 256)
  near =
      in_all (λ (l : sheets.Line (Row w)). Bounded w 256000000 l.arrival) (arrivals m b 256)
      (λ l i.
      let r = arrivals_right m b known.laws 256 l i in
      far_bounded w 256000000 l.arrival ((tame known).reached l.node l.tag l.arrival (omega (arith, r.node_below, known.few)) r.reached))

  pub sheet_grouped : (v : ℕ) → v < 256 → GroupAt ls firsts v
  sheet_grouped = grouped m b known.laws 256 firsts ls arrived.firsts_are (ap (map (λ l. l.node)) lines_are ∙ timed_nodes m b 0 (arrivals m b 256))

  pub sheet_asks : AsksWithin w measure.row ls ys
  sheet_asks = asks_within w measure.row m.origin (sheet m b 256) ls ys lines_are required-are (λ t u i r. far_bounded w 256000000 u.row (required_near m b 256 known t u i r))

  pub sheet_times : TimesWithin w measure.row xs
  sheet_times = times_within w measure.row (arrivals m b 256) xs arrivals_are near

  pub sheet_timeds : timeds measure.row ls xs ys ≡ sheet m b 256
  sheet_timeds = columns_are measure.row m.origin (sheet m b 256) ls xs ys lines_are (arrivals_are ∙ timed_arrivals m b 0 (arrivals m b 256)) required-are
