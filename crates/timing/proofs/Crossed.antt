-- Lines behind others, and the lines that cross an arc.
use Rattle.std.proofs.Common.{◌≡◌, ℕ, zero, suc, ◌+◌, ◌-◌, ◌<◌, ◌≤◌, Bool, true, false, cond, List, [], ◌∷◌, ◌++◌, length, get_or, take, drop, Some, None, Option, sym, refl, ap, ◌∙◌, subst, ap₂, arith, take-add}
use lib.Bits.{bit_and}
use borrow.Rule.Slice.PartMut.{put_mid}
use Rattle.std.specs.List.{AllByRecursion}
use Rattle.std.proofs.lemmas.List.{drop_all, drop-drop, append-nil, length-take-le, length-drop}
use Rattle.std.proofs.lemmas.Bool.{eq-eqb, ne_eqb}
use Rattle.measure.specs.declared.measure.Measure.{Ghosts as Measure}
use Rattle.measure.specs.Rows.{Row}
use Rattle.paths.specs.Rows.{Rows}
use Rattle.paths.specs.Tags.{apart}
use Rattle.paths.specs.Sheets as sheets
use Rattle.paths.specs.Sheets.{enter, entered}
use Rattle.paths.specs.Relations.{ByTag}
use Rattle.sheet.specs.declared.line.Line.{Line}
use Rattle.timing.specs.declared.crossing.Crossing.{Crossing}
use Rattle.graph.specs.Sorting.{segment}
use Rattle.sheet.specs.Lines.{past_line}
use Rattle.timing.specs.Lines.{view, views, front, behind, Stands, Filled}
use Rattle.timing.specs.Crossings.{crossing_tag, crossing_line, crossed, Near, Entering}
use Rattle.timing.proofs.Entering.{entered_append, entered_grows, length_front}

-- ---- what stands after a write to the end, from a on
pub put_end : {X : Type 0} (a : ℕ) (xs ys : List X) → a ≤ length xs → put_mid a (length xs - a) xs ys ≡ take a xs ++ ys
put_end a xs ys h =
    ap (λ l. take a xs ++ (ys ++ l)) (drop_all (length xs - a) (drop a xs) (omega (arith, length-drop a xs))) ∙ ap (λ l. take a xs ++ l) (append-nil ys)

module _ {M R : Type 0} (row : M → R) where
  -- what stands at the start
  pub stands_none : (base n : ℕ) (ls : List Line) (xs : List M) → base + n ≤ length ls → length xs ≡ length ls → Stands row base ls xs (behind row base n ls xs) ls xs n
  stands_none base n ls xs h e = record { same_lines = refl; same_times = refl; lines_length = refl; times_length = e; room = h; stand = refl }

  -- one step after another: F is what the step does to what stands
  pub stands_then : (base : ℕ) (l0 l1 l2 : List Line) (x0 x1 x2 : List M) (t u : List (sheets.Line R)) (n : ℕ) (r : Option ℕ) → Stands row base l0 x0 t l1 x1 n → Filled row base l1 x1 u l2 x2 r → Filled row base l0 x0 u l2 x2 r
  stands_then base l0 l1 l2 x0 x1 x2 t u n None s f = omega (arith, f, s.lines_length)
  stands_then base l0 l1 l2 x0 x1 x2 t u n (Some k) s f =
      record {
        same_lines = f.same_lines ∙ s.same_lines;
        same_times = f.same_times ∙ s.same_times;
        lines_length = f.lines_length ∙ s.lines_length;
        times_length = f.times_length ∙ s.lines_length;
        room = omega (arith, f.room, s.lines_length);
        stand = f.stand;
      }

  pub front_same : (base : ℕ) (l0 l1 : List Line) (x0 x1 : List M) (t : List (sheets.Line R)) (n : ℕ) → Stands row base l0 x0 t l1 x1 n → front row base l1 x1 ≡ front row base l0 x0
  front_same base l0 l1 x0 x1 t n s = ap₂ (views row) s.same_lines s.same_times

  -- the line at i
  pub front_at : (base i : ℕ) (ls : List Line) (xs : List M) (y : M) → i < base → base ≤ length ls → length xs ≡ length ls → y ≡ get_or xs i y → segment i 1 (front row base ls xs) ≡ view row (get_or ls i past_line) y ∷ []
  front_at zero i ls xs y h b e r = absurd (omega arith)
  front_at (suc base) i [] xs y h b e r = absurd (omega arith)
  front_at (suc base) i (l ∷ ls) [] y h b e r = absurd (omega arith)
  front_at (suc base) zero (l ∷ ls) (x ∷ xs) y h b e r = ap (λ z. view row l z ∷ []) (sym r)
  front_at (suc base) (suc i) (l ∷ ls) (x ∷ xs) y h b e r = front_at base i ls xs y (omega arith) (omega arith) (omega arith) r

  pub all_at : (P : sheets.Line R → Type 0) (base i : ℕ) (ls : List Line) (xs : List M) (y : M) → i < base → base ≤ length ls → length xs ≡ length ls → y ≡ get_or xs i y → AllByRecursion P (front row base ls xs) → P (view row (get_or ls i past_line) y)
  all_at P zero i ls xs y h b e r a = absurd (omega arith)
  all_at P (suc base) i [] xs y h b e r a = absurd (omega arith)
  all_at P (suc base) i (l ∷ ls) [] y h b e r a = absurd (omega arith)
  all_at P (suc base) zero (l ∷ ls) (x ∷ xs) y h b e r a = subst (λ z. P (view row l z)) (sym r) a.0
  all_at P (suc base) (suc i) (l ∷ ls) (x ∷ xs) y h b e r a = all_at P base i ls xs y (omega arith) (omega arith) (omega arith) r a.1

-- more lines may enter
pub entering_on : {M : Type 0} (m : Measure M) (base j n : ℕ) (l0 l1 : List Line) (x0 x1 : List M) (t : List (sheets.Line (Row m.width))) → Entering m base j l0 x0 → Stands m.row base l0 x0 t l1 x1 n → ByTag t → Entering m base n l1 x1
entering_on m base j n l0 l1 x0 x1 t e s p = record {
  few = e.few;
  room = omega (arith, s.room, s.lines_length);
  even = s.times_length ∙ sym s.lines_length;
  near = subst (λ (ls : List (sheets.Line (Row m.width))). Near m.width 256000000 ls) (sym (front_same m.row base l0 l1 x0 x1 t n s)) e.near;
  sorted = subst ByTag (sym s.stand) p;
}

-- ---- segments
segment_add : {X : Type 0} (a n k : ℕ) (xs : List X) → segment a (n + k) xs ≡ segment a n xs ++ segment (a + n) k xs
segment_add a n k xs = take-add n k (drop a xs) ∙ ap (λ l. take n (drop a xs) ++ take k l) (drop-drop n a xs)

module _ {R : Type 0} (m : Rows R) where
  pub crossed_append : (h : Crossing R) (i : ℕ) (ls ks : List (sheets.Line R)) → crossed m h i (ls ++ ks) ≡ crossed m h i ls ++ crossed m h (i + length ls) ks
  crossed_append h i [] ks = let e : i ≡ i + 0 = omega arith in ap (λ n. crossed m h n ks) e
  crossed_append h i (l ∷ ls) ks = go (apart (crossing_tag h l.tag) h.ends) (crossed_append h (suc i) ls ks)
    where
      e : suc i + length ls ≡ i + suc (length ls)
      e = omega arith

      go : (t : Bool) → crossed m h (suc i) (ls ++ ks) ≡ crossed m h (suc i) ls ++ crossed m h (suc i + length ls) ks
          → cond t (crossing_line m h i l ∷ crossed m h (suc i) (ls ++ ks)) (crossed m h (suc i) (ls ++ ks))
          ≡ cond t (crossing_line m h i l ∷ crossed m h (suc i) ls) (crossed m h (suc i) ls) ++ crossed m h (i + suc (length ls)) ks
      go true r = ap (λ t. crossing_line m h i l ∷ t) (r ∙ ap (λ n. crossed m h (suc i) ls ++ crossed m h n ks) e)
      go false r = r ∙ ap (λ n. crossed m h (suc i) ls ++ crossed m h n ks) e

  -- k lines more
  pub crossed_more : (h : Crossing R) (a i k : ℕ) (f : List (sheets.Line R)) → a ≤ i → i ≤ length f
      → crossed m h a (segment a ((i - a) + k) f) ≡ crossed m h a (segment a (i - a) f) ++ crossed m h i (segment i k f)
  crossed_more h a i k f p q =
      let e : a + (i - a) ≡ i = omega arith in
      let l : length (segment a (i - a) f) ≡ i - a = length-take-le (i - a) (drop a f) (omega (arith, length-drop a f)) in
      ap (crossed m h a) (segment_add a (i - a) k f ∙ ap (λ j. segment a (i - a) f ++ segment j k f) e)
      ∙ crossed_append h a (segment a (i - a) f) (segment i k f)
      ∙ ap (λ j. crossed m h a (segment a (i - a) f) ++ crossed m h j (segment i k f)) (ap (λ n. a + n) l ∙ e)

  -- an arrival that is dropped, and one that is not
  pub crossed_dropped : (h : Crossing R) (i : ℕ) (l : sheets.Line R) → (bit_and (crossing_tag h l.tag) h.ends ≡ 0 → ⊥) → crossed m h i (l ∷ []) ≡ []
  crossed_dropped h i l n = ap (λ t. cond t (crossing_line m h i l ∷ []) []) (ne_eqb (bit_and (crossing_tag h l.tag) h.ends) 0 n)

  pub crossed_passed : (h : Crossing R) (i : ℕ) (l : sheets.Line R) → bit_and (crossing_tag h l.tag) h.ends ≡ 0 → crossed m h i (l ∷ []) ≡ crossing_line m h i l ∷ []
  crossed_passed h i l e = ap (λ t. cond t (crossing_line m h i l ∷ []) []) (eq-eqb (bit_and (crossing_tag h l.tag) h.ends) 0 e)

-- ---- one line crosses
pub some_at : {X : Type 0} (xs : List X) (i : ℕ) → i < length xs → (y : X) × (y ≡ get_or xs i y)
some_at [] i h = absurd (omega arith)
some_at (x ∷ xs) zero h = (x, refl)
some_at (x ∷ xs) (suc i) h = some_at xs i (omega arith)

module _ {M R : Type 0} (row : M → R) (m : Rows R) where
  pub line_dropped : (h : Crossing R) (base i n : ℕ) (ls : List Line) (xs : List M) → i < base → base + n ≤ length ls → length xs ≡ length ls
      → (bit_and (crossing_tag h (get_or ls i past_line).tag) h.ends ≡ 0 → ⊥)
      → Stands row base ls xs (entered m (crossed m h i (segment i 1 (front row base ls xs))) (behind row base n ls xs)) ls xs n
  line_dropped h base i n ls xs b r e d =
      let y = some_at xs i (omega arith) in
      let is : crossed m h i (segment i 1 (front row base ls xs)) ≡ [] =
      ap (crossed m h i) (front_at row base i ls xs y.0 b (omega arith) e y.1) ∙ crossed_dropped m h i (view row (get_or ls i past_line) y.0) d in
      subst (λ (cs : List (sheets.Line R)). Stands row base ls xs (entered m cs (behind row base n ls xs)) ls xs n) (sym is) (stands_none row base n ls xs r e)

  pub line_passed : (h : Crossing R) (base i n : ℕ) (ls : List Line) (xs : List M) (y : M) (c : sheets.Line R) (ls' : List Line) (xs' : List M) (r : Option ℕ) → i < base → base ≤ length ls → length xs ≡ length ls
      → bit_and (crossing_tag h (get_or ls i past_line).tag) h.ends ≡ 0 → y ≡ get_or xs i y → c ≡ crossing_line m h i (view row (get_or ls i past_line) y)
      → Filled row base ls xs (enter m c (behind row base n ls xs)) ls' xs' r
      → Filled row base ls xs (entered m (crossed m h i (segment i 1 (front row base ls xs))) (behind row base n ls xs)) ls' xs' r
  line_passed h base i n ls xs y c ls' xs' r b l e d is ce f =
      let v = view row (get_or ls i past_line) y in
      let eq : c ∷ [] ≡ crossed m h i (segment i 1 (front row base ls xs)) =
      ap (λ k. k ∷ []) ce ∙ sym (ap (crossed m h i) (front_at row base i ls xs y b l e is) ∙ crossed_passed m h i v d) in
      subst (λ (cs : List (sheets.Line R)). Filled row base ls xs (entered m cs (behind row base n ls xs)) ls' xs' r) eq f

  abbrev pub sofar : Crossing R → ℕ → ℕ → ℕ → ℕ → List Line → List M → List (sheets.Line R)
  sofar h a i base n ls xs = entered m (crossed m h a (segment a (i - a) (front row base ls xs))) (behind row base n ls xs)

  -- the lines so far, and then k more
  sofar_add : (h : Crossing R) (a i k base n : ℕ) (l0 : List Line) (x0 : List M) (l1 : List Line) (x1 : List M) (j : ℕ) → a ≤ i → i ≤ base → base ≤ length l0 → length x0 ≡ length l0
      → Stands row base l0 x0 (sofar h a i base n l0 x0) l1 x1 j
      → entered m (crossed m h i (segment i k (front row base l1 x1))) (behind row base j l1 x1) ≡ entered m (crossed m h a (segment a ((i - a) + k) (front row base l0 x0))) (behind row base n l0 x0)
  sofar_add h a i k base n l0 x0 l1 x1 j p q b e s =
      let f = front row base l0 x0 in
      ap₂ (λ g t. entered m (crossed m h i (segment i k g)) t) (front_same row base l0 l1 x0 x1 (sofar h a i base n l0 x0) j s) s.stand
      ∙ sym (entered_append m (crossed m h a (segment a (i - a) f)) (crossed m h i (segment i k f)) (behind row base n l0 x0))
      ∙ ap (λ cs. entered m cs (behind row base n l0 x0)) (sym (crossed_more m h a i k f p (omega (arith, q, length_front row m base l0 x0 b e))))

  pub crossing_more : (h : Crossing R) (a i base n : ℕ) (l0 : List Line) (x0 : List M) (l1 : List Line) (x1 : List M) (l2 : List Line) (x2 : List M) (j : ℕ) (r : Option ℕ) → a ≤ i → i < base → base ≤ length l0 → length x0 ≡ length l0
      → Stands row base l0 x0 (sofar h a i base n l0 x0) l1 x1 j
      → Filled row base l1 x1 (entered m (crossed m h i (segment i 1 (front row base l1 x1))) (behind row base j l1 x1)) l2 x2 r
      → Filled row base l0 x0 (sofar h a (i + 1) base n l0 x0) l2 x2 r
  crossing_more h a i base n l0 x0 l1 x1 l2 x2 j r p q b e s f =
      let z : (i - a) + 1 ≡ (i + 1) - a = omega arith in
      let eq = sofar_add h a i 1 base n l0 x0 l1 x1 j p (omega arith) b e s ∙ ap (λ k. entered m (crossed m h a (segment a k (front row base l0 x0))) (behind row base n l0 x0)) z in
      stands_then row base l0 l1 l2 x0 x1 x2 (sofar h a i base n l0 x0) (sofar h a (i + 1) base n l0 x0) j r s
      (subst (λ (t : List (sheets.Line R)). Filled row base l1 x1 t l2 x2 r) eq f)

  pub crossing_full : (h : Crossing R) (a i last base n : ℕ) (l0 : List Line) (x0 : List M) → a ≤ i → i ≤ last → last ≤ base → base ≤ length l0 → length x0 ≡ length l0
      → length l0 < base + length (sofar h a i base n l0 x0) → length l0 < base + length (sofar h a last base n l0 x0)
  crossing_full h a i last base n l0 x0 p q u b e f =
      let g = front row base l0 x0 in
      let z : (i - a) + (last - i) ≡ last - a = omega arith in
      let more = crossed_more m h a i (last - i) g p (omega (arith, q, u, length_front row m base l0 x0 b e)) in
      let eq = ap (λ k. entered m (crossed m h a (segment a k g)) (behind row base n l0 x0)) (sym z) ∙ ap (λ cs. entered m cs (behind row base n l0 x0)) more
      ∙ entered_append m (crossed m h a (segment a (i - a) g)) (crossed m h i (segment i (last - i) g)) (behind row base n l0 x0) in
      omega (arith, f, ap length eq, entered_grows m (crossed m h i (segment i (last - i) g)) (sofar h a i base n l0 x0))
