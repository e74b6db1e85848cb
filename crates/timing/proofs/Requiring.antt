-- What is asked of a line, step by step.
use Rattle.std.proofs.Common.{◌≡◌, ℕ, zero, suc, ◌+◌, ◌<◌, ◌≤◌, Bool, true, false, cond, eqb, List, [], ◌∷◌, ◌++◌, length, get_or, take, drop, Some, None, Option, sym, refl, ap, ◌∙◌, ap₂, arith, option_to_list}
use Rattle.std.specs.List.{flat_map, position, position_from}
use Rattle.std.proofs.lemmas.List.{take_more, append-nil, append_assoc, get_or-take, get_or-drop, length-drop, length-take-le}
use Rattle.std.proofs.lemmas.Grind.{flat_map-append}
use Rattle.std.proofs.lemmas.List.Quantifiers.{position-Some}
use Rattle.std.proofs.lemmas.Iterator.Adapters.{position_from-zero}
use Rattle.paths.specs.Rows.{Rows}
use Rattle.paths.specs.Sheets as sheets
use Rattle.paths.specs.Sheets.{least, first_least}
use Rattle.sheet.specs.declared.line.Line.{Line}
use Rattle.timing.specs.declared.crossing.Crossing.{Crossing}
use Rattle.graph.specs.Sorting.{segment}
use Rattle.sheet.specs.Lines.{past_line}
use Rattle.timing.proofs.Crossed.{some_at}
use Rattle.timing.specs.Requiring.{mark_of, marks, has_tag, pick, ask_of, asked_of}

get_or-segment : {X : Type 0} (a n r : ℕ) (xs : List X) (d : X) → r < n → get_or (segment a n xs) r d ≡ get_or xs (a + r) d
get_or-segment a n r xs d h = get_or-take n (drop a xs) r d h ∙ get_or-drop a xs r d

pub found_below : (t a n : ℕ) (ls : List Line) (r : ℕ) → a + n ≤ length ls → Some r ≡ position (has_tag t) (segment a n ls) → r < n
found_below t a n ls r le f = omega (arith, (position-Some (has_tag t) (segment a n ls) r past_line (sym f)).0, length-take-le n (drop a ls) (omega (arith, length-drop a ls)))

module _ {M R : Type 0} (row : M → R) (m : Rows R) where
  pub marks_drop : (a : ℕ) (ls : List Line) (ys : List M) → length ys ≡ length ls → drop a (marks row ls ys) ≡ marks row (drop a ls) (drop a ys)
  marks_drop zero ls ys e = refl
  marks_drop (suc a) [] ys e = refl
  marks_drop (suc a) (l ∷ ls) [] e = absurd (omega arith)
  marks_drop (suc a) (l ∷ ls) (y ∷ ys) e = marks_drop a ls ys (omega arith)

  marks_take : (n : ℕ) (ls : List Line) (ys : List M) → take n (marks row ls ys) ≡ marks row (take n ls) (take n ys)
  marks_take zero ls ys = refl
  marks_take (suc n) [] ys = refl
  marks_take (suc n) (l ∷ ls) [] = refl
  marks_take (suc n) (l ∷ ls) (y ∷ ys) = ap (λ t. mark_of row l y ∷ t) (marks_take n ls ys)

  marks_segment : (a n : ℕ) (ls : List Line) (ys : List M) → length ys ≡ length ls → segment a n (marks row ls ys) ≡ marks row (segment a n ls) (segment a n ys)
  marks_segment a n ls ys e = ap (take n) (marks_drop a ls ys e) ∙ marks_take n (drop a ls) (drop a ys)

  asked_none : (h : Crossing R) (t i j : ℕ) (ls : List Line) (ys : List M) → None ≡ position_from (has_tag t) i ls → asked_of m h t j (marks row ls ys) ≡ None
  asked_none h t i j [] ys e = refl
  asked_none h t i j (l ∷ ls) [] e = refl
  asked_none h t i j (l ∷ ls) (y ∷ ys) e = go (eqb l.tag t) e (asked_none h t (i + 1) (suc j) ls ys)
    where
      rest : Option (sheets.Told R)
      rest = asked_of m h t (suc j) (marks row ls ys)

      go : (b : Bool) → None ≡ cond b (Some i) (position_from (has_tag t) (i + 1) ls) → (None ≡ position_from (has_tag t) (i + 1) ls → rest ≡ None) → cond b (ask_of m h j (mark_of row l y).required) rest ≡ None
      go true f r = absurd (let z : ◌≡◌ {A = ℕ} 0 1 = cc in omega arith)
      go false f r = r f

  asked_found : (h : Crossing R) (t j r : ℕ) (ls : List Line) (ys : List M) (y : M) → r < length ls → length ys ≡ length ls → ((k : ℕ) → k < r → has_tag t (get_or ls k past_line) ≡ false) → has_tag t (get_or ls r past_line) ≡ true → y ≡ get_or ys r y
      → asked_of m h t j (marks row ls ys) ≡ ask_of m h (j + r) (mark_of row (get_or ls r past_line) y).required
  asked_found h t j r [] ys y b e f q i = absurd (omega arith)
  asked_found h t j r (x ∷ ls) [] y b e f q i = absurd (omega arith)
  asked_found h t j zero (x ∷ ls) (z ∷ ys) y b e f q i =
      let o : j ≡ j + 0 = omega arith in
      ap (λ c. cond c (ask_of m h j (mark_of row x z).required) (asked_of m h t (suc j) (marks row ls ys))) q ∙ ap₂ (λ k w. ask_of m h k (mark_of row x w).required) o (sym i)
  asked_found h t j (suc r) (x ∷ ls) (z ∷ ys) y b e f q i =
      let o : suc j + r ≡ j + suc r = omega arith in
      ap (λ c. cond c (ask_of m h j (mark_of row x z).required) (asked_of m h t (suc j) (marks row ls ys))) (f 0 (omega arith))
      ∙ asked_found h t (suc j) r ls ys y (omega arith) (omega arith) (λ k c. f (suc k) (omega arith)) q i
      ∙ ap (λ k. ask_of m h k (mark_of row (get_or ls r past_line) y).required) o

  -- among the n lines from a on
  module _ (h : Crossing R) (t a n : ℕ) (ls : List Line) (ys : List M) (e : length ys ≡ length ls) where
    pub line_none : None ≡ position (has_tag t) (segment a n ls) → None ≡ asked_of m h t a (segment a n (marks row ls ys))
    line_none f = sym (ap (asked_of m h t a) (marks_segment a n ls ys e) ∙ asked_none h t 0 a (segment a n ls) (segment a n ys) (f ∙ position_from-zero (has_tag t) (segment a n ls)))

    line_found : (r : ℕ) (y : M) → a + n ≤ length ls → Some r ≡ position (has_tag t) (segment a n ls) → y ≡ get_or ys (a + r) y
        → asked_of m h t a (segment a n (marks row ls ys)) ≡ ask_of m h (a + r) (mark_of row (get_or ls (a + r) past_line) y).required
    line_found r y le f i =
        let found = position-Some (has_tag t) (segment a n ls) r past_line (sym f) in
        let long : length (segment a n ls) ≡ n = length-take-le n (drop a ls) (omega (arith, length-drop a ls)) in
        let wide : length (segment a n ys) ≡ n = length-take-le n (drop a ys) (omega (arith, length-drop a ys, e)) in
        let in_part : r < n = omega (arith, found.0, long) in
        ap (asked_of m h t a) (marks_segment a n ls ys e)
        ∙ asked_found h t a r (segment a n ls) (segment a n ys) y found.0 (wide ∙ sym long) found.2 found.1 (i ∙ sym (get_or-segment a n r ys y in_part))
        ∙ ap (λ x. ask_of m h (a + r) (mark_of row x y).required) (get_or-segment a n r ls past_line in_part)

    -- the line that is found has no required time, and has one
    pub line_unasked : (r : ℕ) → a + n ≤ length ls → Some r ≡ position (has_tag t) (segment a n ls) → (get_or ls (a + r) past_line).required ≡ false → None ≡ asked_of m h t a (segment a n (marks row ls ys))
    line_unasked r le f q =
        let found = position-Some (has_tag t) (segment a n ls) r past_line (sym f) in
        let y = some_at ys (a + r) (omega (arith, found.0, e, length-take-le n (drop a ls) (omega (arith, length-drop a ls)))) in
        let l = get_or ls (a + r) past_line in
        sym (line_found r y.0 le f y.1 ∙ ap (λ c. ask_of m h (a + r) (cond c (Some (record { row = row y.0; arc = l.fore_arc; line = l.fore_line })) None)) q)

    pub line_asked : (r : ℕ) (y : M) (x : R) → a + n ≤ length ls → Some r ≡ position (has_tag t) (segment a n ls) → y ≡ get_or ys (a + r) y → (get_or ls (a + r) past_line).required ≡ true
        → x ≡ m.plus (row y) (m.opposite h.row) → Some (record { row = x; arc = h.arc; line = a + r }) ≡ asked_of m h t a (segment a n (marks row ls ys))
    line_asked r y x le f i q s =
        let l = get_or ls (a + r) past_line in
        ap (λ z. Some (record { row = z; arc = h.arc; line = a + r })) s
        ∙ sym (line_found r y le f i ∙ ap (λ c. ask_of m h (a + r) (cond c (Some (record { row = row y; arc = l.fore_arc; line = l.fore_line })) None)) q)

-- ---- one more that asks
module _ {R : Type 0} (m : Rows R) where
  least_push : (a : sheets.Told R) (cs : List (sheets.Told R)) (c : sheets.Told R) → least m a (cs ++ (c ∷ [])) ≡ cond (m.not_later (least m a cs).row c.row) (least m a cs) c
  least_push a [] c = refl
  least_push a (x ∷ cs) c = least_push (cond (m.not_later a.row x.row) a x) cs c

  pub pick_more : (cs : List (sheets.Told R)) (o : Option (sheets.Told R)) → pick m (first_least m cs) o ≡ first_least m (cs ++ option_to_list o)
  pick_more [] None = refl
  pick_more [] (Some c) = refl
  pick_more (a ∷ cs) None = ap (λ l. Some (least m a l)) (sym (append-nil cs))
  pick_more (a ∷ cs) (Some c) = ap Some (sym (least_push a cs c))

  pub asks_more : (cs : List (sheets.Told R)) (f : ℕ → Option (sheets.Told R)) (arcs : List ℕ) (i : ℕ) → i < length arcs
      → pick m (first_least m (cs ++ flat_map (λ k. option_to_list (f k)) (take i arcs))) (f (get_or arcs i 0)) ≡ first_least m (cs ++ flat_map (λ k. option_to_list (f k)) (take (i + 1) arcs))
  asks_more cs f arcs i h =
      pick_more (cs ++ flat_map (λ k. option_to_list (f k)) (take i arcs)) (f (get_or arcs i 0))
      ∙ ap (first_least m) (append_assoc cs (flat_map (λ k. option_to_list (f k)) (take i arcs)) (option_to_list (f (get_or arcs i 0)))
      ∙ ap (λ l. cs ++ l) (ap (λ l. flat_map (λ k. option_to_list (f k)) (take i arcs) ++ l) (sym (append-nil (option_to_list (f (get_or arcs i 0))))) ∙ sym (flat_map-append (λ k. option_to_list (f k)) (take i arcs) (get_or arcs i 0 ∷ [])) ∙ ap (flat_map (λ k. option_to_list (f k))) (sym (take_more arcs i 0 h))))
