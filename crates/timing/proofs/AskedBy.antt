-- What the lines beyond its arcs ask of a line: the model's words, and the tables' marks.
use Rattle.std.proofs.Common.{◌≡◌, ℕ, zero, suc, ◌+◌, ◌-◌, ◌<◌, ◌≤◌, Bool, true, false, cond, eqb, List, [], ◌∷◌, ◌++◌, map, length, get_or, take, drop, Some, None, Option, sym, refl, ap, ◌∙◌, subst, ap₂, inl, inr, arith, option_to_list}
use lib.Bits.{bit_and, bit_or}
use Rattle.std.specs.List.{AllByRecursion, flat_map}
use Rattle.std.proofs.lemmas.List.{append-nil, append_assoc, length-append, length-drop, drop-append-le, drop_at, drop-drop, drop-map}
use Rattle.std.proofs.ByRecursion.{All-drop, All-weaker}
use Rattle.std.proofs.lemmas.Bool.{eq-eqb, eqb-true}
use Rattle.graph.specs.declared.parts.LiveArc.{LiveArc}
use Rattle.graph.specs.declared.parts.ArcEnd.TheVariants.{Tail}
use Rattle.graph.specs.Sorting.{segment}
use Rattle.graph.specs.Index.{numbers_at}
use Rattle.paths.specs.Rows.{Rows}
use Rattle.paths.specs.Tags.{apart}
use Rattle.paths.specs.Blocks.{Arc, RowBlock, pass, passes}
use Rattle.paths.specs.Sheets as sheets
use Rattle.paths.specs.Sheets.{first_least, ended, asks, asked_over, asked_by, arrivals, timed}
use Rattle.paths.specs.Relations.{Precedes, InOrder}
use Rattle.paths.proofs.RowLaws.{Laws}
use Rattle.paths.proofs.Choosing.{in_all}
use Rattle.paths.proofs.Arriving.{arrivals_right, arrivals_order}
use Rattle.timing.specs.declared.crossing.Crossing.{Crossing}
use Rattle.timing.specs.Crossings.{crossing_tag}
use Rattle.timing.specs.WithRows.{arc_with, arcs_with}
use Rattle.timing.specs.Bringing.{crossing_of}
use Rattle.timing.specs.Requiring.{Mark, ask_of, asked_of, asked_through, asked_at}
use Rattle.timing.specs.RequiredFrom.{FirstsAre}
use Rattle.timing.proofs.Blocks.{Listed, all_listed, begins_same, ends_same}
use Rattle.timing.proofs.Arriving.{lines_at, own_nodes, later, arrivals_grow, first_next, joined_same}

-- what is asked of a line of a sheet, and its tag
abbrev pub mark : {R : Type 0} → sheets.Timed R → Mark R
mark t = record { tag = t.line.tag; required = t.required }

-- ---- lists
order_behind : {R : Type 0} (xs ys : List (sheets.Line R)) → InOrder (xs ++ ys) → InOrder ys
order_behind [] ys o = o
order_behind (x ∷ xs) ys o = order_behind xs ys o.1

one_asks : {R : Type 0} (m : Rows R) (x : Arc R) (h : Crossing R) → x.number ≡ h.arc → x.row ≡ h.row → (k : ℕ) (o : Option (sheets.Told R)) → asks m x k o ≡ option_to_list (ask_of m h k o)
one_asks m x h p q k None = refl
one_asks {R} m x h p q k (Some y) = let f : ℕ → R → List (sheets.Told R) = λ a z. record { row = m.plus y.row (m.opposite z); arc = a; line = k } ∷ [] in ap₂ f p q

module _ {R : Type 0} (m : Rows R) (b : RowBlock R) where
  pub timed_drop : (d k : ℕ) (ls : List (sheets.Line R)) → drop d (timed m b k ls) ≡ timed m b (k + d) (drop d ls)
  timed_drop zero k ls = let z : k ≡ k + 0 = omega arith in ap (λ n. timed m b n ls) z
  timed_drop (suc d) k [] = refl
  timed_drop (suc d) k (l ∷ ls) = let z : suc k + d ≡ k + suc d = omega arith in timed_drop d (suc k) ls ∙ ap (λ n. timed m b n (drop d ls)) z

  -- what is asked of the line p, numbered k, by the lines ts behind it
  abbrev pub asked_here : sheets.Line R → ℕ → List (sheets.Timed R) → Option (sheets.Told R)
  asked_here p k ts = first_least m (ended (b.end p.node) ++ asked_by m b p b.arcs (suc k) ts)

  -- ---- over one arc
  module _ (l : sheets.Line R) (x : Arc R) where
    -- p is not the line that the arc leads to
    abbrev Other : sheets.Line R → Type 0
    Other p = p.node ≡ x.to → p.tag ≡ pass b l.tag x → ⊥

    over_others : (k : ℕ) (ps qs : List (sheets.Line R)) → AllByRecursion Other ps → asked_over m b l x k (timed m b k (ps ++ qs)) ≡ asked_over m b l x (k + length ps) (timed m b (k + length ps) qs)
    over_others k [] qs a = let z : k ≡ k + 0 = omega arith in ap (λ n. asked_over m b l x n (timed m b n qs)) z
    over_others k (p ∷ ps) qs a =
        go (eqb p.node x.to) (eqb p.tag (pass b l.tag x)) (asks m x k (asked_here p k (timed m b (suc k) (ps ++ qs)))) refl refl (over_others (suc k) ps qs a.1)
      where
        rest : List (sheets.Told R)
        rest = asked_over m b l x (suc k) (timed m b (suc k) (ps ++ qs))

        to_go : ℕ → List (sheets.Told R)
        to_go n = asked_over m b l x n (timed m b n qs)

        z : suc k + length ps ≡ k + suc (length ps)
        z = omega arith

        go : (s t : Bool) (own : List (sheets.Told R)) → eqb p.node x.to ≡ s → eqb p.tag (pass b l.tag x) ≡ t → rest ≡ to_go (suc k + length ps) → cond s (cond t (own ++ rest) rest) rest ≡ to_go (k + suc (length ps))
        go true true own e f r = absurd (a.0 (eqb-true p.node x.to e) (eqb-true p.tag (pass b l.tag x) f))
        go true false own e f r = r ∙ ap to_go z
        go false t own e f r = r ∙ ap to_go z

    over_none : (k : ℕ) (ps : List (sheets.Line R)) → AllByRecursion Other ps → asked_over m b l x k (timed m b k ps) ≡ []
    over_none k ps a = ap (λ ls. asked_over m b l x k (timed m b k ls)) (sym (append-nil ps)) ∙ over_others k ps [] a

    -- of the lines ns of the node that the arc leads to, one at most has the tag
    over_own : (h : Crossing R) → ((k : ℕ) (o : Option (sheets.Told R)) → asks m x k o ≡ option_to_list (ask_of m h k o)) → (k : ℕ) (ns qs : List (sheets.Line R)) → InOrder (ns ++ qs)
        → AllByRecursion (λ (p : sheets.Line R). p.node ≡ x.to) ns → AllByRecursion (λ (p : sheets.Line R). p.node ≡ x.to → ⊥) qs
        → asked_over m b l x k (timed m b k (ns ++ qs)) ≡ option_to_list (asked_of m h (pass b l.tag x) k (take (length ns) (map mark (timed m b k (ns ++ qs)))))
    over_own h same k [] qs o a z = over_none k qs (All-weaker (λ (p : sheets.Line R). p.node ≡ x.to → ⊥) Other (λ p f e _. f e) qs z)
    over_own h same k (n ∷ ns) qs o a z =
        ap (λ s. cond s (cond (eqb n.tag t) (asks m x k own ++ rest) rest) rest) (eq-eqb n.node x.to a.0)
        ∙ go (eqb n.tag t) refl (over_own h same (suc k) ns qs o.1 a.1 z)
      where
        t : ℕ
        t = pass b l.tag x

        ts : List (sheets.Timed R)
        ts = timed m b (suc k) (ns ++ qs)

        own : Option (sheets.Told R)
        own = asked_here n k ts

        rest : List (sheets.Told R)
        rest = asked_over m b l x (suc k) ts

        found : Option (sheets.Told R)
        found = asked_of m h t (suc k) (take (length ns) (map mark ts))

        behind : n.tag ≡ t → (p : sheets.Line R) → Precedes n p → Other p
        behind e p (inl q) f u = omega (arith, q, f, a.0)
        behind e p (inr q) f u = omega (arith, q.1, u, e)

        go : (s : Bool) → eqb n.tag t ≡ s → rest ≡ option_to_list found → cond s (asks m x k own ++ rest) rest ≡ option_to_list (cond s (ask_of m h k own) found)
        go true e r =
            ap (λ c. asks m x k own ++ c) (over_none (suc k) (ns ++ qs) (All-weaker (Precedes n) Other (behind (eqb-true n.tag t e)) (ns ++ qs) o.0))
            ∙ append-nil (asks m x k own) ∙ same k own
        go false e r = r

    -- where the lines of that node stand behind the line numbered i
    pub over_beyond : (laws : Laws m) (h : Crossing R) → ((k : ℕ) (o : Option (sheets.Told R)) → asks m x k o ≡ option_to_list (ask_of m h k o)) → (n i : ℕ) → x.to < n → i ≤ length (arrivals m b x.to)
        → asked_over m b l x i (timed m b i (drop i (arrivals m b n)))
        ≡ option_to_list (asked_of m h (pass b l.tag x) (length (arrivals m b x.to)) (take (length (lines_at m b laws x.to)) (map mark (timed m b (length (arrivals m b x.to)) (drop (length (arrivals m b x.to)) (arrivals m b n))))))
    over_beyond laws h same n i below le =
        let u = x.to in
        let k = later m b laws u n below in
        let A = arrivals m b u in
        let N = lines_at m b laws u in
        let Q = k.lines in
        let parts : arrivals m b n ≡ A ++ (N ++ Q) = k.parts ∙ append_assoc A N Q in
        let P = drop i A in
        let z : i + length P ≡ length A = omega (arith, length-drop i A) in
        let before : AllByRecursion (λ (p : sheets.Line R). p.node < u) A = in_all (λ (p : sheets.Line R). p.node < u) A (λ p j. (arrivals_right m b laws u p j).node_below) in
        ap (λ ls. asked_over m b l x i (timed m b i ls)) (ap (drop i) parts ∙ drop-append-le i A (N ++ Q) le)
        ∙ over_others i P (N ++ Q) (All-weaker (λ (p : sheets.Line R). p.node < u) Other (λ p q e _. omega (arith, q, e)) P (All-drop (λ (p : sheets.Line R). p.node < u) i A before))
        ∙ ap (λ j. asked_over m b l x j (timed m b j (N ++ Q))) z
        ∙ over_own h same (length A) N Q (order_behind A (N ++ Q) (subst InOrder parts (arrivals_order m b laws n))) (own_nodes m b laws u)
        (All-weaker (λ (p : sheets.Line R). u < p.node) (λ (p : sheets.Line R). p.node ≡ u → ⊥) (λ p q e. omega (arith, q, e)) Q k.above)
        ∙ ap (λ ls. option_to_list (asked_of m h (pass b l.tag x) (length A) (take (length N) (map mark (timed m b (length A) ls))))) (sym (ap (drop (length A)) parts ∙ drop_at A (N ++ Q) (length A) refl))

  -- ---- over all arcs from a node
  module _ (rows : List R) (l : sheets.Line R) (i : ℕ) (ts : List (sheets.Timed R)) where
    -- what is asked over the arc numbered k, if it is live
    abbrev pub asked_from : ℕ → Option LiveArc → List (sheets.Told R)
    asked_from k None = []
    asked_from k (Some e) = cond (passes b l.tag (arc_with m.origin rows k e)) (asked_over m b l (arc_with m.origin rows k e) i ts) []

    pub by_numbers : (arcs : List (Option LiveArc)) (k : ℕ) (es : List (Option LiveArc)) → ((j : ℕ) → get_or arcs (k + j) None ≡ get_or es j None)
        → asked_by m b l (arcs_with m.origin rows k es) i ts ≡ flat_map (λ j. asked_from j (get_or arcs j None)) (numbers_at Tail l.node k es)
    by_numbers arcs k [] at = refl
    by_numbers arcs k (None ∷ es) at = by_numbers arcs (suc k) es (λ j. let z : suc k + j ≡ k + suc j = omega arith in ap (λ n. get_or arcs n None) z ∙ at (suc j))
    by_numbers arcs k (Some e ∷ es) at =
        go (eqb e.from l.node) (passes b l.tag x) here (by_numbers arcs (suc k) es (λ j. let z : suc k + j ≡ k + suc j = omega arith in ap (λ n. get_or arcs n None) z ∙ at (suc j)))
      where
        x : Arc R
        x = arc_with m.origin rows k e

        f : ℕ → List (sheets.Told R)
        f j = asked_from j (get_or arcs j None)

        over : List (sheets.Told R)
        over = asked_over m b l x i ts

        rest : List (sheets.Told R)
        rest = asked_by m b l (arcs_with m.origin rows (suc k) es) i ts

        more : List ℕ
        more = numbers_at Tail l.node (suc k) es

        here : f k ≡ cond (passes b l.tag x) over []
        here = let z : k ≡ k + 0 = omega arith in ap (asked_from k) (ap (λ n. get_or arcs n None) z ∙ at 0)

        go : (s p : Bool) → f k ≡ cond p over [] → rest ≡ flat_map f more → cond s (cond p (over ++ rest) rest) rest ≡ flat_map f (cond s (k ∷ more) more)
        go true true h r = ap₂ (λ u w. u ++ w) (sym h) r
        go true false h r = r ∙ ap (λ u. u ++ flat_map f more) (sym h)
        go false p h r = r

  -- ---- by the tables
  module _ (laws : Laws m) (arcs : List (Option LiveArc)) (rows : List R) (q : b.arcs ≡ arcs_with m.origin rows 0 arcs) (n : ℕ)
      (rising : (k : ℕ) (e : LiveArc) → get_or arcs k None ≡ Some e → e.from < e.to) (below : (k : ℕ) (e : LiveArc) → get_or arcs k None ≡ Some e → e.to < n) (firsts : List ℕ) (at : FirstsAre m b n firsts) where
    pub first_after : (u : ℕ) → u < n → get_or firsts (u + 1) 0 ≡ length (arrivals m b u) + length (lines_at m b laws u)
    first_after u h = first_next m b laws firsts u n h at ∙ length-append (arrivals m b u) (lines_at m b laws u)

    pub firsts_rise : (u v : ℕ) → u < v → v < n → get_or firsts (u + 1) 0 ≤ length (arrivals m b v)
    firsts_rise u v h k = omega (arith, first_next m b laws firsts u n (omega arith) at, arrivals_grow m b laws u v h)

    pass_is : (k : ℕ) (e : LiveArc) (s : ℕ) → pass b s (arc_with m.origin rows k e) ≡ crossing_tag (crossing_of m arcs rows k e) s
    unfolding pass
    pass_is k e s = ap (λ g. bit_and (bit_or s g) e.sets) (begins_same m.origin rows b arcs e.from q)

    passes_is : (k : ℕ) (e : LiveArc) (s : ℕ) → passes b s (arc_with m.origin rows k e) ≡ apart (crossing_tag (crossing_of m arcs rows k e) s) (crossing_of m arcs rows k e).ends
    unfolding passes
    passes_is k e s = ap₂ apart (pass_is k e s) (ends_same m.origin rows b arcs e.to q)

    -- the marks behind the line numbered i are those of the model
    module _ (l : sheets.Line R) (i : ℕ) (xs : List (Mark R)) (marked : drop i xs ≡ map mark (timed m b i (drop i (arrivals m b n)))) where
      marked_from : (d : ℕ) → drop (i + d) xs ≡ map mark (timed m b (i + d) (drop (i + d) (arrivals m b n)))
      marked_from d =
          let A = arrivals m b n in
          sym (drop-drop d i xs)
          ∙ ap (drop d) marked
          ∙ drop-map mark d (timed m b i (drop i A))
          ∙ ap (map mark) (timed_drop d i (drop i A) ∙ ap (timed m b (i + d)) (drop-drop d i A))

      lift : (p : Bool) (ys : List (sheets.Told R)) (o : Option (sheets.Told R)) → ys ≡ option_to_list o → cond p ys [] ≡ option_to_list (cond p o None)
      lift true ys o e = e
      lift false ys o e = refl

      over_tables : (k : ℕ) (e : LiveArc) → get_or arcs k None ≡ Some e → i ≤ length (arrivals m b e.to)
          → asked_from rows l i (timed m b i (drop i (arrivals m b n))) k (Some e) ≡ option_to_list (asked_through m arcs rows firsts xs l.tag k (Some e))
      over_tables k e live le =
          let x = arc_with m.origin rows k e in
          let h = crossing_of m arcs rows k e in
          let A = arrivals m b n in
          let F = length (arrivals m b e.to) in
          let N = lines_at m b laws e.to in
          let T = timed m b i (drop i A) in
          let lt : e.to < n = below k e live in
          let first : F ≡ get_or firsts e.to 0 = sym (at e.to (omega arith)) in
          let z : i + (F - i) ≡ F = omega arith in
          let count : length N ≡ get_or firsts (e.to + 1) 0 - F = omega (arith, first_after e.to lt) in
          let told : asked_over m b l x i T ≡ option_to_list (asked_of m h (crossing_tag h l.tag) (get_or firsts e.to 0) (segment (get_or firsts e.to 0) (get_or firsts (e.to + 1) 0 - get_or firsts e.to 0) xs)) =
          over_beyond l x laws h (one_asks m x h refl refl) n i lt le
          ∙ ap₂ (λ t ys. option_to_list (asked_of m h t F (take (length N) ys))) (pass_is k e l.tag) (sym (ap (λ j. drop j xs) (sym z) ∙ marked_from (F - i) ∙ ap (λ j. map mark (timed m b j (drop j A))) z))
          ∙ ap (λ c. option_to_list (asked_of m h (crossing_tag h l.tag) F (take c (drop F xs)))) count
          ∙ ap (λ f. option_to_list (asked_of m h (crossing_tag h l.tag) f (segment f (get_or firsts (e.to + 1) 0 - f) xs))) first in
          ap (λ p. cond p (asked_over m b l x i T) []) (passes_is k e l.tag)
          ∙ lift (apart (crossing_tag h l.tag) h.ends) (asked_over m b l x i T) _ told

      pub by_tables : (v : ℕ) → l.node ≡ v → v < n → i ≤ get_or firsts (v + 1) 0
          → asked_by m b l b.arcs i (timed m b i (drop i (arrivals m b n))) ≡ flat_map (λ k. option_to_list (asked_at m arcs rows firsts xs l.tag k)) (numbers_at Tail v 0 arcs)
      by_tables v e h le =
          let T = timed m b i (drop i (arrivals m b n)) in
          ap (λ es. asked_by m b l es i T) q
          ∙ by_numbers rows l i T arcs 0 arcs (λ j. let z : 0 + j ≡ j = omega arith in ap (λ k. get_or arcs k None) z)
          ∙ ap (λ u. flat_map (λ j. asked_from rows l i T j (get_or arcs j None)) (numbers_at Tail u 0 arcs)) e
          ∙ joined_same (λ j. asked_from rows l i T j (get_or arcs j None)) (λ k. option_to_list (asked_at m arcs rows firsts xs l.tag k)) (numbers_at Tail v 0 arcs)
          (All-weaker (Listed Tail v arcs) (λ k. asked_from rows l i T k (get_or arcs k None) ≡ option_to_list (asked_at m arcs rows firsts xs l.tag k)) each (numbers_at Tail v 0 arcs) (all_listed Tail v arcs))
        where
          each : (k : ℕ) → Listed Tail v arcs k → asked_from rows l i (timed m b i (drop i (arrivals m b n))) k (get_or arcs k None) ≡ option_to_list (asked_at m arcs rows firsts xs l.tag k)
          each k p =
              let T = timed m b i (drop i (arrivals m b n)) in
              let lt : v < p.arc.to = omega (arith, rising k p.arc p.live, p.at) in
              ap (asked_from rows l i T k) p.live
              ∙ over_tables k p.arc p.live (omega (arith, le, firsts_rise v p.arc.to lt (below k p.arc p.live)))
              ∙ ap (λ o. option_to_list (asked_through m arcs rows firsts xs l.tag k o)) (sym p.live)
