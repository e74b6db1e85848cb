-- The arrivals of the model, as the pass computes them.
use Rattle.std.proofs.Common.{◌≡◌, ℕ, zero, suc, ◌+◌, ◌-◌, ◌<◌, ◌≤◌, Bool, true, false, cond, eqb, ◌⊎◌, List, [], ◌∷◌, ◌++◌, length, get_or, take, drop, Some, None, Option, sym, refl, ap, ◌∙◌, ap₂, inl, inr, arith}
use Rattle.std.specs.List.{AllByRecursion, flat_map}
use Rattle.std.proofs.lemmas.List.{append-nil, append_assoc, length-append, take_at, drop_at}
use Rattle.std.proofs.ByRecursion.{All-append, All-weaker}
use Rattle.std.proofs.lemmas.Bool.{ne_eqb, cases_eq}
use Rattle.graph.specs.declared.parts.LiveArc.{LiveArc}
use Rattle.graph.specs.declared.parts.ArcEnd.TheVariants.{Head}
use Rattle.graph.specs.Sorting.{segment}
use Rattle.graph.specs.Index.{numbers_at}
use Rattle.paths.specs.Rows.{Rows}
use Rattle.paths.specs.Blocks.{Arc, RowBlock, passes}
use Rattle.paths.specs.Sheets as sheets
use Rattle.paths.specs.Sheets.{entered, sent, over, into, arrivals}
use Rattle.paths.proofs.RowLaws.{Laws}
use Rattle.paths.proofs.Choosing.{in_all}
use Rattle.paths.proofs.Arriving.{candidates, arrivals_right, line_right, fresh}
use Rattle.timing.specs.Crossings.{crossed}
use Rattle.timing.specs.WithRows.{arcs_with, arc_with}
use Rattle.timing.specs.Bringing.{AllReady, crossing_of, brought_over, brought}
use Rattle.timing.proofs.Blocks.{Listed, all_listed, over_at, into_numbers, over_crossed}

-- ---- lists
pub all_get_d : {X : Type 0} (P : X → Type 0) (xs : List X) (i : ℕ) (d : X) → i < length xs → AllByRecursion P xs → P (get_or xs i d)
all_get_d P [] i d h a = absurd (omega arith)
all_get_d P (x ∷ xs) zero d h a = a.0
all_get_d P (x ∷ xs) (suc i) d h a = all_get_d P xs i d (omega arith) a.1

pub joined_same : {X : Type 0} (f g : ℕ → List X) (ks : List ℕ) → AllByRecursion (λ k. f k ≡ g k) ks → flat_map f ks ≡ flat_map g ks
joined_same f g [] a = refl
joined_same f g (k ∷ ks) a = ap₂ (λ x y. x ++ y) a.0 (joined_same f g ks a.1)

-- ---- the lines of each node
module _ {R : Type 0} (m : Rows R) (b : RowBlock R) (laws : Laws m) where
  abbrev pub lines_at : ℕ → List (sheets.Line R)
  lines_at v = entered m (candidates m b v) []

  pub own_nodes : (v : ℕ) → AllByRecursion (λ (l : sheets.Line R). l.node ≡ v) (lines_at v)
  own_nodes v = in_all (λ (l : sheets.Line R). l.node ≡ v) (lines_at v) (λ l i. (line_right m b v (arrivals_right m b laws v) l (fresh m b laws v l i)).0)

  pub nodes_below : (v : ℕ) → AllByRecursion (λ (l : sheets.Line R). l.node < v) (arrivals m b v)
  nodes_below v = in_all (λ (l : sheets.Line R). l.node < v) (arrivals m b v) (λ l i. (arrivals_right m b laws v l i).node_below)

  -- the lines of the nodes above u and below v
  pub record Later (u v : ℕ) : Type 0 where
    pub lines : List (sheets.Line R)
    pub parts : arrivals m b v ≡ (arrivals m b u ++ lines_at u) ++ lines
    pub above : AllByRecursion (λ (l : sheets.Line R). u < l.node) lines

  pub later : (u v : ℕ) → u < v → Later u v
  later u zero h = absurd (omega arith)
  later u (suc w) h = go (cases_eq u w) (λ l. later u w l)
    where
      go : (u ≡ w) ⊎ (u ≡ w → ⊥) → (u < w → Later u w) → Later u (suc w)
      go (inl e) r = record { lines = []; parts = ap (λ x. arrivals m b x ++ lines_at x) (sym e) ∙ sym (append-nil (arrivals m b u ++ lines_at u)); above = tt }
      go (inr n) r =
          let k = r (omega (arith, n)) in
          record {
            lines = k.lines ++ lines_at w;
            parts = ap (λ x. x ++ lines_at w) k.parts ∙ append_assoc (arrivals m b u ++ lines_at u) k.lines (lines_at w);
            above = All-append (λ (l : sheets.Line R). u < l.node) k.lines (lines_at w) k.above
                (All-weaker (λ (l : sheets.Line R). l.node ≡ w) (λ (l : sheets.Line R). u < l.node) (λ l e. omega (arith, n)) (lines_at w) (own_nodes w));
          }

  pub arrivals_grow : (u v : ℕ) → u < v → length (arrivals m b u ++ lines_at u) ≤ length (arrivals m b v)
  arrivals_grow u v h = let k = later u v h in omega (arith, ap length k.parts, length-append (arrivals m b u ++ lines_at u) k.lines)

  -- ---- over an arc, from the lines of one node alone
  over_append : (e : Arc R) (i : ℕ) (xs ys : List (sheets.Line R)) → over m b e i (xs ++ ys) ≡ over m b e i xs ++ over m b e (i + length xs) ys
  over_append e i [] ys = let z : i ≡ i + 0 = omega arith in ap (λ n. over m b e n ys) z
  over_append e i (x ∷ xs) ys = go (eqb x.node e.from) (passes b x.tag e) (over_append e (suc i) xs ys)
    where
      z : suc i + length xs ≡ i + suc (length xs)
      z = omega arith

      tail : List (sheets.Line R)
      tail = over m b e (suc i) (xs ++ ys)

      first : List (sheets.Line R)
      first = over m b e (suc i) xs

      back : List (sheets.Line R)
      back = over m b e (i + suc (length xs)) ys

      go : (p q : Bool) → tail ≡ first ++ over m b e (suc i + length xs) ys → cond p (cond q (sent m b e i x ∷ tail) tail) tail ≡ cond p (cond q (sent m b e i x ∷ first) first) first ++ back
      go true true r = ap (λ l. sent m b e i x ∷ l) (r ∙ ap (λ n. first ++ over m b e n ys) z)
      go true false r = r ∙ ap (λ n. first ++ over m b e n ys) z
      go false q r = r ∙ ap (λ n. first ++ over m b e n ys) z

  over_none : (e : Arc R) (i : ℕ) (ls : List (sheets.Line R)) → AllByRecursion (λ (l : sheets.Line R). l.node ≡ e.from → ⊥) ls → over m b e i ls ≡ []
  over_none e i [] a = refl
  over_none e i (l ∷ ls) a =
      ap (λ t. cond t (cond (passes b l.tag e) (sent m b e i l ∷ over m b e (suc i) ls) (over m b e (suc i) ls)) (over m b e (suc i) ls)) (ne_eqb l.node e.from a.0)
      ∙ over_none e (suc i) ls a.1

  over_tail : (e : Arc R) (u v : ℕ) → e.from ≡ u → u < v → over m b e 0 (arrivals m b v) ≡ over m b e (length (arrivals m b u)) (lines_at u)
  over_tail e u v s h =
      let k = later u v h in
      let A = arrivals m b u in
      let N = lines_at u in
      let z : 0 + length A ≡ length A = omega arith in
      ap (over m b e 0) k.parts
      ∙ over_append e 0 (A ++ N) k.lines
      ∙ ap (λ l. over m b e 0 (A ++ N) ++ l)
      (over_none e (0 + length (A ++ N)) k.lines (All-weaker (λ (l : sheets.Line R). u < l.node) (λ (l : sheets.Line R). l.node ≡ e.from → ⊥) (λ l p q. omega arith) k.lines k.above))
      ∙ append-nil (over m b e 0 (A ++ N))
      ∙ over_append e 0 A N
      ∙ ap (λ l. l ++ over m b e (0 + length A) N)
      (over_none e 0 A (All-weaker (λ (l : sheets.Line R). l.node < u) (λ (l : sheets.Line R). l.node ≡ e.from → ⊥) (λ l p q. omega arith) A (nodes_below u)))
      ∙ ap (λ n. over m b e n N) z

  pub segment_at : (u v : ℕ) → u < v → segment (length (arrivals m b u)) (length (arrivals m b u ++ lines_at u) - length (arrivals m b u)) (arrivals m b v) ≡ lines_at u
  segment_at u v h =
      let k = later u v h in
      let A = arrivals m b u in
      let N = lines_at u in
      let z : length (A ++ N) - length A ≡ length N = omega (arith, length-append A N) in
      ap₂ (λ n l. take n (drop (length A) l)) z (k.parts ∙ append_assoc A N k.lines)
      ∙ ap (take (length N)) (drop_at A (N ++ k.lines) (length A) refl)
      ∙ take_at N k.lines (length N) refl

  -- where the lines of each node begin, for the nodes up to v
  abbrev pub Firsts : List ℕ → ℕ → Type 0
  Firsts firsts v = (u : ℕ) → u ≤ v → get_or firsts u 0 ≡ length (arrivals m b u)

  pub first_next : (firsts : List ℕ) (u v : ℕ) → u < v → Firsts firsts v → get_or firsts (u + 1) 0 ≡ length (arrivals m b u ++ lines_at u)
  first_next firsts u v h f = let z : u + 1 ≡ suc u = omega arith in ap (λ n. get_or firsts n 0) z ∙ f (suc u) (omega arith)

  -- ---- the arcs to a node, by the tables
  module _ (arcs : List (Option LiveArc)) (rows : List R) (q : b.arcs ≡ arcs_with m.origin rows 0 arcs) (rising : (k : ℕ) (e : LiveArc) → get_or arcs k None ≡ Some e → e.from < e.to) where
    brought_is : (firsts : List ℕ) (v k : ℕ) → Firsts firsts v → Listed Head v arcs k → over_at m b rows (arrivals m b v) k (get_or arcs k None) ≡ brought m arcs rows firsts (arrivals m b v) k
    brought_is firsts v k f p =
        let e = p.arc in
        let u = e.from in
        let lt : u < v = omega (arith, rising k e p.live, p.at) in
        let A = length (arrivals m b u) in
        ap (over_at m b rows (arrivals m b v) k) p.live
        ∙ over_tail (arc_with m.origin rows k e) u v refl lt
        ∙ over_crossed m b rows arcs firsts k e A (lines_at u) q (own_nodes u)
        ∙ ap (crossed m (crossing_of m arcs rows k e) A) (sym (segment_at u v lt))
        ∙ ap₂ (λ x y. crossed m (crossing_of m arcs rows k e) x (segment x (y - x) (arrivals m b v))) (sym (f u (omega (arith, lt)))) (sym (first_next firsts u v lt f))
        ∙ ap (brought_over m arcs rows firsts (arrivals m b v) k) (sym p.live)

    pub into_is : (firsts : List ℕ) (v : ℕ) → Firsts firsts v → into m b v b.arcs (arrivals m b v) ≡ flat_map (brought m arcs rows firsts (arrivals m b v)) (numbers_at Head v 0 arcs)
    into_is firsts v f =
        ap (λ es. into m b v es (arrivals m b v)) q
        ∙ into_numbers m b rows arcs v 0 arcs (arrivals m b v) (λ i. let z : 0 + i ≡ i = omega arith in ap (λ n. get_or arcs n None) z)
        ∙ joined_same (λ k. over_at m b rows (arrivals m b v) k (get_or arcs k None)) (brought m arcs rows firsts (arrivals m b v)) (numbers_at Head v 0 arcs)
        (All-weaker (Listed Head v arcs) (λ k. over_at m b rows (arrivals m b v) k (get_or arcs k None) ≡ brought m arcs rows firsts (arrivals m b v) k) (λ k p. brought_is firsts v k f p)
        (numbers_at Head v 0 arcs) (all_listed Head v arcs))

    pub all_ready : (firsts : List ℕ) (v : ℕ) → Firsts firsts v → AllReady arcs firsts (length (arrivals m b v)) (numbers_at Head v 0 arcs)
    all_ready firsts v f i e h l =
        let p = all_get_d (Listed Head v arcs) (numbers_at Head v 0 arcs) i 0 h (all_listed Head v arcs) in
        let same : e ≡ p.arc = let s : Some e ≡ Some p.arc = sym l ∙ p.live in cc in
        let lt : e.from < v = omega (arith, rising _ e l, ap (λ (x : LiveArc). x.to) same, p.at) in
        record {
          rising = omega (arith, f e.from (omega (arith, lt)), first_next firsts e.from v lt f, length-append (arrivals m b e.from) (lines_at e.from));
          stand = omega (arith, first_next firsts e.from v lt f, arrivals_grow e.from v lt);
        }
