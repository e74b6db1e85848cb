-- What the tables stand for, in the model's words.
use Rattle.std.proofs.Common.{◌≡◌, ℕ, zero, suc, ◌+◌, ◌*◌, ◌<◌, Bool, true, false, cond, not, ◌&&◌, ◌||◌, eqb, List, [], ◌∷◌, ◌++◌, get_or, Some, None, Option, sym, refl, ap, ◌∙◌, ap₂, arith}
use lib.Bits.{bit_and, bit_or}
use Rattle.std.specs.List.{AllByRecursion, flat_map, list_any}
use Rattle.std.proofs.lemmas.Bool.{eq-eqb, eqb-true}
use Rattle.graph.specs.declared.parts.LiveArc.{LiveArc}
use Rattle.graph.specs.declared.parts.ArcEnd.{ArcEnd}
use Rattle.graph.specs.declared.parts.ArcEnd.TheVariants.{Tail, Head}
use Rattle.graph.specs.Index.{node_at, numbers_at}
use Rattle.paths.specs.Rows.{Rows}
use Rattle.paths.specs.Tags.{set_count, has, tag_of, apart}
use Rattle.paths.specs.Blocks.{Arc, RowBlock, in_set, is_begin, is_end, begin_sets, end_sets, pass, passes}
use Rattle.paths.specs.Sheets.{Line, over, into, sent}
use Rattle.timing.specs.declared.crossing.Crossing.{Crossing}
use Rattle.timing.specs.Crossings.{crossed, crossing_line}
use Rattle.timing.specs.Masks.{at_node}
use Rattle.timing.specs.WithRows.{arc_with, arcs_with, bare}
use Rattle.timing.specs.Bringing.{crossing_of}

pub tag_of_same : (n : ℕ) (f g : ℕ → Bool) → ((i : ℕ) → i < n → f i ≡ g i) → tag_of n f ≡ tag_of n g
tag_of_same zero f g h = refl
tag_of_same (suc n) f g h =
    ap₂ (λ x t. x * 2 + cond t 1 0) (tag_of_same n (λ i. f (suc i)) (λ i. g (suc i)) (λ i l. h (suc i) (omega arith))) (h 0 (omega arith))

-- ---- the sets at a node do not depend on the rows
module _ {R : Type 0} (none : R) (rows : List R) (i v : ℕ) where
  pub leaves_with : (k : ℕ) (es : List (Option LiveArc)) → list_any (λ (a : Arc R). in_set i a && eqb a.from v) (arcs_with none rows k es) ≡ list_any (at_node Tail v i) es
  leaves_with k [] = refl
  leaves_with k (None ∷ es) = leaves_with (suc k) es
  leaves_with k (Some e ∷ es) = ap (λ t. (has e.sets i && eqb e.from v) || t) (leaves_with (suc k) es)

  pub enters_with : (k : ℕ) (es : List (Option LiveArc)) → list_any (λ (a : Arc R). in_set i a && eqb a.to v) (arcs_with none rows k es) ≡ list_any (at_node Head v i) es
  enters_with k [] = refl
  enters_with k (None ∷ es) = enters_with (suc k) es
  enters_with k (Some e ∷ es) = ap (λ t. (has e.sets i && eqb e.to v) || t) (enters_with (suc k) es)

pub begins_same : {R : Type 0} (none : R) (rows : List R) (b : RowBlock R) (es : List (Option LiveArc)) (v : ℕ) → b.arcs ≡ arcs_with none rows 0 es → begin_sets b v ≡ begin_sets (bare es) v
unfolding begin_sets
begins_same {R} none rows b es v e =
    tag_of_same set_count (λ i. is_begin b i v) (λ i. is_begin (bare es) i v)
    (λ i _. ap₂ (λ p q. p && not q)
    (ap (list_any (λ (a : Arc R). in_set i a && eqb a.from v)) e ∙ leaves_with none rows i v 0 es ∙ sym (leaves_with tt [] i v 0 es))
    (ap (list_any (λ (a : Arc R). in_set i a && eqb a.to v)) e ∙ enters_with none rows i v 0 es ∙ sym (enters_with tt [] i v 0 es)))

pub ends_same : {R : Type 0} (none : R) (rows : List R) (b : RowBlock R) (es : List (Option LiveArc)) (v : ℕ) → b.arcs ≡ arcs_with none rows 0 es → end_sets b v ≡ end_sets (bare es) v
unfolding end_sets
ends_same {R} none rows b es v e =
    tag_of_same set_count (λ i. is_end b i v) (λ i. is_end (bare es) i v)
    (λ i _. ap₂ (λ p q. q && not p)
    (ap (list_any (λ (a : Arc R). in_set i a && eqb a.from v)) e ∙ leaves_with none rows i v 0 es ∙ sym (leaves_with tt [] i v 0 es))
    (ap (list_any (λ (a : Arc R). in_set i a && eqb a.to v)) e ∙ enters_with none rows i v 0 es ∙ sym (enters_with tt [] i v 0 es)))

-- ---- the numbers that an index lists
pub record Numbered (end : ArcEnd) (v i : ℕ) (os : List (Option LiveArc)) (k : ℕ) : Type 0 where
  pub place : ℕ
  pub place_is : k ≡ i + place
  pub arc : LiveArc
  pub live : get_or os place None ≡ Some arc
  pub at : node_at end arc ≡ v

module _ (end : ArcEnd) (v : ℕ) where
  further : (i : ℕ) (o : Option LiveArc) (os : List (Option LiveArc)) (ks : List ℕ) → AllByRecursion (Numbered end v (suc i) os) ks → AllByRecursion (Numbered end v i (o ∷ os)) ks
  further i o os [] a = tt
  further i o os (k ∷ ks) a =
      (record { place = suc a.0.place; place_is = omega (arith, a.0.place_is); arc = a.0.arc; live = a.0.live; at = a.0.at }, further i o os ks a.1)

  pub all_numbered : (i : ℕ) (os : List (Option LiveArc)) → AllByRecursion (Numbered end v i os) (numbers_at end v i os)
  all_numbered i [] = tt
  all_numbered i (None ∷ os) = further i None os (numbers_at end v (suc i) os) (all_numbered (suc i) os)
  all_numbered i (Some e ∷ os) = go (eqb (node_at end e) v) refl (further i (Some e) os (numbers_at end v (suc i) os) (all_numbered (suc i) os))
    where
      rest : List ℕ
      rest = numbers_at end v (suc i) os

      go : (t : Bool) → eqb (node_at end e) v ≡ t → AllByRecursion (Numbered end v i (Some e ∷ os)) rest → AllByRecursion (Numbered end v i (Some e ∷ os)) (cond t (i ∷ rest) rest)
      go true q a = (record { place = 0; place_is = omega arith; arc = e; live = refl; at = eqb-true (node_at end e) v q }, a)
      go false q a = a

  -- as numbers of the whole list
  pub record Listed (os : List (Option LiveArc)) (k : ℕ) : Type 0 where
    pub arc : LiveArc
    pub live : get_or os k None ≡ Some arc
    pub at : node_at end arc ≡ v

  pub all_listed : (os : List (Option LiveArc)) → AllByRecursion (Listed os) (numbers_at end v 0 os)
  all_listed os = go (numbers_at end v 0 os) (all_numbered 0 os)
    where
      go : (ks : List ℕ) → AllByRecursion (Numbered end v 0 os) ks → AllByRecursion (Listed os) ks
      go [] a = tt
      go (k ∷ ks) a =
          let z : k ≡ a.0.place = omega (arith, a.0.place_is) in
          (record { arc = a.0.arc; live = ap (λ n. get_or os n None) z ∙ a.0.live; at = a.0.at }, go ks a.1)

-- ---- what arcs bring, by their numbers
module _ {R : Type 0} (m : Rows R) (b : RowBlock R) (rows : List R) where
  -- what the arc numbered k, if it is live, has from the lines ls
  abbrev pub over_at : List (Line R) → ℕ → Option LiveArc → List (Line R)
  over_at ls k None = []
  over_at ls k (Some e) = over m b (arc_with m.origin rows k e) 0 ls

  pub into_numbers : (arcs : List (Option LiveArc)) (v k : ℕ) (es : List (Option LiveArc)) (ls : List (Line R)) → ((i : ℕ) → get_or arcs (k + i) None ≡ get_or es i None)
      → into m b v (arcs_with m.origin rows k es) ls ≡ flat_map (λ j. over_at ls j (get_or arcs j None)) (numbers_at Head v k es)
  into_numbers arcs v k [] ls at = refl
  into_numbers arcs v k (None ∷ es) ls at = into_numbers arcs v (suc k) es ls (λ i. let z : suc k + i ≡ k + suc i = omega arith in ap (λ n. get_or arcs n None) z ∙ at (suc i))
  into_numbers arcs v k (Some e ∷ es) ls at =
      go (eqb e.to v) (into_numbers arcs v (suc k) es ls (λ i. let z : suc k + i ≡ k + suc i = omega arith in ap (λ n. get_or arcs n None) z ∙ at (suc i)))
    where
      f : ℕ → List (Line R)
      f j = over_at ls j (get_or arcs j None)

      rest : List (Line R)
      rest = into m b v (arcs_with m.origin rows (suc k) es) ls

      more : List ℕ
      more = numbers_at Head v (suc k) es

      here : f k ≡ over m b (arc_with m.origin rows k e) 0 ls
      here = let z : k ≡ k + 0 = omega arith in ap (over_at ls k) (ap (λ n. get_or arcs n None) z ∙ at 0)

      go : (t : Bool) → rest ≡ flat_map f more → cond t (over m b (arc_with m.origin rows k e) 0 ls ++ rest) rest ≡ flat_map f (cond t (k ∷ more) more)
      go true r = ap₂ (λ x y. x ++ y) (sym here) r
      go false r = r

  -- over an arc, from the lines of the node that it leaves
  pub over_crossed : (arcs : List (Option LiveArc)) (firsts : List ℕ) (k : ℕ) (e : LiveArc) (i : ℕ) (ls : List (Line R)) → b.arcs ≡ arcs_with m.origin rows 0 arcs
      → AllByRecursion (λ (l : Line R). l.node ≡ e.from) ls → over m b (arc_with m.origin rows k e) i ls ≡ crossed m (crossing_of m arcs rows k e) i ls
  unfolding pass passes
  over_crossed arcs firsts k e i [] q a = refl
  over_crossed arcs firsts k e i (l ∷ ls) q a =
      let x = arc_with m.origin rows k e in
      ap (λ t. cond t (cond (passes b l.tag x) (sent m b x i l ∷ over m b x (suc i) ls) (over m b x (suc i) ls)) (over m b x (suc i) ls)) (eq-eqb l.node e.from a.0)
      ∙ ap (λ r. cond (passes b l.tag x) (sent m b x i l ∷ r) r) (over_crossed arcs firsts k e (suc i) ls q a.1)
      ∙ ap₂ (λ p n. let h : Crossing R = record { arc = k; to = e.to; begins = p; sets = e.sets; ends = n; row = x.row } in
      let rest = crossed m (crossing_of m arcs rows k e) (suc i) ls in
      cond (apart (bit_and (bit_or l.tag p) e.sets) n) (crossing_line m h i l ∷ rest) rest)
      (begins_same m.origin rows b arcs e.from q) (ends_same m.origin rows b arcs e.to q)
