-- The block of a graph has the graph's arcs, times and paths.
use Rattle.std.proofs.Common.{◌≡◌, ℕ, ◌+◌, ◌<◌, ◌⊎◌, List, [], ◌∷◌, map, get_or, ℤ, Some, None, Ok, sym, refl, ap, ◌∙◌, subst, inl, inr, arith}
use mathlib.Core.List.Memᴰ
use Rattle.measure.specs.Rows.{Within, on_some}
use Rattle.delay.specs.Entries.{Entry}
use Rattle.graph.specs.declared.parts.LiveArc.{LiveArc}
use Rattle.graph.specs.Block.{Block, Kept}
use Rattle.graph.specs.Paths.{Walks}
use Rattle.paths.specs.Blocks.{Arc, RowBlock, Live}
use Rattle.paths.specs.Paths.{Leads, numbers}
use Rattle.paths.specs.Graphs.{WorkOrder, Suits, arc_of, arc_in_rows, in_ticks, in_rows, node_count, IsArc, Mirrors}
use Rattle.paths.proofs.Choosing.{In, in_nil}
use Rattle.paths.proofs.InRows.{in_map}
use Rattle.paths.proofs.Making.{ticks_are, listed, made, has_live}

map_in : {X Y : Type 0} (f : X → Y) (xs : List X) (x : X) → In x xs → In (f x) (map f xs)
map_in f [] x i = in_nil x i
map_in {X} {Y} f (y ∷ ys) x i = go (Memᴰ.cases_cons i) (λ j. map_in f ys x j)
  where
    go : (x ≡ y) ⊎ In x ys → (In x ys → In (f x) (map f ys)) → In (f x) (map f (y ∷ ys))
    go (inl e) g = Memᴰ.head (ap f e)
    go (inr j) g = Memᴰ.tail (g j)

module _ {R : Type 0} (order : WorkOrder) (row_of_time row_of_arc : ℤ → R) (g : Block) (means : ℕ → Entry) (b : RowBlock ℤ) (h : in_ticks order g means ≡ Ok b) (t : Kept g) (s : Suits order g) where
  arc_is : (a : Arc R) → Live (in_rows row_of_time row_of_arc b) a → IsArc order row_of_arc g means a
  arc_is a l =
      let o = in_map (arc_in_rows row_of_arc) b.arcs a l in
      let w = made order g means b h o.0 o.1 in
      let same : 0 + w.index ≡ w.index = omega arith in
      let number : a.number ≡ w.index = ap (λ (x : Arc R). x.number) o.2 ∙ ap (λ (x : Arc ℤ). x.number) w.is ∙ same in
      let d = ticks_are (0 + w.index) w.arc.trim (means (0 + w.index)) w.ticks w.timed in
      record {
        arc = w.arc;
        ticks = d.0;
        live = ap (λ k. get_or g.arcs k None) number ∙ w.live;
        delay = ap means (number ∙ sym same) ∙ d.1;
        from_is = ap (λ (x : Arc R). x.from) o.2 ∙ ap (λ (x : Arc ℤ). x.from) w.is;
        to_is = ap (λ (x : Arc R). x.to) o.2 ∙ ap (λ (x : Arc ℤ). x.to) w.is;
        in_range = subst (λ z. Within 1000000 z) d.2 d.3;
        row_is = ap (λ (x : Arc R). x.row) o.2 ∙ ap (λ (x : Arc ℤ). row_of_arc x.row) w.is ∙ ap row_of_arc d.2;
        sets_are = ap (λ (x : Arc R). x.sets) o.2 ∙ ap (λ (x : Arc ℤ). x.sets) w.is;
      }

  arc_has : (n : ℕ) (e : LiveArc) → get_or g.arcs n None ≡ Some e → (a : Arc R) × Live (in_rows row_of_time row_of_arc b) a × (a.number ≡ n)
  arc_has n e l =
      let w = has_live order g means b h n e l in
      (arc_in_rows row_of_arc (arc_of order n e w.0), map_in (arc_in_rows row_of_arc) b.arcs (arc_of order n e w.0) w.1, refl)

  -- two nodes at one place are one
  one_node : (u v : ℕ) → u < node_count → v < node_count → order.place u ≡ order.place v → u ≡ v
  one_node u v hu hv e = sym (s.nodes u hu) ∙ ap order.node e ∙ s.nodes v hv

  walked : (u v : ℕ) (es : List (Arc R)) → u < node_count → v < node_count → Leads (in_rows row_of_time row_of_arc b) (order.place u) es (order.place v) → Walks g.arcs u (numbers es) v
  walked u v [] hu hv l = one_node u v hu hv l
  walked u v (a ∷ es) hu hv l =
      let w = arc_is a l.0 in
      let to : w.arc.to < node_count = t.nodes a.number w.arc w.live in
      let from : w.arc.from < node_count = omega (arith, t.rising a.number w.arc w.live, to) in
      (w.arc, w.live, one_node w.arc.from u from hu (sym w.from_is ∙ l.1), walked w.arc.to v es to hv (subst (λ p. Leads (in_rows row_of_time row_of_arc b) p es (order.place v)) w.to_is l.2))

  led : (u v : ℕ) (ns : List ℕ) → Walks g.arcs u ns v → (es : List (Arc R)) × Leads (in_rows row_of_time row_of_arc b) (order.place u) es (order.place v) × (numbers es ≡ ns)
  led u v [] w = ([], ap order.place w, refl)
  led u v (n ∷ ns) w =
      let e = w.0 in
      let l = has_live order g means b h n e w.1 in
      let a = arc_in_rows row_of_arc (arc_of order n e l.0) in
      let rest = led e.to v ns w.3 in
      (a ∷ rest.0, (map_in (arc_in_rows row_of_arc) b.arcs (arc_of order n e l.0) l.1, ap order.place w.2, rest.1), ap (λ ks. n ∷ ks) rest.2)

  pub mirrors : Mirrors order row_of_time row_of_arc g means (in_rows row_of_time row_of_arc b)
  mirrors = record {
    arc_is = arc_is;
    arc_has = arc_has;
    start_is = λ v q. ap (λ (x : RowBlock ℤ). on_some row_of_time (x.start (order.place v))) (listed order g means b h).2 ∙ ap (λ u. on_some row_of_time (get_or g.starts u None)) (s.nodes v q);
    end_is = λ v q. ap (λ (x : RowBlock ℤ). on_some row_of_time (x.end (order.place v))) (listed order g means b h).2 ∙ ap (λ u. on_some row_of_time (get_or g.ends u None)) (s.nodes v q);
    walked = walked;
    led = led;
  }
