-- The block that is prepared is that of the graph's content, and it is sound.
use Rattle.std.proofs.Common.{◌≡◌, ℕ, suc, ◌+◌, ◌<◌, Bool, true, false, cond, List, [], ◌∷◌, map, length, get_or, ℤ, pos, ◌+ℤ◌, ◌-ℤ◌, Some, None, Ok, Err, Option, sym, refl, ap, ◌∙◌, subst, ap₂, arith}
use Rattle.std.specs.Result.{result_map_both}
use Rattle.std.proofs.lemmas.Int.{ints}
use Rattle.measure.specs.declared.measure.Measure.{Ghosts as Measure}
use Rattle.measure.specs.Rows.{Row, Bounded, zeros, on_some}
use Rattle.measure.specs.Laws.{Laws}
use Rattle.delay.specs.Entries.{Entry}
use Rattle.graph.specs.declared.parts.LiveArc.{LiveArc}
use Rattle.graph.specs.declared.store.TimingGraph.{TimingGraph}
use Rattle.graph.specs.Ranges.{is_ticks}
use Rattle.graph.specs.Kept.{Live}
use Rattle.graph.specs.Trials.{trim_in}
use Rattle.graph.specs.Block.{Block, block_of, Kept}
use Rattle.paths.specs.Blocks.{Arc}
use Rattle.paths.specs.Sound.{Sound}
use Rattle.paths.specs.Graphs.{beyond, arc_ticks, arc_of, in_front, by_node, arcs_in_ticks, arc_in_rows, block_in_ticks, in_rows, row_block}
use Rattle.paths.proofs.Making.{ticks_within, lower_first_suits_lem}
use Rattle.paths.proofs.OnGraphs.{graphs_are_sound}
use Rattle.timing.specs.declared.block.TimedBlock.{TimedBlock}
use Rattle.timing.specs.declared.crossing.Crossing.{Crossing}
use Rattle.timing.specs.WithRows.{arcs_with, block_with}
use Rattle.timing.specs.Crossings.{meant}
use Rattle.timing.specs.Asking.{HasTicks}
use Rattle.timing.specs.Prepared.{Made}
use Rattle.timing.specs.TimedBlock.{rows_of, crossing_at}
use Rattle.timing.proofs.Bringing.{row_at}

module _ {R : Type 0} (row_of_arc : ℤ → R) (none : R) (means : ℕ → Entry) (ticks : List ℤ) where
  listed : (n : ℕ) (os : List (Option LiveArc)) → ((i : ℕ) (e : LiveArc) → get_or os i None ≡ Some e → (arc_ticks (n + i) e.trim (means (n + i)) ≡ Ok (get_or ticks (n + i) (pos 0))) × (n + i < length ticks))
      → (xs : List (Arc ℤ)) × (arcs_in_ticks by_node means n os ≡ Ok xs) × (map (arc_in_rows row_of_arc) xs ≡ arcs_with none (map row_of_arc ticks) n os)
  listed n [] h = ([], refl, refl)
  listed n (None ∷ os) h =
      listed (suc n) os (λ i e l. let z : n + suc i ≡ suc n + i = omega arith in subst (λ k. (arc_ticks k e.trim (means k) ≡ Ok (get_or ticks k (pos 0))) × (k < length ticks)) z (h (suc i) e l))
  listed n (Some e ∷ os) h =
      let w = listed (suc n) os (λ i f l. let z : n + suc i ≡ suc n + i = omega arith in subst (λ k. (arc_ticks k f.trim (means k) ≡ Ok (get_or ticks k (pos 0))) × (k < length ticks)) z (h (suc i) f l)) in
      let z : n + 0 ≡ n = omega arith in
      let here = subst (λ k. (arc_ticks k e.trim (means k) ≡ Ok (get_or ticks k (pos 0))) × (k < length ticks)) z (h 0 e refl) in (
        arc_of by_node n e (get_or ticks n (pos 0)) ∷ w.0,
        ap₂ (λ t rest. in_front (result_map_both (arc_of by_node n e) (λ x. x) t) rest) here.0 w.1,
        ap₂ (λ (y : R) (rest : List (Arc R)). record { number = n; from = e.from; to = e.to; row = y; sets = e.sets } ∷ rest) (row_at row_of_arc ticks n (pos 0) none here.1) w.2,
      )

  pub block_is : (row_of_time : ℤ → R) (g : Block) → ((k : ℕ) (e : LiveArc) → Live g.arcs k e → k < length ticks) → ((k : ℕ) (e : LiveArc) → Live g.arcs k e → HasTicks means ticks k e)
      → row_block by_node row_of_time row_of_arc g means ≡ Ok (block_with none (map row_of_arc ticks) row_of_time g)
  block_is row_of_time g below has =
      let w = listed 0 g.arcs (λ i e l. let z : i ≡ 0 + i = omega arith in subst (λ k. (arc_ticks k e.trim (means k) ≡ Ok (get_or ticks k (pos 0))) × (k < length ticks)) z ((has i e l).ticks_are, below i e l)) in
      ap (λ r. result_map_both (in_rows row_of_time row_of_arc) (λ x. x) (result_map_both (block_in_ticks by_node g) (λ x. x) r)) w.1
      ∙ ap (λ (es : List (Arc R)). Ok (record { arcs = es; start = λ v. on_some row_of_time (get_or g.starts v None); end = λ v. on_some row_of_time (get_or g.ends v None) })) w.2

-- the ticks of an arc are in range
pub in_range : (n : ℕ) (trim : ℤ) (entry : Entry) (d : ℤ) → arc_ticks n trim entry ≡ Ok d → is_ticks d ≡ true
in_range n trim (Err f) d e = absurd (let z : ◌≡◌ {A = ℕ} 0 1 = cc in omega arith)
in_range n trim (Ok x) d e = go (is_ticks (x +ℤ trim)) refl e
  where
    go : (t : Bool) → is_ticks (x +ℤ trim) ≡ t → cond t (Ok (x +ℤ trim)) (Err (beyond n)) ≡ Ok d → is_ticks d ≡ true
    go true q h = let same : x +ℤ trim ≡ d = cc in ap is_ticks (sym same) ∙ q
    go false q h = absurd (let z : ◌≡◌ {A = ℕ} 0 1 = cc in omega arith)

-- what a measure shows of itself
abbrev pub LawsOf : {M : Type 0} → Measure M → Type 0
LawsOf m = Laws m.width m.not_later m.row_of_time m.row_of_arc

module _ {M : Type 0} (m : Measure M) (t : TimedBlock) where
  abbrev g : Block
  g = block_of t.graph.now

  made : (means : ℕ → Entry) → ((k : ℕ) (e : LiveArc) → Live g.arcs k e → HasTicks means t.ticks k e) → row_block by_node m.row_of_time m.row_of_arc g means ≡ Ok (rows_of m t)
  made means has = block_is m.row_of_arc (zeros m.width) means t.ticks m.row_of_time g (λ k e l. omega (arith, t.graph.now.numbered k e l, t.graph.now.room, t.sized)) has

  -- it is the block of the graph's content, under the source whose ticks it has
  pub rows_made : (h : TimingGraph) (means : ℕ → Entry) → Made h means t → row_block by_node m.row_of_time m.row_of_arc (block_of h) means ≡ Ok (rows_of m t)
  rows_made h means r =
      subst (λ (x : TimingGraph). ((k : ℕ) (e : LiveArc) → Live (block_of x).arcs k e → HasTicks means t.ticks k e) → row_block by_node m.row_of_time m.row_of_arc (block_of x) means ≡ Ok (rows_of m t)) r.graph_is
      (made means) r.ticks_are

  -- the delays of its arcs are small
  pub crossing_near : LawsOf m → (k : ℕ) (e : LiveArc) → Live g.arcs k e → (h : Crossing M) → meant m.row h ≡ crossing_at m t k e → Bounded m.width 1000000 (m.row h.row)
  crossing_near laws k e l h same =
      let below = t.graph.now.numbered k e l in
      let d = get_or t.ticks k (pos 0) in
      let row : m.row_of_arc d ≡ m.row h.row = row_at m.row_of_arc t.ticks k (pos 0) (zeros m.width) (omega (arith, below, t.graph.now.room, t.sized)) ∙ sym (ap (λ (x : Crossing (Row m.width)). x.row) same) in
      subst (Bounded m.width 1000000) row (laws.arc d (ticks_within d (t.ticked k e l)))

  -- a source that would answer its ticks
  told : ℕ → Entry
  told k = Ok (get_or t.ticks k (pos 0) -ℤ trim_in (get_or g.arcs k None))

  told_has : (k : ℕ) (e : LiveArc) → Live g.arcs k e → HasTicks told t.ticks k e
  unfolding told
  told_has k e l =
      let d = get_or t.ticks k (pos 0) in
      let back : (d -ℤ e.trim) +ℤ e.trim ≡ d = omega (arith, ints) in
      record {
        ticks_are = ap (λ o. arc_ticks k e.trim (Ok (d -ℤ trim_in o))) l
            ∙ ap (λ x. cond (is_ticks x) (Ok x) (Err (beyond k))) back
            ∙ ap (λ c. cond c (Ok d) (Err (beyond k))) (t.ticked k e l);
        node = t.graph.now.noded k e l;
      }

  -- so the theorems about the blocks of graphs are about it
  pub rows_sound : LawsOf m → Sound (Bounded m.width 1000000) (rows_of m t) 256
  rows_sound laws =
      let h = t.graph.now in
      let kept : Kept g = record { room = h.room; numbers = h.numbered; rising = h.rising; nodes = h.noded; trims = h.trimmed; starts = h.started; ends = h.ended } in
      graphs_are_sound m.width m.not_later m.row_of_time m.row_of_arc laws g kept told by_node (lower_first_suits_lem g kept) (rows_of m t) (made told told_has)
