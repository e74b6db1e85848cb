-- The steps of the arrival pass.
use Rattle.std.proofs.Common.{◌≡◌, ℕ, zero, suc, ◌+◌, ◌<◌, ◌≤◌, List, [], ◌∷◌, ◌++◌, map, length, get_or, set, Some, Option, sym, refl, ap, ◌∙◌, subst, subst₂, ap₂, ⊎_elim, arith}
use Rattle.std.specs.List.{flat_map}
use Rattle.std.proofs.lemmas.List.{length-append, get_or-set_same, get_or-set_other}
use Rattle.std.proofs.lemmas.Bool.{cases_eq}
use Rattle.measure.specs.declared.measure.Measure.{Ghosts as Measure}
use Rattle.measure.specs.Rows.{Row, Bounded}
use Rattle.graph.specs.declared.parts.LiveArc.{LiveArc}
use Rattle.graph.specs.declared.parts.ArcEnd.TheVariants.{Head}
use Rattle.graph.specs.declared.store.ArcIndex.{ArcIndex}
use Rattle.graph.specs.Index.{listed, Indexes}
use Rattle.paths.specs.Rows.{Rows}
use Rattle.paths.specs.Blocks.{RowBlock}
use Rattle.paths.specs.Sheets as sheets
use Rattle.paths.specs.Sheets.{started, entered, arrivals}
use Rattle.paths.proofs.RowLaws.{Laws}
use Rattle.paths.proofs.Small.{tame}
use Rattle.paths.proofs.Choosing.{in_all}
use Rattle.paths.proofs.Joining.{laws_of, given, far_bounded}
use Rattle.paths.proofs.Arriving.{arrivals_right}
use Rattle.sheet.specs.declared.line.Line.{Line}
use Rattle.timing.specs.Lines.{view, front, behind, Stands}
use Rattle.timing.specs.Crossings.{Near}
use Rattle.timing.specs.declared.block.TimedBlock.{TimedBlock}
use Rattle.timing.specs.Measured.{measured}
use Rattle.timing.specs.TimedBlock.{arcs_in, rows_of, brings}
use Rattle.timing.specs.Bringing.{AllReady}
use Rattle.timing.specs.Arrived.{Arrived, Arrives}
use Rattle.timing.proofs.Entering.{entered_append, entered_grows, length_front}
use Rattle.timing.proofs.Crossed.{front_same}
use Rattle.timing.proofs.Tabled.{LawsOf, rows_sound}
use Rattle.timing.proofs.Arriving.{lines_at, arrivals_grow, into_is, all_ready}

module _ {M R : Type 0} (row : M → R) (m : Rows R) where
  pub arrive_full : (cs ds : List (sheets.Line R)) (base k : ℕ) → k < base + length (entered m cs []) → k < base + length (entered m (cs ++ ds) [])
  arrive_full cs ds base k h = omega (arith, h, ap length (entered_append m cs ds []), entered_grows m ds (entered m cs []))

  front_add : (a n : ℕ) (ls : List Line) (xs : List M) → a ≤ length ls → length xs ≡ length ls → front row (a + n) ls xs ≡ front row a ls xs ++ behind row a n ls xs
  front_add zero n ls xs h e = let z : 0 + n ≡ n = omega arith in ap (λ k. front row k ls xs) z
  front_add (suc a) n [] xs h e = absurd (omega arith)
  front_add (suc a) n (l ∷ ls) [] h e = absurd (omega arith)
  front_add (suc a) n (l ∷ ls) (x ∷ xs) h e =
      let z : suc a + n ≡ suc (a + n) = omega arith in
      ap (λ k. front row k (l ∷ ls) (x ∷ xs)) z ∙ ap (λ t. view row l x ∷ t) (front_add a n ls xs (omega arith) (omega arith))

-- ---- from node to node
module _ {M : Type 0} (measure : Measure M) (laws : LawsOf measure) (t : TimedBlock) where
  abbrev R : Type 0
  R = Row measure.width

  abbrev row : M → R
  row = measure.row

  abbrev m : Rows R
  m = measured measure

  abbrev b : RowBlock R
  b = rows_of measure t

  abbrev arcs : List (Option LiveArc)
  arcs = arcs_in t

  abbrev rows : List R
  rows = map measure.row_of_arc t.ticks

  abbrev orders : Laws m
  orders = laws_of measure.width measure.not_later laws.order

  pub arrived_length : (v : ℕ) (firsts : List ℕ) (ls : List Line) (xs : List M) (base : ℕ) → Arrived row m b v ls xs firsts base → base ≡ length (arrivals m b v)
  arrived_length v firsts ls xs base a = sym (length_front row m base ls xs a.fit a.even) ∙ ap length a.stand

  pub arrived_all : (v : ℕ) (firsts : List ℕ) (ls : List Line) (xs : List M) (base : ℕ) → v ≡ 256 → Arrived row m b v ls xs firsts base → Arrives row m b ls xs firsts (Some base)
  arrived_all v firsts ls xs base e a = let w = subst (λ u. Arrived row m b u ls xs firsts base) e a in (arrived_length 256 firsts ls xs base w, w)

  -- from the node v to the next
  module _ (heads : ArcIndex) (lists : Indexes Head arcs heads) (v : ℕ) (below : v < 256) (firsts : List ℕ) (ls : List Line) (xs : List M) (base : ℕ) (a : Arrived row m b v ls xs firsts base) where
    -- the lines of v, as they are brought
    abbrev pub coming : List (sheets.Line R)
    coming = entered m (started v (b.start v) ++ flat_map (brings measure t firsts (front row base ls xs)) (listed heads v)) []

    coming_is : coming ≡ lines_at m b orders v
    coming_is =
        ap (λ cs. entered m (started v (b.start v) ++ cs) [])
        (ap₂ (λ A ks. flat_map (brings measure t firsts A) ks) a.stand (lists v below) ∙ sym (into_is m b orders arcs rows refl t.graph.now.rising firsts v a.firsts_are))

    pub arrived_ready : AllReady arcs firsts base (listed heads v)
    arrived_ready =
        subst₂ (λ n (ks : List ℕ). AllReady arcs firsts n ks) (sym (arrived_length v firsts ls xs base a)) (sym (lists v below)) (all_ready m b orders arcs rows refl t.graph.now.rising firsts v a.firsts_are)

    -- each arrival is near zero
    pub arrived_near : Near measure.width 256000000 (front row base ls xs)
    arrived_near =
        let known = given measure.width measure.not_later laws.order b 256 (rows_sound measure t laws) in
        subst (λ (lines : List (sheets.Line R)). Near measure.width 256000000 lines) (sym a.stand)
        (in_all (λ (l : sheets.Line R). Bounded measure.width 256000000 l.arrival) (arrivals m b v)
        (λ l i.
        let r = arrivals_right m b known.laws v l i in
        far_bounded measure.width 256000000 l.arrival ((tame known).reached l.node l.tag l.arrival (omega (arith, r.node_below)) r.reached)))

    pub arrived_more : (ls' : List Line) (xs' : List M) (n : ℕ) → length firsts ≡ 257 → Stands row base ls xs coming ls' xs' n → Arrived row m b (v + 1) ls' xs' (set firsts (v + 1) (base + n)) (base + n)
    arrived_more ls' xs' n lf s =
        let z : v + 1 ≡ suc v = omega arith in
        let now-stands : front row (base + n) ls' xs' ≡ arrivals m b (v + 1) =
        front_add row m base n ls' xs' (omega (arith, a.fit, s.lines_length)) (s.times_length ∙ sym s.lines_length)
        ∙ ap₂ (λ x y. x ++ y) (front_same row base ls ls' xs xs' coming n s ∙ a.stand) (s.stand ∙ coming_is)
        ∙ ap (arrivals m b) (sym z) in
        let fits : base + n ≤ length ls' = omega (arith, s.room, s.lines_length) in
        let evens : length xs' ≡ length ls' = s.times_length ∙ sym s.lines_length in
        let total : base + n ≡ length (arrivals m b (v + 1)) = sym (length_front row m (base + n) ls' xs' fits evens) ∙ ap length now-stands in
        record {
          stand = now-stands;
          fit = fits;
          even = evens;
          firsts_are = λ u k. ⊎_elim
              (λ e. ap (λ i. get_or (set firsts (v + 1) (base + n)) i 0) e ∙ get_or-set_same firsts (v + 1) (base + n) 0 (omega arith) ∙ total ∙ ap (λ i. length (arrivals m b i)) (sym e))
              (λ ne. get_or-set_other firsts (v + 1) u (base + n) 0 ne ∙ a.firsts_are u (omega (arith, ne)))
              (cases_eq u (v + 1));
        }

    pub arrived_full : length ls < base + length coming → length ls < length (arrivals m b 256)
    arrived_full f =
        omega (arith, f, ap length coming_is, arrived_length v firsts ls xs base a, length-append (arrivals m b v) (lines_at m b orders v), arrivals_grow m b orders v 256 below)
