-- In the tables of a written sheet, the links lead where the sheet's links do.
use Rattle.std.proofs.Common.{◌≡◌, ℕ, zero, suc, ◌+◌, ◌<◌, ◌≤◌, Bool, true, cond, ◌&&◌, eqb, ltb, List, [], ◌∷◌, ◌++◌, map, length, get_or, reverse, Some, None, Option, sym, refl, ap, ◌∙◌, subst, ap₂, inl, inr, append_assoc, arith, slice_get}
use Rattle.std.proofs.lemmas.List.{length-append, length-map}
use Rattle.std.proofs.lemmas.Bool.{lt-ltb, eq-eqb, ne_eqb, and_from}
use Rattle.measure.specs.Rows.{on_some}
use Rattle.paths.specs.Rows.{Rows}
use Rattle.paths.specs.Blocks.{Arc, RowBlock, Live}
use Rattle.paths.specs.Sheets as sheets
use Rattle.paths.specs.Sheets.{Told, Timed, no_arc, arrivals, timed, sheet}
use Rattle.paths.specs.Traces.{backs, required_at, fores}
use Rattle.paths.proofs.RowLaws.{Laws}
use Rattle.paths.proofs.Choosing.{At, at_below, some_is, none_some}
use Rattle.paths.proofs.Tracing as tracing
use Rattle.paths.proofs.Tracing.{BackLink, ForeLink, timed_at, back_stop, back_go, fore_stop, fore_go}
use Rattle.sheet.specs.declared.line.Line.{Line}
use Rattle.sheet.specs.declared.link.Way.TheVariants.{Back, Fore}
use Rattle.sheet.specs.Lines.{past_line}
use Rattle.sheet.specs.Written.{line_with, line_of}
use Rattle.sheet.specs.Trails.{ends, over, broken, link_of, back_link, fore_link, back_arcs, fore_arcs}
use Rattle.sheet.proofs.Trailing.{walked_ends, back_on, fore_on}

-- ---- links by their marks
link_ends : (a j : ℕ) (onward : Bool) → a ≡ 1024 → j ≡ 4096 → link_of a j onward ≡ ends
link_ends a j onward p q = ap (λ x. cond x ends (cond (ltb a 1024 && onward) (over a j) broken)) (and_from (eqb a 1024) (eqb j 4096) (eq-eqb a 1024 p) (eq-eqb j 4096 q))

link_leads : (a j : ℕ) (onward : Bool) → a < 1024 → onward ≡ true → link_of a j onward ≡ over a j
link_leads a j onward p q =
    ap (λ x. cond (x && eqb j 4096) ends (cond (ltb a 1024 && onward) (over a j) broken)) (ne_eqb a 1024 (λ e. omega arith))
    ∙ ap (λ x. cond x (over a j) broken) (and_from (ltb a 1024) onward (lt-ltb a 1024 p) q)

back_end : (ls : List Line) (i : ℕ) → back_link ls i ≡ ends → back_arcs ls i ≡ Some []
back_end ls i e = ap (on_some reverse) (walked_ends Back ls i (sym e))

fore_end : (ls : List Line) (i : ℕ) → fore_link ls i ≡ ends → fore_arcs ls i ≡ Some []
fore_end ls i e = walked_ends Fore ls i (sym e)

-- ---- the lines of the tables
module _ {R : Type 0} where
  line_at : (ts : List (Timed R)) (rest : List Line) (i : ℕ) (t : Timed R) → At ts i t → get_or (map line_of ts ++ rest) i past_line ≡ line_of t
  line_at [] rest i t e = absurd (none_some t e)
  line_at (x ∷ ts) rest zero t e = ap line_of (some_is x t e)
  line_at (x ∷ ts) rest (suc i) t e = line_at ts rest i t e

  in_table : (ts : List (Timed R)) (rest : List Line) (i : ℕ) (t : Timed R) → At ts i t → ltb i (length (map line_of ts ++ rest)) ≡ true
  in_table ts rest i t e =
      lt-ltb i (length (map line_of ts ++ rest)) (omega (arith, at_below ts i t e, length-append (map line_of ts) rest, length-map ts line_of))

  back_marks : (l : sheets.Line R) (o : Option (Told R)) (i : ℕ)
      → link_of (line_with l o).back_arc (line_with l o).back_line (ltb (line_with l o).back_line i) ≡ link_of l.back_arc l.back_line (ltb l.back_line i)
  back_marks l None i = refl
  back_marks l (Some y) i = refl

  back_at : (ts : List (Timed R)) (rest : List Line) (i : ℕ) (t : Timed R) → At ts i t
      → back_link (map line_of ts ++ rest) i ≡ link_of t.line.back_arc t.line.back_line (ltb t.line.back_line i)
  back_at ts rest i t e =
      ap₂ (λ (x : Bool) (l : Line). cond x (link_of l.back_arc l.back_line (ltb l.back_line i)) broken) (in_table ts rest i t e) (line_at ts rest i t e)
      ∙ back_marks t.line t.required i

  fore_at : (ts : List (Timed R)) (rest : List Line) (i : ℕ) (t : Timed R) (y : Told R) → At ts i t → t.required ≡ Some y
      → fore_link (map line_of ts ++ rest) i ≡ link_of y.arc y.line (ltb i y.line)
  fore_at ts rest i t y e r =
      ap₂ (λ (x : Bool) (l : Line). cond x (link_of l.fore_arc l.fore_line (ltb i l.fore_line)) broken) (in_table ts rest i t e)
      (line_at ts rest i t e ∙ ap (line_with t.line) r)

module _ {R : Type 0} (m : Rows R) (b : RowBlock R) (laws : Laws m) (n : ℕ) (numbered : (e : Arc R) → Live b e → e.number < no_arc) (rest : List Line) where
  abbrev table : List Line
  table = map line_of (sheet m b n) ++ rest

  at_timed : (k : ℕ) (ls : List (sheets.Line R)) (i : ℕ) (l : sheets.Line R) → At ls i l → (t : Timed R) × At (timed m b k ls) i t
  at_timed k [] i l e = absurd (none_some l e)
  at_timed k (x ∷ ls) zero l e = (_, refl)
  at_timed k (x ∷ ls) (suc i) l e = at_timed (suc k) ls i l e

  -- back links lead over the arcs of the definition, in front of any others
  abbrev Backs : ℕ → ℕ → Type 0
  Backs fuel i = (ks : List ℕ) × (back_arcs table i ≡ Some ks) × ((es : List ℕ) → backs fuel (sheet m b n) i es ≡ ks ++ es)

  pub backs_same : (fuel i : ℕ) (t : Timed R) → At (sheet m b n) i t → i < fuel → Backs fuel i
  backs_same zero i t a h = absurd (omega arith)
  backs_same (suc fuel) i t a h =
      go (tracing.back_link m b laws n i t.line (timed_at m b laws 0 (arrivals m b n) i t a)) (λ j u a' h'. backs_same fuel j u a' h')
    where
      link : back_link table i ≡ link_of t.line.back_arc t.line.back_line (ltb t.line.back_line i)
      link = back_at (sheet m b n) rest i t a

      go : BackLink m b laws n i t.line → ((j : ℕ) (u : Timed R) → At (sheet m b n) j u → j < fuel → Backs fuel j) → Backs (suc fuel) i
      go (inl w) f = (
        [],
        back_end table i (link ∙ link_ends t.line.back_arc t.line.back_line (ltb t.line.back_line i) w.2 w.3),
        λ es. back_stop (λ j ks. backs fuel (sheet m b n) j ks) es (slice_get (sheet m b n) i) t a w.2,
      )
      go (inr w) f =
          let arc = t.line.back_arc in
          let line = t.line.back_line in
          let small : arc < no_arc = subst (λ x. x < no_arc) (sym w.number_is) (numbered w.arc w.live) in
          let u = at_timed 0 (arrivals m b n) line w.line w.stands in
          let k = f line u.0 u.1 (omega (arith, h, w.lower)) in
          let to : over arc line ≡ back_link table i = sym (link ∙ link_leads arc line (ltb line i) small (lt-ltb line i w.lower)) in (
            k.0 ++ (arc ∷ []),
            back_on table i arc line to ∙ ap (on_some (λ es. es ++ (arc ∷ []))) k.1,
            λ es.
                back_go (λ j ks. backs fuel (sheet m b n) j ks) es (slice_get (sheet m b n) i) t a small
                ∙ k.2 (arc ∷ es)
                ∙ sym (append_assoc k.0 (arc ∷ []) es),
          )

  -- and so do fore links
  pub fores_same : (fuel i : ℕ) (t : Timed R) (y : Told R) → At (sheet m b n) i t → t.required ≡ Some y → length (sheet m b n) ≤ i + fuel
      → fore_arcs table i ≡ Some (fores fuel (sheet m b n) i)
  fores_same zero i t y a r h = absurd (omega (arith, at_below (sheet m b n) i t a))
  fores_same (suc fuel) i t y a r h =
      go (tracing.fore_link m b laws 0 (arrivals m b n) i t y a r) (λ j u z a' r' h'. fores_same fuel j u z a' r' h')
    where
      link : fore_link table i ≡ link_of y.arc y.line (ltb i y.line)
      link = fore_at (sheet m b n) rest i t y a r

      required_is : required_at (slice_get (sheet m b n) i) ≡ Some y
      required_is = ap required_at a ∙ r

      Below : Type 0
      Below = (j : ℕ) (u : Timed R) (z : Told R) → At (sheet m b n) j u → u.required ≡ Some z → length (sheet m b n) ≤ j + fuel
          → fore_arcs table j ≡ Some (fores fuel (sheet m b n) j)

      go : ForeLink m b laws 0 (sheet m b n) i t y → Below → fore_arcs table i ≡ Some (fores (suc fuel) (sheet m b n) i)
      go (inl w) f =
          fore_end table i (link ∙ link_ends y.arc y.line (ltb i y.line) w.1 w.2)
          ∙ ap Some (sym (fore_stop (λ j. fores fuel (sheet m b n) j) (required_at (slice_get (sheet m b n) i)) y required_is w.1))
      go (inr w) f =
          let place_is : y.line ≡ w.place = omega (arith, w.place_is) in
          let small : y.arc < no_arc = subst (λ x. x < no_arc) (sym w.number_is) (numbered w.arc w.live) in
          let onward : ltb i y.line ≡ true = lt-ltb i y.line (omega (arith, place_is, w.higher)) in
          let to : over y.arc y.line ≡ fore_link table i = sym (link ∙ link_leads y.arc y.line (ltb i y.line) small onward) in
          let k = f w.place w.beyond w.asks_for w.stands w.required_is (omega (arith, h, w.higher)) in
          fore_on table i y.arc y.line to
          ∙ ap (λ j. on_some (λ es. y.arc ∷ es) (fore_arcs table j)) place_is
          ∙ ap (on_some (λ es. y.arc ∷ es)) k
          ∙ ap (λ j. Some (y.arc ∷ fores fuel (sheet m b n) j)) (sym place_is)
          ∙ ap Some (sym (fore_go (λ j. fores fuel (sheet m b n) j) (required_at (slice_get (sheet m b n) i)) y required_is small))
