-- One arc brings its lines, and then the next.
use Rattle.std.proofs.Common.{◌≡◌, ℕ, zero, suc, ◌+◌, ◌<◌, List, [], ◌∷◌, ◌++◌, map, length, get_or, take, drop, Option, sym, refl, ap, ◌∙◌, subst, ap₂, arith}
use Rattle.std.specs.List.{flat_map}
use Rattle.std.proofs.lemmas.List.{take_more, append-nil, take-append-drop}
use Rattle.std.proofs.lemmas.Grind.{flat_map-append}
use Rattle.paths.specs.Rows.{Rows}
use Rattle.paths.specs.Sheets as sheets
use Rattle.paths.specs.Sheets.{entered}
use Rattle.sheet.specs.declared.line.Line.{Line}
use Rattle.timing.specs.Lines.{front, behind, Stands, Filled}
use Rattle.timing.proofs.Entering.{entered_append, entered_grows}
use Rattle.timing.proofs.Crossed.{stands_then, front_same}

pub row_at : {M R : Type 0} (f : M → R) (xs : List M) (k : ℕ) (y : M) (d : R) → k < length xs → f (get_or xs k y) ≡ get_or (map f xs) k d
row_at f [] k y d h = absurd (omega arith)
row_at f (x ∷ xs) zero y d h = refl
row_at f (x ∷ xs) (suc k) y d h = row_at f xs k y d (omega arith)

-- ---- a loop over lists that enter one after the other: F gives what an item brings from the lines in front
module _ {M R : Type 0} (row : M → R) (m : Rows R) {X : Type 0} (F : List (sheets.Line R) → X → List (sheets.Line R)) where
  abbrev pub joining : ℕ → List X → ℕ → ℕ → List Line → List M → List (sheets.Line R)
  joining i arcs base n ls xs = entered m (flat_map (F (front row base ls xs)) (take i arcs)) (behind row base n ls xs)

  pub joining_more : (arcs : List X) (d : X) (i base n : ℕ) (l0 : List Line) (x0 : List M) (l1 : List Line) (x1 : List M) (l2 : List Line) (x2 : List M) (j : ℕ) (r : Option ℕ) → i < length arcs
      → Stands row base l0 x0 (joining i arcs base n l0 x0) l1 x1 j
      → Filled row base l1 x1 (entered m (F (front row base l1 x1) (get_or arcs i d)) (behind row base j l1 x1)) l2 x2 r
      → Filled row base l0 x0 (joining (i + 1) arcs base n l0 x0) l2 x2 r
  joining_more arcs d i base n l0 x0 l1 x1 l2 x2 j r h s f =
      let g = F (front row base l0 x0) in
      let t = behind row base n l0 x0 in
      let eq : entered m (F (front row base l1 x1) (get_or arcs i d)) (behind row base j l1 x1) ≡ joining (i + 1) arcs base n l0 x0 =
      ap₂ (λ p q. entered m (F p (get_or arcs i d)) q) (front_same row base l0 l1 x0 x1 (joining i arcs base n l0 x0) j s) s.stand
      ∙ sym (entered_append m (flat_map g (take i arcs)) (g (get_or arcs i d)) t)
      ∙ ap (λ cs. entered m (flat_map g (take i arcs) ++ cs) t) (sym (append-nil (g (get_or arcs i d))))
      ∙ ap (λ cs. entered m cs t) (sym (ap (flat_map g) (take_more arcs i d h) ∙ flat_map-append g (take i arcs) (get_or arcs i d ∷ []))) in
      stands_then row base l0 l1 l2 x0 x1 x2 (joining i arcs base n l0 x0) (joining (i + 1) arcs base n l0 x0) j r s
      (subst (λ (u : List (sheets.Line R)). Filled row base l1 x1 u l2 x2 r) eq f)

  pub joining_full : (arcs : List X) (i base n : ℕ) (l0 : List Line) (x0 : List M) → length l0 < base + length (joining i arcs base n l0 x0)
      → length l0 < base + length (entered m (flat_map (F (front row base l0 x0)) arcs) (behind row base n l0 x0))
  joining_full arcs i base n l0 x0 f =
      let g = F (front row base l0 x0) in
      let t = behind row base n l0 x0 in
      let eq : flat_map g arcs ≡ flat_map g (take i arcs) ++ flat_map g (drop i arcs) = ap (flat_map g) (sym (take-append-drop i arcs)) ∙ flat_map-append g (take i arcs) (drop i arcs) in
      omega (arith, f, ap (λ cs. length (entered m cs t)) eq, ap length (entered_append m (flat_map g (take i arcs)) (flat_map g (drop i arcs)) t), entered_grows m (flat_map g (drop i arcs)) (joining i arcs base n l0 x0))
