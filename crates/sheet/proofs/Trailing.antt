-- Links go one way, so that the fuel of a walk does not matter.
use Rattle.std.proofs.Common.{◌≡◌, ℕ, zero, suc, ◌+◌, ◌-◌, ◌<◌, Bool, true, false, cond, ◌&&◌, eqb, ltb, List, [], ◌∷◌, ◌++◌, length, get_or, set, take, reverse, is_some, Some, None, Ok, Err, Option, sym, refl, ap, ◌∙◌, arith}
use Rattle.std.proofs.lemmas.Bool.{ltb-true}
use Rattle.std.proofs.lemmas.List.{append_assoc, length-set, reverse-append, take_more_set}
use Rattle.measure.specs.Rows.{on_some}
use Rattle.sheet.specs.declared.line.Line.{Line}
use Rattle.sheet.specs.declared.link.Way.{Way}
use Rattle.sheet.specs.declared.link.Way.TheVariants.{Back, Fore}
use Rattle.sheet.specs.Lines.{past_line}
use Rattle.sheet.specs.Trails.{Leads, ends, over, broken, link_of, back_link, fore_link, link_at, walk_step, walk, lines_left, walked, back_arcs, fore_arcs}

-- n more
abbrev pub ahead : ℕ → Option ℕ → Option ℕ
ahead n o = on_some (λ k. n + k) o

-- the line that a link leads to
abbrev pub line_in : Leads → ℕ
line_in (Ok None) = 0
line_in (Ok (Some l)) = l.line
line_in (Err e) = 0

-- whether it leads to one
abbrev pub leads_on : Leads → ℕ
leads_on (Ok None) = 0
leads_on (Ok (Some l)) = 1
leads_on (Err e) = 0

-- a link that leads to a line is on the right side
pub over_onward : (a j : ℕ) (onward : Bool) (b k : ℕ) → over b k ≡ link_of a j onward → (k ≡ j) × (onward ≡ true)
over_onward a j onward b k e = go (eqb a 1024 && eqb j 4096) (ltb a 1024) onward e
  where
    go : (x y z : Bool) → over b k ≡ cond x ends (cond (y && z) (over a j) broken) → (k ≡ j) × (z ≡ true)
    go true y z e = absurd (let q : ◌≡◌ {A = ℕ} 1 0 = ap leads_on e in omega arith)
    go false true true e = (ap line_in e, refl)
    go false true false e = absurd (let q : ◌≡◌ {A = ℕ} 1 0 = ap leads_on e in omega arith)
    go false false z e = absurd (let q : ◌≡◌ {A = ℕ} 1 0 = ap leads_on e in omega arith)

back_falls : (ls : List Line) (i a j : ℕ) → over a j ≡ back_link ls i → j < i
back_falls ls i a j e = go (ltb i (length ls)) e
  where
    l : Line
    l = get_or ls i past_line

    go : (t : Bool) → over a j ≡ cond t (link_of l.back_arc l.back_line (ltb l.back_line i)) broken → j < i
    go true e = let w = over_onward l.back_arc l.back_line (ltb l.back_line i) a j e in omega (arith, w.0, ltb-true l.back_line i w.1)
    go false e = absurd (let q : ◌≡◌ {A = ℕ} 1 0 = ap leads_on e in omega arith)

fore_rises : (ls : List Line) (i a j : ℕ) → over a j ≡ fore_link ls i → (i < length ls) × (i < j)
fore_rises ls i a j e = go (ltb i (length ls)) refl e
  where
    l : Line
    l = get_or ls i past_line

    go : (t : Bool) → ltb i (length ls) ≡ t → over a j ≡ cond t (link_of l.fore_arc l.fore_line (ltb i l.fore_line)) broken → (i < length ls) × (i < j)
    go true h e = let w = over_onward l.fore_arc l.fore_line (ltb i l.fore_line) a j e in (ltb-true i (length ls) h, omega (arith, w.0, ltb-true i l.fore_line w.1))
    go false h e = absurd (let q : ◌≡◌ {A = ℕ} 1 0 = ap leads_on e in omega arith)

-- over a link, fewer lines are left
pub link_nears : (way : Way) (ls : List Line) (i a j : ℕ) → over a j ≡ link_at way ls i → lines_left way ls j < lines_left way ls i
link_nears Back ls i a j e = back_falls ls i a j e
link_nears Fore ls i a j e = let w = fore_rises ls i a j e in omega (arith, w.0, w.1)

module _ (way : Way) (ls : List Line) where
  fuel_same : (f g i : ℕ) → lines_left way ls i < f → lines_left way ls i < g → walk (link_at way ls) f i ≡ walk (link_at way ls) g i
  fuel_same zero g i p q = absurd (omega arith)
  fuel_same (suc f) zero i p q = absurd (omega arith)
  fuel_same (suc f) (suc g) i p q = go (link_at way ls i) refl (λ j h. fuel_same f g j (omega arith) (omega arith))
    where
      go : (k : Leads) → link_at way ls i ≡ k → ((j : ℕ) → lines_left way ls j < lines_left way ls i → walk (link_at way ls) f j ≡ walk (link_at way ls) g j)
          → walk_step (link_at way ls) (λ j. walk (link_at way ls) f j) k ≡ walk_step (link_at way ls) (λ j. walk (link_at way ls) g j) k
      go (Ok None) e r = refl
      go (Ok (Some l)) e r = ap (on_some (λ es. l.arc ∷ es)) (r l.line (link_nears way ls i l.arc l.line (sym e)))
      go (Err x) e r = refl

  -- over a link the walk is that of the next line behind the link's arc
  pub walked_on : (i a j : ℕ) → over a j ≡ link_at way ls i → walked way ls i ≡ on_some (λ es. a ∷ es) (walked way ls j)
  walked_on i a j e =
      ap (λ k. walk_step (link_at way ls) (λ x. walk (link_at way ls) (lines_left way ls i) x) k) (sym e)
      ∙ ap (on_some (λ es. a ∷ es)) (fuel_same (lines_left way ls i) (suc (lines_left way ls j)) j (link_nears way ls i a j e) (omega arith))

  one_more : (n a : ℕ) (o : Option (List ℕ)) → ahead n (on_some length (on_some (λ es. a ∷ es) o)) ≡ ahead (n + 1) (on_some length o)
  one_more n a None = refl
  one_more n a (Some es) = ap Some (let e : n + length (a ∷ es) ≡ n + 1 + length es = omega arith in e)

  pub count_more : (i a j n : ℕ) → over a j ≡ link_at way ls i → ahead n (on_some length (walked way ls i)) ≡ ahead (n + 1) (on_some length (walked way ls j))
  count_more i a j n e = ap (λ o. ahead n (on_some length o)) (walked_on i a j e) ∙ one_more n a (walked way ls j)

  -- where there is no link more, nothing is walked
  pub walked_ends : (i : ℕ) → ends ≡ link_at way ls i → walked way ls i ≡ Some []
  walked_ends i e = ap (walk_step (link_at way ls) (λ x. walk (link_at way ls) (lines_left way ls i) x)) (sym e)

-- one arc more is written at the place k
module _ (way : Way) (ls : List Line) (i a j k : ℕ) (list : List ℕ) (on : over a j ≡ link_at way ls i) (below : k < length list) where
  pub wrote_more : on_some (λ es. take (k + 1) (set list k a) ++ es) (walked way ls j) ≡ on_some (λ es. take k list ++ es) (walked way ls i)
  wrote_more = go (walked way ls j) ∙ ap (on_some (λ es. take k list ++ es)) (sym (walked_on way ls i a j on))
    where
      go : (o : Option (List ℕ)) → on_some (λ es. take (k + 1) (set list k a) ++ es) o ≡ on_some (λ es. take k list ++ es) (on_some (λ es. a ∷ es) o)
      go None = refl
      go (Some es) = ap Some (ap (λ xs. xs ++ es) (take_more_set list k a below) ∙ append_assoc (take k list) (a ∷ []) es)

  pub fewer_to_write : on_some length (walked way ls i) ≡ Some (length list - k) → on_some length (walked way ls j) ≡ Some (length (set list k a) - (k + 1))
  fewer_to_write e = go (walked way ls j) (sym (ap (on_some length) (walked_on way ls i a j on)) ∙ e)
    where
      go : (o : Option (List ℕ)) → on_some length (on_some (λ es. a ∷ es) o) ≡ Some (length list - k) → on_some length o ≡ Some (length (set list k a) - (k + 1))
      go None e = absurd (let q : ◌≡◌ {A = ℕ} 0 1 = ap (λ o. cond (is_some o) 1 0) e in omega arith)
      go (Some es) e = let n : length (a ∷ es) ≡ length list - k = cc in ap Some (let m : length es ≡ length (set list k a) - (k + 1) = omega (arith, n, length-set list k a) in m)

pub back_on : (ls : List Line) (i a j : ℕ) → over a j ≡ back_link ls i → back_arcs ls i ≡ on_some (λ es. es ++ (a ∷ [])) (back_arcs ls j)
back_on ls i a j e = ap (on_some reverse) (walked_on Back ls i a j e) ∙ turned (walked Back ls j)
  where
    turned : (o : Option (List ℕ)) → on_some reverse (on_some (λ es. a ∷ es) o) ≡ on_some (λ es. es ++ (a ∷ [])) (on_some reverse o)
    turned None = refl
    turned (Some es) = ap Some (reverse-append (a ∷ []) es)

pub fore_on : (ls : List Line) (i a j : ℕ) → over a j ≡ fore_link ls i → fore_arcs ls i ≡ on_some (λ es. a ∷ es) (fore_arcs ls j)
fore_on ls i a j e = walked_on Fore ls i a j e
