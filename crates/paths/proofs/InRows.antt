-- A block of tick counts in range is sound in the rows of every measure.
use Rattle.std.proofs.Common.{◌≡◌, ℕ, ◌<◌, Bool, ◌⊎◌, List, [], ◌∷◌, map, ℤ, Some, None, Option, sym, refl, subst, inl, inr}
use mathlib.Core.List.Memᴰ
use Rattle.measure.specs.Rows.{Row, Within, Bounded, on_some}
use Rattle.measure.specs.Laws.{Laws}
use Rattle.paths.specs.Blocks.{Arc, RowBlock, Live, ByNumber}
use Rattle.paths.specs.Graphs.{arc_in_rows, in_rows}
use Rattle.paths.specs.Sound.{Sound}
use Rattle.paths.proofs.Choosing.{In, in_nil, all_in, in_all, none_some, some_is}

pub in_map : {X Y : Type 0} (f : X → Y) (xs : List X) (y : Y) → In y (map f xs) → (x : X) × In x xs × (y ≡ f x)
in_map f [] y i = in_nil y i
in_map {X} {Y} f (x ∷ xs) y i = go (Memᴰ.cases_cons i) (λ j. in_map f xs y j)
  where
    go : (y ≡ f x) ⊎ In y (map f xs) → (In y (map f xs) → (z : X) × In z xs × (y ≡ f z)) → (z : X) × In z (x ∷ xs) × (y ≡ f z)
    go (inl e) g = (x, Memᴰ.head refl, e)
    go (inr j) g = let w = g j in (w.0, Memᴰ.tail w.1, w.2)

by_number : {R : Type 0} (row_of_arc : ℤ → R) (es : List (Arc ℤ)) → ByNumber es → ByNumber (map (arc_in_rows row_of_arc) es)
by_number row_of_arc [] h = tt
by_number {R} row_of_arc (e ∷ es) h = (in_all (λ k. e.number < k.number) (map (arc_in_rows row_of_arc) es) later, by_number row_of_arc es h.1)
  where
    later : (k : Arc R) → In k (map (arc_in_rows row_of_arc) es) → e.number < k.number
    later k i =
        let w = in_map (arc_in_rows row_of_arc) es k i in
        subst (λ (z : Arc R). e.number < z.number) (sym w.2) (all_in (λ (k : Arc ℤ). e.number < k.number) es h.0 w.0 w.1)

from_some : {R : Type 0} (f : ℤ → R) (o : Option ℤ) (x : R) → on_some f o ≡ Some x → (t : ℤ) × (o ≡ Some t) × (x ≡ f t)
from_some f None x e = absurd (none_some x e)
from_some f (Some t) x e = (t, refl, sym (some_is (f t) x e))

-- small tick counts become small rows
pub sound_in_rows : (w : ℕ) (not_later : Row w → Row w → Bool) (row_of_time row_of_arc : ℤ → Row w) → Laws w not_later row_of_time row_of_arc
    → (b : RowBlock ℤ) (n : ℕ) → Sound (Within 1000000) b n → Sound (Bounded w 1000000) (in_rows row_of_time row_of_arc b) n
sound_in_rows w not_later row_of_time row_of_arc laws b n ticked = record {
  few = ticked.few;
  rising = λ e l. let o = old e l in subst (λ (z : Arc (Row w)). z.from < z.to) (sym o.2) (ticked.rising o.0 o.1);
  below = λ e l. let o = old e l in subst (λ (z : Arc (Row w)). z.to < n) (sym o.2) (ticked.below o.0 o.1);
  numbered = λ e l. let o = old e l in subst (λ (z : Arc (Row w)). z.number < 1024) (sym o.2) (ticked.numbered o.0 o.1);
  by_number = by_number row_of_arc b.arcs ticked.by_number;
  arcs = λ e l. let o = old e l in subst (λ (z : Arc (Row w)). Bounded w 1000000 z.row) (sym o.2) (laws.arc o.0.row (ticked.arcs o.0 o.1));
  starts = λ v x e. let o = from_some row_of_time (b.start v) x e in subst (λ r. Bounded w 1000000 r) (sym o.2) (laws.time o.0 (ticked.starts v o.0 o.1));
  ends = λ v x e. let o = from_some row_of_time (b.end v) x e in subst (λ r. Bounded w 1000000 r) (sym o.2) (laws.time o.0 (ticked.ends v o.0 o.1));
}
  where
    old : (e : Arc (Row w)) → Live (in_rows row_of_time row_of_arc b) e → (a : Arc ℤ) × In a b.arcs × (e ≡ arc_in_rows row_of_arc a)
    old e l = in_map (arc_in_rows row_of_arc) b.arcs e l
