-- The record that a row makes is the one that the line's fields make. Assumes nothing.
use Rattle.std.proofs.Common.{◌≡◌, ℕ, zero, suc, ◌<◌, true, false, List, [], ◌∷◌, map, length, get_or, take, Some, None, Option, IfSome, slice_get, sym, refl, ap, ◌∙◌, subst, arith, lit<, length-take}
use Rattle.std.specs.Str.{bytes_eq}
use Rattle.std.proofs.lemmas.Bool.{eq-eqb}
use Rattle.std.proofs.lemmas.List.{get_or-map, get_or-take, length-map}
use Rattle.std.proofs.lemmas.List.Quantifiers.{position-Some}
use Rattle.reader.specs.declared.records.Kind.{Kind}
use Rattle.reader.specs.declared.records.Kind.TheVariants.{Arcs, Delays, Bounds, FalseSets}
use Rattle.reader.specs.declared.records.Record.TheVariants.{Arc, Delay, Bound, Pair}
use Rattle.reader.specs.Format.{both, three, number_in, side_in, record_from, record_of, text_of}
use Rattle.reader.specs.Layouts.{Entry, arity}
use Rattle.reader.specs.Names.{lookup, place}

-- what stands in a row at a place of the line
pub row_at : {X Y : Type 0} (v : X → Y) (row : List X) (all : List Y) (w i : ℕ) (d : X) (e : Y) → map v (take w row) ≡ all → i < length all → get_or all i e ≡ v (get_or row i d)
row_at v row all w i d e is l =
    let long : i < length (take w row) = omega (arith, ap length is, length-map (take w row) v) in
    ap (λ ys. get_or ys i e) (sym is) ∙ get_or-map v (take w row) i d e long ∙ ap v (get_or-take w row i d (omega (arith, length-take w row)))

-- ---- the field under a name stands at the name's place
lookup_at : (q : List ℕ) (ns fs : List (List ℕ)) (p : ℕ) → length ns ≡ length fs → p < length ns → bytes_eq (get_or ns p []) q ≡ true
    → ((k : ℕ) → k < p → bytes_eq (get_or ns k []) q ≡ false) → lookup q ns fs ≡ Some (get_or fs p [])
lookup_at q [] fs p long l here clear = absurd (omega arith)
lookup_at q (n ∷ ns) [] p long l here clear = absurd (omega arith)
lookup_at q (n ∷ ns) (f ∷ fs) zero long l here clear = rw here
lookup_at q (n ∷ ns) (f ∷ fs) (suc p) long l here clear = rw (clear 0 (omega arith)) (lookup_at q ns fs p (omega arith) (omega arith) here (λ k h. clear (suc k) (omega arith)))

pub lookup_place : (q : List ℕ) (ns fs : List (List ℕ)) (p : ℕ) → length ns ≡ length fs → place q ns ≡ Some p → lookup q ns fs ≡ Some (get_or fs p [])
lookup_place q ns fs p long h = let found = position-Some (λ n. bytes_eq n q) ns p [] h in lookup_at q ns fs p long found.0 found.1 found.2

pub place_within : (q : List ℕ) (ns : List (List ℕ)) → IfSome (place q ns) (λ p. p < length ns)
place_within q ns = within (place q ns) refl
  where
    within : (o : Option ℕ) → place q ns ≡ o → IfSome o (λ p. p < length ns)
    within None h = tt
    within (Some p) h = (position-Some (λ n. bytes_eq n q) ns p [] h).0

-- ---- the texts at the values' places make the record of the line's fields
module _ {X : Type 0} (v : X → List ℕ) (row : List X) (d : X) (w : ℕ) (k : Kind) (e : Entry) (ns fs : List (List ℕ)) (places : List ℕ)
    (long : length ns ≡ length fs) (is : map v (take w row) ≡ fs)
    (placed : (i : ℕ) → i < arity k → place (get_or e.values i []) ns ≡ Some (get_or places i 0)) where
  abbrev text : ℕ → List ℕ
  text i = v (get_or row (get_or places i 0) d)

  found : (i : ℕ) → i < arity k → Some (text i) ≡ text_of e ns fs i
  found i l =
      let within : get_or places i 0 < length fs = omega (arith, (position-Some (λ n. bytes_eq n (get_or e.values i [])) ns (get_or places i 0) [] (placed i l)).0, long) in
      ap (λ t. Some t) (sym (row_at v row fs w (get_or places i 0) d [] is within)) ∙ sym (lookup_place _ ns fs _ long (placed i l))

  same_record : (kind : Kind) → kind ≡ k → record_from kind (slice_get (text 0 ∷ text 1 ∷ text 2 ∷ [])) ≡ record_from kind (text_of e ns fs)
  same_record Arcs same =
      let at : (i : ℕ) → i < 2 → Some (text i) ≡ text_of e ns fs i = λ i l. found i (subst (λ x. i < arity x) same l) in
      λ j. both Arc (number_in (at 0 (lit< tt) j)) (number_in (at 1 (lit< tt) j))
  same_record Delays same =
      let at : (i : ℕ) → i < 2 → Some (text i) ≡ text_of e ns fs i = λ i l. found i (subst (λ x. i < arity x) same l) in
      λ j. both Delay (number_in (at 0 (lit< tt) j)) (number_in (at 1 (lit< tt) j))
  same_record Bounds same =
      let at : (i : ℕ) → i < 3 → Some (text i) ≡ text_of e ns fs i = λ i l. found i (subst (λ x. i < arity x) same l) in
      λ j. three Bound (number_in (at 0 (lit< tt) j)) (side_in (at 1 (lit< tt) j)) (number_in (at 2 (lit< tt) j))
  same_record FalseSets same =
      let at : (i : ℕ) → i < 3 → Some (text i) ≡ text_of e ns fs i = λ i l. found i (subst (λ x. i < arity x) same l) in
      λ j. three Pair (number_in (at 0 (lit< tt) j)) (number_in (at 1 (lit< tt) j)) (number_in (at 2 (lit< tt) j))

  pub record_row : record_from k (slice_get (text 0 ∷ text 1 ∷ text 2 ∷ [])) ≡ record_of k e ns fs
  record_row = same_record k refl ∙ sym (rw (eq-eqb (length ns) (length fs) long))
