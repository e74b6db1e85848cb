-- What holds of each entry of the table of formats. Assumes nothing.
use Rattle.std.proofs.Common.{◌≡◌, ℕ, zero, suc, ◌<◌, ◌≤◌, Bool, true, false, cond, not, ◌&&◌, eqb, List, [], ◌∷◌, length, get_or, Some, None, Option, IfSome, slice_get, option_and_then, unwrap_or, sym, refl, ap, ◌∙◌, subst, inl, inr, ⊎_elim, arith, lit<, lit≤}
use Rattle.std.specs.List.Sorted.{IsPermutation}
use Rattle.std.specs.List.{list_all, AllByRecursion}
use Rattle.std.specs.Str.{bytes_eq}
use Rattle.std.proofs.lemmas.List.{get_or_past}
use Rattle.std.proofs.lemmas.Bool.{cases_lt}
use Rattle.std.proofs.lemmas.Slice.Eq.{bytes_eq-Decides}
use Rattle.std.proofs.lemmas.List.Sorted.{IsPermutation-sym, IsPermutation-trans}
use Rattle.std.proofs.lemmas.Bool.{and_parts, eqb-false, not-true}
use Rattle.std.proofs.ByRecursion.{All-weaker}
use Rattle.reader.specs.declared.records.Kind.{Kind}
use Rattle.reader.specs.declared.records.Kind.TheVariants.{Arcs, Delays, Bounds, FalseSets}
use Rattle.reader.specs.Files.{OneOf}
use Rattle.reader.specs.Layouts.{Entry, in_order, layouts, arity}
use Rattle.reader.specs.Names.{is_order, chosen, place}
use Rattle.reader.proofs.Rows.{place_within}
use Rattle.reader.proofs.Orders.{Among, Distinct, chosen_from, order_is, order_from, order_covers, order_long, place_among}

-- no comma and no byte 10
abbrev pub Plain : List ℕ → Type 0
Plain bs = AllByRecursion (λ b. (b ≡ 44 → ⊥) × (b ≡ 10 → ⊥)) bs

-- the name of value i
abbrev pub value_name : Entry → ℕ → List ℕ
value_name e i = get_or (e.values) i []

pub record Sound (k : Kind) (e : Entry) : Type 0 where
  pub distinct : Distinct e.columns
  pub plain : AllByRecursion Plain e.columns
  pub few : length e.columns ≤ 3
  pub some : 0 < length e.columns
  pub named : arity k ≤ length (e.values)
  pub within : (i : ℕ) → i < arity k → Among (value_name e i) e.columns
  pub onto : AllByRecursion (λ n. (i : ℕ) × ((i < arity k) × (value_name e i ≡ n))) e.columns

apart : (a b : List ℕ) → bytes_eq a b ≡ false → a ≡ b → ⊥
apart a b f e = let t = (bytes_eq-Decides a b).1 e in cc

-- tests that compute
abbrev is_plain : List ℕ → Bool
is_plain [] = true
is_plain (b ∷ bs) = not (eqb b 44) && (not (eqb b 10) && is_plain bs)

plain_from : (bs : List ℕ) → is_plain bs ≡ true → Plain bs
plain_from [] h = tt
plain_from (b ∷ bs) h =
    let first = and_parts _ _ h in
    let second = and_parts _ _ first.1 in
    ((eqb-false b 44 (not-true _ first.0), eqb-false b 10 (not-true _ second.0)), plain_from bs second.1)

all_plain : (ns : List (List ℕ)) → list_all is_plain ns ≡ true → AllByRecursion Plain ns
all_plain [] h = tt
all_plain (n ∷ ns) h = let parts = and_parts _ _ h in (plain_from n parts.0, all_plain ns parts.1)

others : (n : List ℕ) (ns : List (List ℕ)) → list_all (λ q. not (bytes_eq q n)) ns ≡ true → AllByRecursion (λ q. q ≡ n → ⊥) ns
others n [] h = tt
others n (q ∷ qs) h = let parts = and_parts _ _ h in (apart q n (not-true _ parts.0), others n qs parts.1)

abbrev are_distinct : List (List ℕ) → Bool
are_distinct [] = true
are_distinct (n ∷ ns) = list_all (λ q. not (bytes_eq q n)) ns && are_distinct ns

all_distinct : (ns : List (List ℕ)) → are_distinct ns ≡ true → Distinct ns
all_distinct [] h = tt
all_distinct (n ∷ ns) h = let parts = and_parts _ _ h in (others n ns parts.0, all_distinct ns parts.1)

-- each name is one of the names, and stands at a place
among_at : (ns : List (List ℕ)) (i : ℕ) → i < length ns → Among (get_or ns i []) ns
among_at [] i l = absurd (omega arith)
among_at (n ∷ ns) zero l = inl refl
among_at (n ∷ ns) (suc i) l = inr (among_at ns i (omega arith))

abbrev StandsIn : List (List ℕ) → List ℕ → Type 0
StandsIn ns n = (i : ℕ) × ((i < length ns) × (get_or ns i [] ≡ n))

all_stand : (ns : List (List ℕ)) → AllByRecursion (StandsIn ns) ns
all_stand [] = tt
all_stand (n ∷ ns) = ((0, (omega arith, refl)), All-weaker (StandsIn ns) (StandsIn (n ∷ ns)) (λ q s. (suc s.0, (omega (arith, s.1.0), s.1.1))) ns (all_stand ns))

-- an entry whose values stand in columns of their own names
sound_in_order : (k : Kind) (names : List (List ℕ)) → arity k ≡ length names → length names ≤ 3 → 0 < length names → are_distinct names ≡ true → list_all is_plain names ≡ true → Sound k (in_order names)
sound_in_order k names count few some distinct plain =
    record {
      distinct = all_distinct names distinct;
      plain = all_plain names plain;
      few = few;
      some = some;
      named = omega (arith, count);
      within = λ i l. among_at names i (omega (arith, count));
      onto = subst (λ n. AllByRecursion (λ q. (i : ℕ) × ((i < n) × (get_or names i [] ≡ q))) names) (sym count) (all_stand names);
    }

pub table : (k : Kind) → AllByRecursion (Sound k) (layouts k)
table Arcs = (sound_in_order Arcs _ refl (lit≤ tt) (lit< tt) refl refl, tt)
table Delays = (sound_in_order Delays _ refl (lit≤ tt) (lit< tt) refl refl, tt)
table Bounds = (sound_in_order Bounds _ refl (lit≤ tt) (lit< tt) refl refl, tt)
table FalseSets = (sound_in_order FalseSets _ refl (lit≤ tt) (lit< tt) refl refl, tt)

-- ---- what the names line of a file tells
pub fitting : (k : Kind) (ns : List (List ℕ)) (e : Entry) → chosen (layouts k) ns ≡ Some e → Sound k e × (is_order e.columns ns ≡ true)
fitting k ns e h = chosen_from (Sound k) (layouts k) ns e (table k) h

pub few_names : (k : Kind) (ns : List (List ℕ)) (e : Entry) → chosen (layouts k) ns ≡ Some e → length ns ≤ 3
few_names k ns e h = let f = fitting k ns e h in omega (arith, order_long e.columns ns f.1, f.0.few)

pub columns_few : (k : Kind) (ns : List (List ℕ)) (e : Entry) → chosen (layouts k) ns ≡ Some e → length e.columns ≤ 3
columns_few k ns e h = (fitting k ns e h).0.few

pub names_wide : (k : Kind) (ns : List (List ℕ)) (e : Entry) → chosen (layouts k) ns ≡ Some e → length ns ≡ length e.columns
names_wide k ns e h = order_long e.columns ns (fitting k ns e h).1

most_values : (k : Kind) → arity k ≤ 3
most_values Arcs = lit≤ tt
most_values Delays = lit≤ tt
most_values Bounds = lit≤ tt
most_values FalseSets = lit≤ tt

-- each value has its place, and none is past the third
module _ (k : Kind) (ns : List (List ℕ)) (e : Entry) (places : List ℕ) (found : chosen (layouts k) ns ≡ Some e)
    (three : length places ≡ 3) (at : (i : ℕ) → i < 3 → get_or places i 0 ≡ unwrap_or (option_and_then (λ v. place v ns) (slice_get e.values i)) 0) where
  pub places_found : (i : ℕ) → i < arity k → place (value_name e i) ns ≡ Some (get_or places i 0)
  places_found i l =
      let f = fitting k ns e found in
      let there = place_among (value_name e i) ns (order_covers e.columns ns f.1 (value_name e i) (f.0.within i l)) in
      let here : i < length e.values = omega (arith, f.0.named) in
      there.1 ∙ ap (λ p. Some p) (sym (at i (omega (arith, most_values k)) ∙ ap (λ o. unwrap_or (option_and_then (λ v. place v ns) o) 0) (slice_get_at e.values i here) ∙ ap (λ o. unwrap_or o 0) there.1))
    where
      slice_get_at : (xs : List (List ℕ)) (j : ℕ) → j < length xs → slice_get xs j ≡ Some (get_or xs j [])
      slice_get_at [] j h = absurd (omega arith)
      slice_get_at (x ∷ xs) zero h = refl
      slice_get_at (x ∷ xs) (suc j) h = slice_get_at xs j (omega arith)

  pub places_few : (i : ℕ) → get_or places i 0 < 3
  places_few i = ⊎_elim (λ l. subst (λ p. p < 3) (sym (at i l)) (few_place (slice_get e.values i))) (λ l. rw (get_or_past places i 0 (omega (arith, three))) (lit< tt)) (cases_lt i 3)
    where
      few_at : (o : Option ℕ) → IfSome o (λ p. p < length ns) → unwrap_or o 0 < 3
      few_at None h = lit< tt
      few_at (Some p) h = omega (arith, few_names k ns e found)

      few_place : (o : Option (List ℕ)) → unwrap_or (option_and_then (λ v. place v ns) o) 0 < 3
      few_place None = lit< tt
      few_place (Some v) = few_at (place v ns) (place_within v ns)

-- ---- one set of columns at most fits a names line
abbrev columns_of : Entry → List (List ℕ)
columns_of e = e.columns

-- no entry names the columns of a later one
abbrev Apart : List Entry → Type 0
Apart [] = Unit {0}
Apart (e ∷ es) = AllByRecursion (λ f. is_order (columns_of e) (columns_of f) ≡ false) es × Apart es

apart_table : (k : Kind) → Apart (layouts k)
apart_table Arcs = (tt, tt)
apart_table Delays = (tt, tt)
apart_table Bounds = (tt, tt)
apart_table FalseSets = (tt, tt)

pub one_of_all : (P : Entry → Type 0) (e : Entry) (es : List Entry) → AllByRecursion P es → OneOf e es → P e
one_of_all P e [] a h = absurd h
one_of_all P e (f ∷ fs) a (inl s) = subst P (sym s) a.0
one_of_all P e (f ∷ fs) a (inr h) = one_of_all P e fs a.1 h

one_of_self : (es : List Entry) → AllByRecursion (λ e. OneOf e es) es
one_of_self [] = tt
one_of_self (e ∷ es) = (inl refl, All-weaker (λ f. OneOf f es) (λ f. OneOf f (e ∷ es)) (λ f h. inr h) es (one_of_self es))

pub chosen_listed : (k : Kind) (ns : List (List ℕ)) (e : Entry) → chosen (layouts k) ns ≡ Some e → OneOf e (layouts k)
chosen_listed k ns e h = (chosen_from (λ f. OneOf f (layouts k)) (layouts k) ns e (one_of_self (layouts k)) h).0

not_both : (t : Bool) → t ≡ true → t ≡ false → ⊥
not_both t p q = cc

skipped : (t : Bool) (f : Entry) (o p : Option Entry) → (t ≡ true → ⊥) → o ≡ p → cond t (Some f) o ≡ p
skipped true f o p never h = absurd (never refl)
skipped false f o p never h = h

chosen_one : (es : List Entry) (e : Entry) (ns : List (List ℕ)) → Apart es → AllByRecursion (λ f. Distinct (columns_of f)) es → OneOf e es → IsPermutation (columns_of e) ns → chosen es ns ≡ Some e
chosen_one [] e ns a d h s = absurd h
chosen_one (f ∷ fs) e ns a d (inl is) s = rw (order_is (columns_of f) ns (subst (λ g. IsPermutation (columns_of g) ns) is s)) (ap (λ g. Some g) (sym is))
chosen_one (f ∷ fs) e ns a d (inr h) s =
    skipped (is_order (columns_of f) ns) f (chosen fs ns) (Some e)
    (λ t.
    let to = (order_from (columns_of f) ns d.0 t).0 in
    not_both _ (order_is (columns_of f) (columns_of e) (IsPermutation-trans (columns_of f) ns (columns_of e) to (IsPermutation-sym (columns_of e) ns s))) (one_of_all (λ g. is_order (columns_of f) (columns_of g) ≡ false) e fs a.0 h))
    (chosen_one fs e ns a.1 d.1 h s)

pub choice : (k : Kind) (e : Entry) (ns : List (List ℕ)) → OneOf e (layouts k) → IsPermutation (columns_of e) ns → chosen (layouts k) ns ≡ Some e
choice k e ns h s = chosen_one (layouts k) e ns (apart_table k) (All-weaker (Sound k) (λ f. Distinct (columns_of f)) (λ f g. g.distinct) (layouts k) (table k)) h s
