-- The columns' names, each once, in any order. Assumes nothing.
use Rattle.std.proofs.Common.{◌≡◌, ℕ, ◌+◌, Bool, true, false, cond, ◌||◌, ◌⊎◌, List, [], ◌∷◌, ◌++◌, length, Option, Some, None, sym, refl, ap, ◌∙◌, subst, inl, inr, arith, length-append}
use Rattle.std.specs.List.Sorted.{IsPermutation}
use Rattle.std.specs.List.{list_all, position_from, AllByRecursion}
use Rattle.std.proofs.lemmas.Iterator.Adapters.{position_from-zero}
use Rattle.std.specs.Str.{bytes_eq}
use Rattle.std.proofs.lemmas.Slice.Eq.{bytes_eq-Decides}
use Rattle.std.proofs.lemmas.List.Sorted.{IsPermutation-refl, IsPermutation-sym, IsPermutation-cons, IsPermutation-swap, IsPermutation-trans, length_permutation}
use Rattle.std.proofs.ByRecursion.{all_shuffled, All-weaker}
use Rattle.std.proofs.lemmas.Bool.{and_parts, and_from, eq-eqb, eqb-true, or_right}
use Rattle.reader.specs.Layouts.{Entry}
use Rattle.reader.specs.Names.{among, is_order, chosen, place}

abbrev pub Among : List ℕ → List (List ℕ) → Type 0
Among q [] = ⊥
Among q (n ∷ ns) = (n ≡ q) ⊎ Among q ns

abbrev pub Distinct : List (List ℕ) → Type 0
Distinct [] = Unit {0}
Distinct (n ∷ ns) = AllByRecursion (λ q. q ≡ n → ⊥) ns × Distinct ns

pub both_all : {X : Type 0} (P Q R : X → Type 0) → ((x : X) → P x → Q x → R x) → (xs : List X) → AllByRecursion P xs → AllByRecursion Q xs → AllByRecursion R xs
both_all P Q R f [] a b = tt
both_all P Q R f (x ∷ xs) a b = (f x a.0 b.0, both_all P Q R f xs a.1 b.1)

pub all_self : (ns : List (List ℕ)) → AllByRecursion (λ q. Among q ns) ns
all_self [] = tt
all_self (n ∷ ns) = (inl refl, All-weaker (λ q. Among q ns) (λ q. Among q (n ∷ ns)) (λ q h. inr h) ns (all_self ns))

pub all_at : (P : List ℕ → Type 0) (q : List ℕ) (ns : List (List ℕ)) → AllByRecursion P ns → Among q ns → P q
all_at P q [] a h = absurd h
all_at P q (n ∷ ns) a (inl e) = subst P e a.0
all_at P q (n ∷ ns) a (inr h) = all_at P q ns a.1 h

-- the test of it
among_way : (q n : List ℕ) (ns : List (List ℕ)) (t : Bool) → bytes_eq n q ≡ t → (t || among q ns) ≡ true → (among q ns ≡ true → Among q ns) → Among q (n ∷ ns)
among_way q n ns true e h later = inl ((bytes_eq-Decides n q).0 e)
among_way q n ns false e h later = inr (later h)

among_true : (q : List ℕ) (ns : List (List ℕ)) → among q ns ≡ true → Among q ns
among_true q [] h = cc
among_true q (n ∷ ns) h = among_way q n ns (bytes_eq n q) refl h (among_true q ns)

true_among : (q : List ℕ) (ns : List (List ℕ)) → Among q ns → among q ns ≡ true
true_among q [] h = absurd h
true_among q (n ∷ ns) (inl e) = rw ((bytes_eq-Decides n q).1 e)
true_among q (n ∷ ns) (inr h) = or_right (bytes_eq n q) (among q ns) (true_among q ns h)

covers_all : (qs ns : List (List ℕ)) → AllByRecursion (λ q. Among q ns) qs → list_all (λ q. among q ns) qs ≡ true
covers_all [] ns h = refl
covers_all (q ∷ qs) ns h = and_from _ _ (true_among q ns h.0) (covers_all qs ns h.1)

pub all_covered : (qs ns : List (List ℕ)) → list_all (λ q. among q ns) qs ≡ true → AllByRecursion (λ q. Among q ns) qs
all_covered [] ns h = tt
all_covered (q ∷ qs) ns h = let parts = and_parts _ _ h in (among_true q ns parts.0, all_covered qs ns parts.1)

-- from an order of the columns to the test
pub order_is : (cs ns : List (List ℕ)) → IsPermutation cs ns → is_order cs ns ≡ true
order_is cs ns h = and_from _ _ (eq-eqb (length ns) (length cs) (length_permutation cs ns h)) (covers_all cs ns (all_shuffled (λ q. Among q ns) ns cs (IsPermutation-sym cs ns h) (all_self ns)))

-- and back: as many names as there are columns, among which are all of the columns
split : (h : List ℕ) (ns : List (List ℕ)) → Among h ns → (us : List (List ℕ)) × ((vs : List (List ℕ)) × (ns ≡ us ++ (h ∷ vs)))
split h [] a = absurd a
split h (n ∷ ns) (inl e) = ([], (ns, ap (λ m. m ∷ ns) e))
split h (n ∷ ns) (inr a) = let s = split h ns a in (n ∷ s.0, (s.1.0, ap (λ l. n ∷ l) s.1.1))

among_other : (q h : List ℕ) (us vs : List (List ℕ)) → (q ≡ h → ⊥) → Among q (us ++ (h ∷ vs)) → Among q (us ++ vs)
among_other q h [] vs ne (inl e) = absurd (ne (sym e))
among_other q h [] vs ne (inr a) = a
among_other q h (u ∷ us) vs ne (inl e) = inl e
among_other q h (u ∷ us) vs ne (inr a) = inr (among_other q h us vs ne a)

all_insert : (P : List ℕ → Type 0) (h : List ℕ) (us vs : List (List ℕ)) → P h → AllByRecursion P (us ++ vs) → AllByRecursion P (us ++ (h ∷ vs))
all_insert P h [] vs p a = (p, a)
all_insert P h (u ∷ us) vs p a = (a.0, all_insert P h us vs p a.1)

distinct_insert : (h : List ℕ) (us vs : List (List ℕ)) → AllByRecursion (λ n. n ≡ h → ⊥) (us ++ vs) → Distinct (us ++ vs) → Distinct (us ++ (h ∷ vs))
distinct_insert h [] vs a d = (a, d)
distinct_insert h (u ∷ us) vs a d = (all_insert (λ q. q ≡ u → ⊥) h us vs (λ e. a.0 (sym e)) d.0, distinct_insert h us vs a.1 d.1)

swapped : (a b : List ℕ) (l : List (List ℕ)) → IsPermutation (a ∷ b ∷ l) (b ∷ a ∷ l)
swapped a b l = IsPermutation-swap (a ∷ b ∷ l) (b ∷ a ∷ l) 0 1 (omega arith) (omega arith) refl

to_middle : (h : List ℕ) (us vs : List (List ℕ)) → IsPermutation (h ∷ (us ++ vs)) (us ++ (h ∷ vs))
to_middle h [] vs = IsPermutation-refl (h ∷ vs)
to_middle h (u ∷ us) vs = IsPermutation-trans _ (u ∷ (h ∷ (us ++ vs))) _ (swapped h u (us ++ vs)) (IsPermutation-cons u _ _ (to_middle h us vs))

pigeon : (hs ns : List (List ℕ)) → Distinct hs → AllByRecursion (λ q. Among q ns) hs → length ns ≡ length hs → IsPermutation hs ns × Distinct ns
pigeon [] [] d a e = (IsPermutation-refl [], tt)
pigeon [] (n ∷ ns) d a e = absurd (omega arith)
pigeon (h ∷ hs) ns d a e =
    let s = split h ns a.0 in
    let us = s.0 in
    let vs = s.1.0 in
    let is = s.1.1 in
    let rest : AllByRecursion (λ q. Among q (us ++ vs)) hs = both_all (λ q. q ≡ h → ⊥) (λ q. Among q ns) (λ q. Among q (us ++ vs)) (λ q ne x. among_other q h us vs ne (subst (Among q) is x)) hs d.0 a.1 in
    let long = simp length-append at (ap length is) in
    let found = pigeon hs (us ++ vs) d.1 rest (simp length-append (omega arith)) in
    subst (λ l. IsPermutation (h ∷ hs) l × Distinct l) (sym is)
    (IsPermutation-trans _ (h ∷ (us ++ vs)) _ (IsPermutation-cons h hs (us ++ vs) found.0) (to_middle h us vs), distinct_insert h us vs (all_shuffled (λ n. n ≡ h → ⊥) hs (us ++ vs) found.0 d.0) found.1)

pub order_from : (cs ns : List (List ℕ)) → Distinct cs → is_order cs ns ≡ true → IsPermutation cs ns × Distinct ns
order_from cs ns d h = let parts = and_parts _ _ h in pigeon cs ns d (all_covered cs ns parts.1) (eqb-true (length ns) (length cs) parts.0)

pub order_long : (cs ns : List (List ℕ)) → is_order cs ns ≡ true → length ns ≡ length cs
order_long cs ns h = eqb-true (length ns) (length cs) (and_parts _ _ h).0

pub order_covers : (cs ns : List (List ℕ)) → is_order cs ns ≡ true → (q : List ℕ) → Among q cs → Among q ns
order_covers cs ns h q a = all_at (λ n. Among n ns) q cs (all_covered cs ns (and_parts _ _ h).1) a

-- a name that is there has a place
place_from : (q : List ℕ) (i : ℕ) (ns : List (List ℕ)) → Among q ns → (p : ℕ) × (position_from (λ n. bytes_eq n q) i ns ≡ Some p)
place_from q i [] h = absurd h
place_from q i (n ∷ ns) (inl e) = (i, rw ((bytes_eq-Decides n q).1 e))
place_from q i (n ∷ ns) (inr h) = place_there (bytes_eq n q) (place_from q (i + 1) ns h)
  where
    place_there : {o : Option ℕ} (t : Bool) → (p : ℕ) × (o ≡ Some p) → (p : ℕ) × (cond t (Some i) o ≡ Some p)
    place_there true later = (i, refl)
    place_there false later = later

pub place_among : (q : List ℕ) (ns : List (List ℕ)) → Among q ns → (p : ℕ) × (place q ns ≡ Some p)
place_among q ns h = let found = place_from q 0 ns h in (found.0, position_from-zero (λ n. bytes_eq n q) ns ∙ found.1)

-- an entry that was chosen is one of the table's, and its columns are those that the line names
chosen_way : (P : Entry → Type 0) (e f : Entry) (es : List Entry) (ns : List (List ℕ)) (t : Bool) → is_order e.columns ns ≡ t → P e
    → cond t (Some e) (chosen es ns) ≡ Some f → (chosen es ns ≡ Some f → P f × (is_order f.columns ns ≡ true)) → P f × (is_order f.columns ns ≡ true)
chosen_way P e f es ns true is p h later = let same : e ≡ f = some_same e f h in subst (λ x. P x × (is_order x.columns ns ≡ true)) same (p, is)
  where
    some_same : (x y : Entry) → Some x ≡ Some y → x ≡ y
    some_same x y s = cc
chosen_way P e f es ns false is p h later = later h

pub chosen_from : (P : Entry → Type 0) (es : List Entry) (ns : List (List ℕ)) (f : Entry) → AllByRecursion P es → chosen es ns ≡ Some f → P f × (is_order f.columns ns ≡ true)
chosen_from P [] ns f a h = absurd (none_some f h)
  where
    none_some : (x : Entry) → None ≡ Some x → ⊥
    none_some x s = cc
chosen_from P (e ∷ es) ns f a h = chosen_way P e f es ns (is_order e.columns ns) refl a.0 h (chosen_from P es ns f a.1)
