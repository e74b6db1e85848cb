-- Nothing may follow a complete file. Assumes nothing.
use Rattle.std.proofs.Common.{◌≡◌, ℕ, suc, ◌+◌, Bool, true, false, cond, eqb, ltb, List, [], ◌∷◌, ◌++◌, length, Some, None, Option, sym, refl, ap, ◌∙◌, subst, arith}
use Rattle.reader.specs.declared.records.Kind.{Kind}
use Rattle.reader.specs.declared.records.Record.{Record}
use Rattle.reader.specs.declared.faults.FileFault.{FileFault}
use Rattle.reader.specs.declared.faults.FileFault.TheVariants.{NoBytes, TooLong, EndWrong, EndFollowed}
use Rattle.reader.specs.Format.{Scan, body, headed, file, scanned, record_of, value_line, end_line, is_end, closes, none, stop, after, complete}
use Rattle.reader.specs.Layouts.{Entry, layouts}
use Rattle.reader.specs.Names.{chosen}
use Rattle.reader.specs.Pieces.{pieces}
use Rattle.reader.proofs.Bodies.{SomePiece, some_piece, none_left}
use Rattle.std.specs.List.{onto_first}
use Rattle.std.proofs.lemmas.Bool.{ne_eqb}

-- the pieces of two lists joined: the last of the first and the first of the second make one
abbrev pub glue : List (List ℕ) → List (List ℕ) → List (List ℕ)
glue [] qs = qs
glue (p ∷ []) [] = p ∷ []
glue (p ∷ []) (q ∷ qs) = (p ++ q) ∷ qs
glue (p ∷ r ∷ ps) qs = p ∷ glue (r ∷ ps) qs

glue_more : (p : List ℕ) (ps qs : List (List ℕ)) → SomePiece ps → glue (p ∷ ps) qs ≡ p ∷ glue ps qs
glue_more p ps qs some = subst (λ l. glue (p ∷ l) qs ≡ p ∷ glue l qs) (sym some.1.1) refl

glue_first : (b : ℕ) (ps qs : List (List ℕ)) → onto_first b (glue ps qs) ≡ glue (onto_first b ps) qs
glue_first b [] [] = refl
glue_first b [] (q ∷ qs) = refl
glue_first b (p ∷ []) [] = refl
glue_first b (p ∷ []) (q ∷ qs) = refl
glue_first b (p ∷ r ∷ ps) qs = refl

pub pieces_append : (s : ℕ) (xs ys : List ℕ) → pieces s (xs ++ ys) ≡ glue (pieces s xs) (pieces s ys)
pieces_append s [] ys = let some = some_piece s ys in subst (λ l. l ≡ glue ([] ∷ []) l) (sym some.1.1) refl
pieces_append s (b ∷ xs) ys =
    elim (eqb b s) as (λ t. cond t ([] ∷ pieces s (xs ++ ys)) (onto_first b (pieces s (xs ++ ys))) ≡ glue (cond t ([] ∷ pieces s xs) (onto_first b (pieces s xs))) (pieces s ys)) [
      | true ↦ ap (λ l. [] ∷ l) (pieces_append s xs ys) ∙ sym (glue_more [] (pieces s xs) (pieces s ys) (some_piece s xs))
      | false ↦ ap (onto_first b) (pieces_append s xs ys) ∙ glue_first b (pieces s xs) (pieces s ys)
    ]

glue_some : (p : List ℕ) (ps qs : List (List ℕ)) → SomePiece (glue (p ∷ ps) qs)
glue_some p [] [] = (p, ([], refl))
glue_some p [] (q ∷ qs) = (p ++ q, (qs, refl))
glue_some p (r ∷ ps) qs = (p, (glue (r ∷ ps) qs, refl))

pub some_none : {X : Type 0} (x : X) → Some x ≡ None → ⊥
some_none x e = cc

-- a way that a complete scan cannot have gone
pub cond_complete : (t : Bool) (A : Scan) (f : FileFault) (l : ℕ) → (cond t A (stop f l)).ending ≡ None → (t ≡ true) × (A.ending ≡ None)
cond_complete true A f l h = (refl, h)
cond_complete false A f l h = absurd (some_none _ h)

pub end_complete : (l : ℕ) (p : List ℕ) (rest : List (List ℕ)) → (end_line l p rest).ending ≡ None → (closes l (pieces 44 p) ≡ true) × (none rest ≡ true)
end_complete l p rest h =
    let first = cond_complete (closes l (pieces 44 p)) (cond (none rest) complete (stop EndFollowed (l + 1))) EndWrong l h in
    (first.0, (cond_complete (none rest) complete EndFollowed (l + 1) first.1).0)

pub value_complete : (o : Option Record) (l : ℕ) (s : Scan) → (value_line o l s).ending ≡ None → (r : Record) × ((o ≡ Some r) × (s.ending ≡ None))
value_complete None l s h = absurd (some_none _ h)
value_complete (Some r) l s h = (r, (refl, h))

pub body_more : (k : Kind) (e : Entry) (ns : List (List ℕ)) (l : ℕ) (p : List ℕ) (ps : List (List ℕ)) → SomePiece ps → body k e ns l (p ∷ ps) ≡ cond (is_end p) (end_line (l + 1) p ps) (value_line (record_of k e ns (pieces 44 p)) (l + 1) (body k e ns (l + 1) ps))
body_more k e ns l p ps some = subst (λ h. body k e ns l (p ∷ h) ≡ cond (is_end p) (end_line (l + 1) p h) (value_line (record_of k e ns (pieces 44 p)) (l + 1) (body k e ns (l + 1) h))) (sym some.1.1) refl

either_way : (t : Bool) (A B C D : Scan) → (cond t A B).ending ≡ None → (cond t C D).ending ≡ None → (A.ending ≡ None → C.ending ≡ None → ⊥) → (B.ending ≡ None → D.ending ≡ None → ⊥) → ⊥
either_way true A B C D x y f g = f x y
either_way false A B C D x y f g = g x y

-- what is glued to no byte is itself
glue_none : (p : List ℕ) (ps qs : List (List ℕ)) → none (p ∷ ps) ≡ true → SomePiece qs → glue (p ∷ ps) qs ≡ qs
glue_none [] [] qs h some = subst (λ l. glue ([] ∷ []) l ≡ l) (sym some.1.1) refl
glue_none (b ∷ p) [] qs h some = absurd cc
glue_none p (r ∷ ps) qs h some = absurd cc

ends_once : (k : Kind) (e : Entry) (ns : List (List ℕ)) (l : ℕ) (ps qs : List (List ℕ)) → SomePiece qs → none qs ≡ false → (body k e ns l ps).ending ≡ None → (body k e ns l (glue ps qs)).ending ≡ None → ⊥
ends_once k e ns l [] qs some n h more = some_none _ h
ends_once k e ns l (p ∷ []) qs some n h more = some_none _ h
ends_once k e ns l (p ∷ q ∷ ps) qs some n h more =
    either_way (is_end p) _ _ _ _ h (subst (λ s. s.ending ≡ None) (body_more k e ns l p (glue (q ∷ ps) qs) (glue_some q ps qs)) more)
    (λ x y.
    let whole = glue_none q ps qs (end_complete (l + 1) p (q ∷ ps) x).1 some in
    let both : true ≡ false = sym (end_complete (l + 1) p (glue (q ∷ ps) qs) y).1 ∙ ap none whole ∙ n in
    cc)
    (λ x y. ends_once k e ns (l + 1) (q ∷ ps) qs some n (value_complete _ _ _ x).1.1 (value_complete _ _ _ y).1.1)

pub headed_complete : (k : Kind) (o : Option Entry) (ns ps : List (List ℕ)) → (headed k o ns ps).ending ≡ None → (e : Entry) × ((o ≡ Some e) × ((body k e ns 1 ps).ending ≡ None))
headed_complete k None ns ps h = absurd (some_none _ h)
headed_complete k (Some e) ns ps h = (e, (refl, h))

file_once : (k : Kind) (ps qs : List (List ℕ)) → SomePiece qs → none qs ≡ false → (file k ps).ending ≡ None → (file k (glue ps qs)).ending ≡ None → ⊥
file_once k [] qs some n h more = some_none _ h
file_once k (p ∷ []) qs some n h more = some_none _ h
file_once k (p ∷ q ∷ ps) qs some n h more =
    let o = chosen (layouts k) (pieces 44 p) in
    let told : file k (p ∷ glue (q ∷ ps) qs) ≡ headed k o (pieces 44 p) (glue (q ∷ ps) qs) =
    let g = glue_some q ps qs in subst (λ l. file k (p ∷ l) ≡ headed k o (pieces 44 p) l) (sym g.1.1) refl in
    let first = headed_complete k o (pieces 44 p) (q ∷ ps) h in
    let second = subst (λ s. s.ending ≡ None) (told ∙ ap (λ w. headed k w (pieces 44 p) (glue (q ∷ ps) qs)) first.1.0) more in
    ends_once k first.0 (pieces 44 p) 1 (q ∷ ps) qs some n first.1.1 second

pub sized : (k : Kind) (bs : List ℕ) → (scanned k bs).ending ≡ None → (ltb 60000 (length bs) ≡ false) × ((file k (pieces 10 bs)).ending ≡ None)
sized k bs h = go (eqb (length bs) 0) (ltb 60000 (length bs)) (file k (pieces 10 bs)) h
  where
    go : (e t : Bool) (A : Scan) → (cond e (stop NoBytes 0) (cond t (stop TooLong 0) A)).ending ≡ None → (t ≡ false) × (A.ending ≡ None)
    go true t A x = absurd (some_none _ x)
    go false true A x = absurd (some_none _ x)
    go false false A x = (refl, x)

-- a complete file with bytes after it is not complete
pub followed : (k : Kind) (bs : List ℕ) (b : ℕ) (more : List ℕ) → (scanned k bs).ending ≡ None → (scanned k (bs ++ (b ∷ more))).ending ≡ None → ⊥
followed k bs b more h after =
    file_once k (pieces 10 bs) (pieces 10 (b ∷ more)) (some_piece 10 (b ∷ more)) (none_left 10 (b ∷ more) ∙ ne_eqb (suc (length more)) 0 (λ e. omega arith))
    (sized k bs h).1 (subst (λ ps. (file k ps).ending ≡ None) (pieces_append 10 bs (b ∷ more)) (sized k (bs ++ (b ∷ more)) after).1)
