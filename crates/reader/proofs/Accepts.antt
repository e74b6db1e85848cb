-- What is accepted is a good file. Assumes nothing.
use Rattle.std.proofs.Common.{◌≡◌, ℕ, zero, suc, ◌+◌, ◌<◌, ◌≤◌, Bool, true, false, cond, eqb, ltb, List, [], ◌∷◌, ◌++◌, length, get_or, ℤ, pos, negsuc, nat_abs, Some, None, codes, decimal, Option, sym, refl, ap, ◌∙◌, subst, append_assoc, arith}
use Rattle.std.specs.List.{flat_map, join_with_byte, AllByRecursion}
use Rattle.std.specs.Fmt.{signed_decimal}
use Rattle.std.proofs.lemmas.List.Splits.{join_with_byte-slice_split}
use Rattle.std.proofs.lemmas.Slice.Eq.{bytes_eq-Decides}
use Rattle.std.proofs.lemmas.Bool.{eqb-true, ltb-false}
use Rattle.reader.specs.declared.records.Kind.{Kind}
use Rattle.reader.specs.declared.records.Kind.TheVariants.{Arcs, Delays, Bounds, FalseSets}
use Rattle.reader.specs.declared.records.Side.{Side}
use Rattle.reader.specs.declared.records.Side.TheVariants.{Start, End}
use Rattle.reader.specs.declared.records.Record.{Record}
use Rattle.reader.specs.declared.records.Record.TheVariants.{Arc, Delay, Bound, Pair}
use Rattle.reader.specs.declared.faults.FileFault.TheVariants.{NoBytes, TooLong}
use Rattle.reader.specs.Files.{line_of, letter_of, texts, Fitting, Line, Lines, Good}
use Rattle.reader.specs.Format.{Scan, both, three, number_in, side_in, record_from, text_of, record_of, is_end, first_is_end, closes, count_is, none, end_line, value_line, body, headed, file, scanned, stop, complete}
use Rattle.reader.specs.Layouts.{Entry, layouts}
use Rattle.reader.specs.Names.{chosen}
use Rattle.reader.specs.Numbers.{number}
use Rattle.reader.specs.Records.{letter_side}
use Rattle.reader.specs.Pieces.{pieces}
use Rattle.reader.proofs.Digits.{number_back}
use Rattle.reader.proofs.Orders.{order_from}
use Rattle.reader.proofs.Prefixes.{some_none, end_complete, value_complete, sized}
use Rattle.reader.proofs.Table.{fitting, chosen_listed}

pub rejoined : (s : ℕ) (bs : List ℕ) → join_with_byte s (pieces s bs) ≡ bs
rejoined s bs = join_with_byte-slice_split s bs

side_way : (c : ℕ) (s : Side) (t u : Bool) → eqb c 115 ≡ t → eqb c 101 ≡ u → cond t (Some Start) (cond u (Some End) None) ≡ Some s → (c ∷ []) ≡ letter_of s
side_way c Start true u e f h = ap (λ b. b ∷ []) (eqb-true c 115 e)
side_way c End true u e f h = absurd cc
side_way c Start false true e f h = absurd cc
side_way c End false true e f h = ap (λ b. b ∷ []) (eqb-true c 101 f)
side_way c s false false e f h = absurd cc

letter_back : (bs : List ℕ) (s : Side) → letter_side bs ≡ Some s → bs ≡ letter_of s
letter_back [] s h = absurd cc
letter_back (c ∷ []) s h = side_way c s (eqb c 115) (eqb c 101) refl refl h
letter_back (c ∷ d ∷ bs) s h = absurd cc

both_back : {A B C : Type 0} (f : A → B → C) (a : Option A) (b : Option B) (c : C) → both f a b ≡ Some c → (x : A) × ((y : B) × ((a ≡ Some x) × ((b ≡ Some y) × (c ≡ f x y))))
both_back f None b c h = absurd cc
both_back f (Some x) None c h = absurd cc
both_back f (Some x) (Some y) c h = (x, (y, (refl, (refl, cc))))

three_back : {A B C D : Type 0} (f : A → B → C → D) (a : Option A) (b : Option B) (c : Option C) (d : D) → three f a b c ≡ Some d → (x : A) × ((y : B) × ((z : C) × ((a ≡ Some x) × ((b ≡ Some y) × ((c ≡ Some z) × (d ≡ f x y z))))))
three_back f None b c d h = absurd cc
three_back f (Some x) None c d h = absurd cc
three_back f (Some x) (Some y) None d h = absurd cc
three_back f (Some x) (Some y) (Some z) d h = (x, (y, (z, (refl, (refl, (refl, cc))))))

-- what a value's text says, and that it is written so
number_found : (o : Option (List ℕ)) (z : ℤ) → number_in o ≡ Some z → (o ≡ Some (signed_decimal z)) × (nat_abs z < 10000000)
number_found None z h = absurd cc
number_found (Some text) z h = let n = number_back text z h in (ap (λ t. Some t) n.0, n.1)

side_found : (o : Option (List ℕ)) (s : Side) → side_in o ≡ Some s → o ≡ Some (letter_of s)
side_found None s h = absurd cc
side_found (Some text) s h = ap (λ t. Some t) (letter_back text s h)

-- under the column of each value stands its text
abbrev Holds : Kind → (ℕ → Option (List ℕ)) → Record → Type 0
Holds k text r = Fitting k r × ((i : ℕ) → i < length (texts r) → text i ≡ Some (get_or (texts r) i []))

-- what holds of 0 and 1 holds below 2, and so below 3
below_two : (P : ℕ → Type 0) → P 0 → P 1 → (i : ℕ) → i < 2 → P i
below_two P a b zero h = a
below_two P a b (suc zero) h = b
below_two P a b (suc (suc i)) h = absurd (omega arith)

below_three : (P : ℕ → Type 0) → P 0 → P 1 → P 2 → (i : ℕ) → i < 3 → P i
below_three P a b c zero h = a
below_three P a b c (suc zero) h = b
below_three P a b c (suc (suc zero)) h = c
below_three P a b c (suc (suc (suc i))) h = absurd (omega arith)

two_hold : (text : ℕ → Option (List ℕ)) (a b : List ℕ) → text 0 ≡ Some a → text 1 ≡ Some b → (i : ℕ) → i < 2 → text i ≡ Some (get_or (a ∷ b ∷ []) i [])
two_hold text a b p q = below_two (λ i. text i ≡ Some (get_or (a ∷ b ∷ []) i [])) p q

three_hold : (text : ℕ → Option (List ℕ)) (a b c : List ℕ) → text 0 ≡ Some a → text 1 ≡ Some b → text 2 ≡ Some c → (i : ℕ) → i < 3 → text i ≡ Some (get_or (a ∷ b ∷ c ∷ []) i [])
three_hold text a b c p q s = below_three (λ i. text i ≡ Some (get_or (a ∷ b ∷ c ∷ []) i [])) p q s

held : (k : Kind) (text : ℕ → Option (List ℕ)) (r : Record) → record_from k text ≡ Some r → Holds k text r
held Arcs text r h =
    let p = both_back Arc _ _ r h in
    let a = number_found (text 0) p.0 p.1.1.0 in
    let b = number_found (text 1) p.1.0 p.1.1.1.0 in
    subst (Holds Arcs text) (sym p.1.1.1.1) (record { kind = refl; numbers = (a.1, (b.1, tt)) }, two_hold text _ _ a.0 b.0)
held Delays text r h =
    let p = both_back Delay _ _ r h in
    let a = number_found (text 0) p.0 p.1.1.0 in
    let b = number_found (text 1) p.1.0 p.1.1.1.0 in
    subst (Holds Delays text) (sym p.1.1.1.1) (record { kind = refl; numbers = (a.1, (b.1, tt)) }, two_hold text _ _ a.0 b.0)
held Bounds text r h =
    let p = three_back Bound _ _ _ r h in
    let eqs = p.1.1.1 in
    let a = number_found (text 0) p.0 eqs.0 in
    let s = side_found (text 1) p.1.0 eqs.1.0 in
    let b = number_found (text 2) p.1.1.0 eqs.1.1.0 in
    subst (Holds Bounds text) (sym eqs.1.1.1) (record { kind = refl; numbers = (a.1, (b.1, tt)) }, three_hold text _ _ _ a.0 s b.0)
held FalseSets text r h =
    let p = three_back Pair _ _ _ r h in
    let eqs = p.1.1.1 in
    let a = number_found (text 0) p.0 eqs.0 in
    let b = number_found (text 1) p.1.0 eqs.1.0 in
    let d = number_found (text 2) p.1.1.0 eqs.1.1.0 in
    subst (Holds FalseSets text) (sym eqs.1.1.1) (record { kind = refl; numbers = (a.1, (b.1, (d.1, tt))) }, three_hold text _ _ _ a.0 b.0 d.0)

line_way : (k : Kind) (e : Entry) (ns fs : List (List ℕ)) (r : Record) (t : Bool) → eqb (length ns) (length fs) ≡ t → cond t (record_from k (text_of e ns fs)) None ≡ Some r → Line e ns r fs × Fitting k r
line_way k e ns fs r false s h = absurd cc
line_way k e ns fs r true s h = let there = held k (text_of e ns fs) r h in (record { wide = eqb-true (length ns) (length fs) s; values = there.1 }, there.0)

-- an accepted value line is what is written of its record
value_back : (k : Kind) (e : Entry) (ns fs : List (List ℕ)) (r : Record) → record_of k e ns fs ≡ Some r → Line e ns r fs × Fitting k r
value_back k e ns fs r h = line_way k e ns fs r (eqb (length ns) (length fs)) refl h

-- an accepted end line is what is written of its count
count_back_lem : (l : ℕ) (o : Option ℤ) → count_is l o ≡ true → (n : ℕ) × ((o ≡ Some (pos n)) × (n + 2 ≡ l))
count_back_lem l None h = absurd cc
count_back_lem l (Some (pos n)) h = (n, (refl, eqb-true (n + 2) l h))
count_back_lem l (Some (negsuc n)) h = absurd cc

end_fields : (l : ℕ) (fs : List (List ℕ)) → first_is_end fs ≡ true → closes l fs ≡ true → (n : ℕ) × ((fs ≡ codes "end" ∷ decimal n ∷ []) × (n + 2 ≡ l))
end_fields l [] e h = absurd cc
end_fields l (f ∷ []) e h = absurd cc
end_fields l (f ∷ g ∷ []) e h =
    let c = count_back_lem l (number g) h in
    (c.0, (ap (λ w. w ∷ g ∷ []) ((bytes_eq-Decides f (codes "end")).0 e) ∙ ap (λ w. codes "end" ∷ w ∷ []) (number_back g (pos c.0) c.1.0).0, c.1.1))
end_fields l (f ∷ g ∷ i ∷ fs) e h = absurd cc

end_back : (l : ℕ) (p : List ℕ) → is_end p ≡ true → closes l (pieces 44 p) ≡ true → (n : ℕ) × ((p ≡ join_with_byte 44 (codes "end" ∷ decimal n ∷ [])) × (n + 2 ≡ l))
end_back l p e h = let f = end_fields l (pieces 44 p) e h in (f.0, (sym (rejoined 44 p) ∙ ap (join_with_byte 44) f.1.0, f.1.1))

none_after : (p q : List ℕ) (ps : List (List ℕ)) → none (q ∷ ps) ≡ true → join_with_byte 10 (p ∷ q ∷ ps) ≡ p ++ (10 ∷ [])
none_after p [] [] h = refl
none_after p (b ∷ q) [] h = absurd cc
none_after p q (r ∷ ps) h = absurd cc

end_is : (l : ℕ) (p : List ℕ) (rest : List (List ℕ)) → closes l (pieces 44 p) ≡ true → none rest ≡ true → end_line l p rest ≡ complete
end_is l p rest e f = rw (e, f)

-- the lines after the first l, as they are written
pub record ReadAs (k : Kind) (e : Entry) (ns : List (List ℕ)) (l : ℕ) (ps : List (List ℕ)) (rs : List Record) : Type 0 where
  pub count : ℕ
  pub fields : List (List (List ℕ))
  pub text : join_with_byte 10 ps ≡ flat_map line_of fields ++ line_of (codes "end" ∷ decimal count ∷ [])
  pub lines : Lines e ns rs fields
  pub fit : AllByRecursion (Fitting k) rs
  pub counts : count + 1 ≡ l + length rs

module _ (k : Kind) (e : Entry) (ns : List (List ℕ)) where
  value_way : (l : ℕ) (p q : List ℕ) (ps : List (List ℕ)) (rs : List Record) (r : Record) → record_of k e ns (pieces 44 p) ≡ Some r → ReadAs k e ns (l + 1) (q ∷ ps) rs → ReadAs k e ns l (p ∷ q ∷ ps) (r ∷ rs)
  value_way l p q ps rs r is rest =
      let v = value_back k e ns (pieces 44 p) r is in
      let tail = line_of (codes "end" ∷ decimal rest.count ∷ []) in
      let more = flat_map line_of rest.fields in
      record {
        count = rest.count;
        fields = pieces 44 p ∷ rest.fields;
        text = ap (λ h. h ++ (10 ∷ join_with_byte 10 (q ∷ ps))) (sym (rejoined 44 p)) ∙ ap (λ t. join_with_byte 44 (pieces 44 p) ++ (10 ∷ t)) rest.text
            ∙ sym (append_assoc (join_with_byte 44 (pieces 44 p)) (10 ∷ []) (more ++ tail)) ∙ sym (append_assoc (line_of (pieces 44 p)) more tail);
        lines = (v.0, rest.lines);
        fit = (v.1, rest.fit);
        counts = omega (arith, rest.counts);
      }

  any_way : (l : ℕ) (p q : List ℕ) (ps : List (List ℕ)) (s : Scan) (t : Bool) → is_end p ≡ t → (cond t (end_line (l + 1) p (q ∷ ps)) (value_line (record_of k e ns (pieces 44 p)) (l + 1) s)).ending ≡ None
      → (s.ending ≡ None → ReadAs k e ns (l + 1) (q ∷ ps) s.records) → ReadAs k e ns l (p ∷ q ∷ ps) (cond t (end_line (l + 1) p (q ∷ ps)) (value_line (record_of k e ns (pieces 44 p)) (l + 1) s)).records
  any_way l p q ps s true is h later =
      let c = end_complete (l + 1) p (q ∷ ps) h in
      let b = end_back (l + 1) p is c.0 in
      subst (λ w. ReadAs k e ns l (p ∷ q ∷ ps) w.records) (sym (end_is (l + 1) p (q ∷ ps) c.0 c.1))
      (record { count = b.0; fields = []; text = none_after p q ps c.1 ∙ ap (λ h. h ++ (10 ∷ [])) b.1.0; lines = tt; fit = tt; counts = omega (arith, b.1.1) })
  any_way l p q ps s false is h later =
      let v = value_complete (record_of k e ns (pieces 44 p)) (l + 1) s h in
      subst (λ o. ReadAs k e ns l (p ∷ q ∷ ps) (value_line o (l + 1) s).records) (sym v.1.0) (value_way l p q ps s.records v.0 v.1.0 (later v.1.1))

  body_read : (l : ℕ) (ps : List (List ℕ)) → (body k e ns l ps).ending ≡ None → ReadAs k e ns l ps (body k e ns l ps).records
  body_read l [] h = absurd (some_none _ h)
  body_read l (p ∷ []) h = absurd (some_none _ h)
  body_read l (p ∷ q ∷ ps) h = any_way l p q ps (body k e ns (l + 1) (q ∷ ps)) (is_end p) refl h (body_read (l + 1) (q ∷ ps))

-- a names line and the lines after it
file_way : (k : Kind) (p q : List ℕ) (ps : List (List ℕ)) (bs : List ℕ) (o : Option Entry) → chosen (layouts k) (pieces 44 p) ≡ o → bs ≡ join_with_byte 10 (p ∷ q ∷ ps) → length bs ≤ 60000
    → (headed k o (pieces 44 p) (q ∷ ps)).ending ≡ None → Good k (headed k o (pieces 44 p) (q ∷ ps)).records bs
file_way k p q ps bs None c is small h = absurd (some_none _ h)
file_way k p q ps bs (Some e) c is small h =
    let ns = pieces 44 p in
    let b = body_read k e ns 1 (q ∷ ps) h in
    let rs = (body k e ns 1 (q ∷ ps)).records in
    let fits = fitting k ns e c in
    let count : b.count ≡ length rs = omega (arith, b.counts) in
    let tail = flat_map line_of b.fields ++ line_of (codes "end" ∷ decimal (length rs) ∷ []) in
    record {
      entry = e;
      listed = chosen_listed k ns e c;
      names = ns;
      order = (order_from e.columns ns fits.0.distinct fits.1).0;
      fitting = b.fit;
      fields = b.fields;
      lines = b.lines;
      whole = is ∙ ap (λ w. w ++ (10 ∷ join_with_byte 10 (q ∷ ps))) (sym (rejoined 44 p))
          ∙ ap (λ t. join_with_byte 44 ns ++ (10 ∷ t)) (b.text ∙ ap (λ n. flat_map line_of b.fields ++ line_of (codes "end" ∷ decimal n ∷ [])) count)
          ∙ sym (append_assoc (join_with_byte 44 ns) (10 ∷ []) tail);
      small = small;
    }

file_good : (k : Kind) (ps : List (List ℕ)) (bs : List ℕ) → bs ≡ join_with_byte 10 ps → length bs ≤ 60000 → (file k ps).ending ≡ None → Good k (file k ps).records bs
file_good k [] bs is small h = absurd (some_none _ h)
file_good k (p ∷ []) bs is small h = absurd (some_none _ h)
file_good k (p ∷ q ∷ ps) bs is small h = file_way k p q ps bs (chosen (layouts k) (pieces 44 p)) refl is small h

sized_way : (k : Kind) (bs : List ℕ) (e t : Bool) (s : Scan) → (s.ending ≡ None → Good k s.records bs) → (cond e (stop NoBytes 0) (cond t (stop TooLong 0) s)).ending ≡ None → Good k (cond e (stop NoBytes 0) (cond t (stop TooLong 0) s)).records bs
sized_way k bs true t s f h = absurd (some_none _ h)
sized_way k bs false true s f h = absurd (some_none _ h)
sized_way k bs false false s f h = f h

pub accepted_good : (k : Kind) (bs : List ℕ) → (scanned k bs).ending ≡ None → Good k (scanned k bs).records bs
accepted_good k bs h =
    let small = ltb-false 60000 (length bs) (sized k bs h).0 in
    sized_way k bs (eqb (length bs) 0) (ltb 60000 (length bs)) (file k (pieces 10 bs)) (file_good k (pieces 10 bs) bs (sym (rejoined 10 bs)) small) h
