-- A file as it is written is read as it was meant. Assumes nothing.
use Rattle.std.proofs.Common.{◌≡◌, ℕ, zero, suc, ◌+◌, ◌<◌, ◌≤◌, Bool, true, false, cond, List, [], ◌∷◌, ◌++◌, length, get_or, take, drop, ℤ, pos, negsuc, nat_abs, Some, None, codes, decimal, Option, sym, refl, ap, ◌∙◌, subst, append_assoc, append-nil, arith, lit<, length-append, length-drop, take-append-drop}
use Rattle.std.specs.List.{flat_map, join_with_byte, onto_first, AllByRecursion}
use Rattle.std.specs.Char.{is_ascii_digit}
use Rattle.std.specs.Fmt.{signed_decimal}
use Rattle.std.specs.Str.{all_ascii_digits, bytes_eq}
use Rattle.std.proofs.lemmas.Slice.Eq.{bytes_eq-Decides}
use Rattle.std.proofs.lemmas.List.Sorted.{length_permutation}
use Rattle.std.proofs.ByRecursion.{all_shuffled, All-append, All-weaker}
use Rattle.std.proofs.lemmas.Bool.{eq-eqb, ne_eqb, le-ltb, lt-ltb, and_parts}
use Rattle.reader.specs.declared.records.Kind.{Kind}
use Rattle.reader.specs.declared.records.Side.{Side}
use Rattle.reader.specs.declared.records.Side.TheVariants.{Start, End}
use Rattle.reader.specs.declared.records.Record.{Record}
use Rattle.reader.specs.declared.records.Record.TheVariants.{Arc, Delay, Bound, Pair}
use Rattle.reader.specs.declared.faults.FileFault.TheVariants.{NoBytes, TooLong}
use Rattle.reader.specs.Files.{line_of, letter_of, texts, kind_of, numbers_of, Fitting, Line, Lines, Good}
use Rattle.reader.specs.Format.{both, three, number_in, side_in, record_from, record_of, text_of, first_is_end, closes, count_is, body, headed, file, scanned, refused}
use Rattle.reader.specs.Layouts.{Entry, layouts, arity}
use Rattle.reader.specs.Names.{chosen, lookup}
use Rattle.reader.specs.Records.{letter_side}
use Rattle.reader.specs.Pieces.{pieces}
use Rattle.reader.proofs.Bodies.{on_names, on_value, on_end}
use Rattle.reader.proofs.Digits.{all_digits, digit_within, number_signed}
use Rattle.reader.proofs.Orders.{Distinct, both_all, order_is, order_from}
use Rattle.reader.proofs.Prefixes.{followed}
use Rattle.reader.proofs.Table.{Plain, Sound, value_name, table, one_of_all, choice}

-- ---- a text with no s in it, before an s and alone
cut_after : (s : ℕ) (p rest : List ℕ) → AllByRecursion (λ b. b ≡ s → ⊥) p → pieces s (p ++ (s ∷ rest)) ≡ p ∷ pieces s rest
cut_after s [] rest h = rw (eq-eqb s s refl)
cut_after s (b ∷ p) rest h = rw (ne_eqb b s h.0) (ap (onto_first b) (cut_after s p rest h.1))

uncut : (s : ℕ) (p : List ℕ) → AllByRecursion (λ b. b ≡ s → ⊥) p → pieces s p ≡ p ∷ []
uncut s [] h = refl
uncut s (b ∷ p) h = rw (ne_eqb b s h.0) (ap (onto_first b) (uncut s p h.1))

no_comma : (p : List ℕ) → Plain p → AllByRecursion (λ b. b ≡ 44 → ⊥) p
no_comma p h = All-weaker _ _ (λ b x. x.0) p h

no_newline : (p : List ℕ) → Plain p → AllByRecursion (λ b. b ≡ 10 → ⊥) p
no_newline p h = All-weaker _ _ (λ b x. x.1) p h

-- the fields of a line, back
fields_back : (f : List ℕ) (fs : List (List ℕ)) → AllByRecursion Plain (f ∷ fs) → pieces 44 (join_with_byte 44 (f ∷ fs)) ≡ f ∷ fs
fields_back f [] h = uncut 44 f (no_comma f h.0)
fields_back f (g ∷ fs) h = cut_after 44 f (join_with_byte 44 (g ∷ fs)) (no_comma f h.0) ∙ ap (λ l. f ∷ l) (fields_back g fs h.1)

one_line : (fs : List (List ℕ)) → AllByRecursion Plain fs → AllByRecursion (λ b. b ≡ 10 → ⊥) (join_with_byte 44 fs)
one_line [] h = tt
one_line (f ∷ []) h = no_newline f h.0
one_line (f ∷ g ∷ fs) h = All-append _ f (44 ∷ join_with_byte 44 (g ∷ fs)) (no_newline f h.0) (λ e. omega arith, one_line (g ∷ fs) h.1)

line_cut : (fs : List (List ℕ)) (rest : List ℕ) → AllByRecursion Plain fs → pieces 10 (line_of fs ++ rest) ≡ join_with_byte 44 fs ∷ pieces 10 rest
line_cut fs rest h = ap (pieces 10) (append_assoc (join_with_byte 44 fs) (10 ∷ []) rest) ∙ cut_after 10 (join_with_byte 44 fs) rest (one_line fs h)

-- ---- what the text of a value is like: plain, and not `end`
abbrev Valued : List ℕ → Type 0
Valued t = Plain t × (bytes_eq t (codes "end") ≡ false)

plain_digits : (ds : List ℕ) → all_ascii_digits ds ≡ true → Plain ds
plain_digits [] h = tt
plain_digits (c ∷ cs) h =
    let parts = and_parts (is_ascii_digit c) (all_ascii_digits cs) h in
    let low = digit_within c parts.0 in
    ((λ e. omega arith, λ e. omega arith), plain_digits cs parts.1)

digits_no_end : (ds : List ℕ) → all_ascii_digits ds ≡ true → bytes_eq ds (codes "end") ≡ false
digits_no_end [] h = refl
digits_no_end (c ∷ cs) h = let low = digit_within c (and_parts (is_ascii_digit c) (all_ascii_digits cs) h).0 in rw (ne_eqb c 101 (λ e. omega arith))

signed_valued : (z : ℤ) → nat_abs z < 10000000 → Valued (signed_decimal z)
signed_valued (pos n) h = let d = all_digits n h in (plain_digits (decimal n) d, digits_no_end (decimal n) d)
signed_valued (negsuc n) h = (((λ e. omega arith, λ e. omega arith), plain_digits (decimal (suc n)) (all_digits (suc n) h)), refl)

letter_valued : (s : Side) → Valued (letter_of s)
letter_valued Start = (((λ e. omega arith, λ e. omega arith), tt), refl)
letter_valued End = (((λ e. omega arith, λ e. omega arith), tt), refl)

abbrev Shorts : Record → Type 0
Shorts r = AllByRecursion (λ z. nat_abs z < 10000000) (numbers_of r)

texts_valued : (r : Record) → Shorts r → AllByRecursion Valued (texts r)
texts_valued (Arc a b) h = (signed_valued a h.0, (signed_valued b h.1.0, tt))
texts_valued (Delay a b) h = (signed_valued a h.0, (signed_valued b h.1.0, tt))
texts_valued (Bound a s b) h = (signed_valued a h.0, (letter_valued s, (signed_valued b h.1.0, tt)))
texts_valued (Pair a b c) h = (signed_valued a h.0, (signed_valued b h.1.0, (signed_valued c h.1.1.0, tt)))

texts_long : (r : Record) → length (texts r) ≡ arity (kind_of r)
texts_long (Arc a b) = refl
texts_long (Delay a b) = refl
texts_long (Bound a s b) = refl
texts_long (Pair a b c) = refl

all_get_d : (P : List ℕ → Type 0) (xs : List (List ℕ)) (i : ℕ) → AllByRecursion P xs → i < length xs → P (get_or xs i [])
all_get_d P [] i a h = absurd (omega arith)
all_get_d P (x ∷ xs) zero a h = a.0
all_get_d P (x ∷ xs) (suc i) a h = all_get_d P xs i a.1 (omega arith)

-- ---- the fields of a line, by what stands under each name
under_tail : (q n f : List ℕ) (ns fs : List (List ℕ)) (y : List ℕ) → (q ≡ n → ⊥) → (t : Bool) → bytes_eq n q ≡ t → cond t (Some f) (lookup q ns fs) ≡ Some y → lookup q ns fs ≡ Some y
under_tail q n f ns fs y ne true e h = absurd (ne (sym ((bytes_eq-Decides n q).0 e)))
under_tail q n f ns fs y ne false e h = h

under_head : (n f : List ℕ) (o : Option (List ℕ)) (y : List ℕ) (t : Bool) → bytes_eq n n ≡ t → cond t (Some f) o ≡ Some y → y ≡ f
under_head n f o y true e h = cc
under_head n f o y false e h = absurd (let u = (bytes_eq-Decides n n).1 refl in cc)

-- a text with P stands under the name
abbrev Under : (List ℕ → Type 0) → List (List ℕ) → List (List ℕ) → List ℕ → Type 0
Under P ns fs n = (y : List ℕ) × ((lookup n ns fs ≡ Some y) × P y)

all_under : (P : List ℕ → Type 0) (ns fs : List (List ℕ)) → Distinct ns → length ns ≡ length fs → AllByRecursion (Under P ns fs) ns → AllByRecursion P fs
all_under P [] [] d l a = tt
all_under P [] (f ∷ fs) d l a = absurd (omega arith)
all_under P (n ∷ ns) [] d l a = absurd (omega arith)
all_under P (n ∷ ns) (f ∷ fs) d l a = (
  subst P (under_head n f (lookup n ns fs) a.0.0 (bytes_eq n n) refl a.0.1.0) a.0.1.1,
  all_under P ns fs d.1 (omega arith)
      (both_all (λ q. q ≡ n → ⊥) (Under P (n ∷ ns) (f ∷ fs)) (Under P ns fs) (λ q ne u. (u.0, (under_tail q n f ns fs u.0 ne (bytes_eq n q) refl u.1.0, u.1.1))) ns d.0 a.1),
)

module _ (k : Kind) (e : Entry) (ns : List (List ℕ)) (sound : Sound k e) (distinct : Distinct ns)
    (onto : AllByRecursion (λ n. (i : ℕ) × ((i < arity k) × (value_name e i ≡ n))) ns) where
  line_valued : (r : Record) (fs : List (List ℕ)) → Fitting k r → Line e ns r fs → AllByRecursion Valued fs
  line_valued r fs fit line =
      let stands : (n : List ℕ) → (i : ℕ) × ((i < arity k) × (value_name e i ≡ n)) → Under Valued ns fs n = λ n at.
      let l : at.0 < length (texts r) = omega (arith, at.1.0, texts_long r, ap arity fit.kind) in
      (get_or (texts r) at.0 [], (ap (λ q. lookup q ns fs) (sym at.1.1) ∙ line.values at.0 l, all_get_d Valued (texts r) at.0 (texts_valued r fit.numbers) l)) in
      all_under Valued ns fs distinct line.wide (All-weaker _ (Under Valued ns fs) stands ns onto)

-- ---- the record, back
side_letter : (s : Side) → letter_side (letter_of s) ≡ Some s
side_letter Start = refl
side_letter End = refl

number_told : (o : Option (List ℕ)) (z : ℤ) → o ≡ Some (signed_decimal z) → nat_abs z < 10000000 → number_in o ≡ Some z
number_told o z h l = ap number_in h ∙ number_signed z l

side_told : (o : Option (List ℕ)) (s : Side) → o ≡ Some (letter_of s) → side_in o ≡ Some s
side_told o s h = ap side_in h ∙ side_letter s

record_told : (r : Record) (text : ℕ → Option (List ℕ)) → Shorts r → ((i : ℕ) → i < length (texts r) → text i ≡ Some (get_or (texts r) i [])) → record_from (kind_of r) text ≡ Some r
record_told (Arc a b) text h v =
    let p = number_told (text 0) a (v 0 (lit< tt)) h.0 in
    let q = number_told (text 1) b (v 1 (lit< tt)) h.1.0 in
    λ j. both Arc (p j) (q j)
record_told (Delay a b) text h v =
    let p = number_told (text 0) a (v 0 (lit< tt)) h.0 in
    let q = number_told (text 1) b (v 1 (lit< tt)) h.1.0 in
    λ j. both Delay (p j) (q j)
record_told (Bound a s b) text h v =
    let p = number_told (text 0) a (v 0 (lit< tt)) h.0 in
    let q = side_told (text 1) s (v 1 (lit< tt)) in
    let t = number_told (text 2) b (v 2 (lit< tt)) h.1.0 in
    λ j. three Bound (p j) (q j) (t j)
record_told (Pair s a b) text h v =
    let p = number_told (text 0) s (v 0 (lit< tt)) h.0 in
    let q = number_told (text 1) a (v 1 (lit< tt)) h.1.0 in
    let t = number_told (text 2) b (v 2 (lit< tt)) h.1.1.0 in
    λ j. three Pair (p j) (q j) (t j)

record_back : (k : Kind) (e : Entry) (ns fs : List (List ℕ)) (r : Record) → Fitting k r → Line e ns r fs → record_of k e ns fs ≡ Some r
record_back k e ns fs r fit line = rw (eq-eqb (length ns) (length fs) line.wide) (subst (λ m. record_from m (text_of e ns fs) ≡ Some r) fit.kind (record_told r (text_of e ns fs) fit.numbers line.values))

-- ---- the lines, back
abbrev end_line_of : ℕ → List ℕ
end_line_of n = line_of (codes "end" ∷ decimal n ∷ [])

end_plain : (count : ℕ) → count < 10000000 → AllByRecursion Plain (codes "end" ∷ decimal count ∷ [])
end_plain count small = (((λ e. omega arith, λ e. omega arith), ((λ e. omega arith, λ e. omega arith), ((λ e. omega arith, λ e. omega arith), tt))), (plain_digits (decimal count) (all_digits count small), tt))

module _ (k : Kind) (e : Entry) (n : List ℕ) (ns : List (List ℕ)) (sound : Sound k e) (distinct : Distinct (n ∷ ns))
    (onto : AllByRecursion (λ q. (i : ℕ) × ((i < arity k) × (value_name e i ≡ q))) (n ∷ ns)) where
  one_value : (r : Record) (fs : List (List ℕ)) (rest : List ℕ) (l : ℕ) → Fitting k r → Line e (n ∷ ns) r fs
      → body k e (n ∷ ns) l (pieces 10 (line_of fs ++ rest)) ≡ record { records = r ∷ (body k e (n ∷ ns) (l + 1) (pieces 10 rest)).records; ending = (body k e (n ∷ ns) (l + 1) (pieces 10 rest)).ending }
  one_value r [] rest l fit line = absurd (omega (arith, line.wide))
  one_value r (f ∷ fs) rest l fit line =
      let valued = line_valued k e (n ∷ ns) sound distinct onto r (f ∷ fs) fit line in
      let plain = All-weaker Valued Plain (λ t x. x.0) (f ∷ fs) valued in
      let back = fields_back f fs plain in
      on_value k e (n ∷ ns) l (l + 1) (line_of (f ∷ fs) ++ rest) (join_with_byte 44 (f ∷ fs)) rest (line_cut (f ∷ fs) rest plain) refl r
      (sym (ap first_is_end back ∙ valued.0.1)) (ap (record_of k e (n ∷ ns)) back ∙ record_back k e (n ∷ ns) (f ∷ fs) r fit line)

  body_back : (rs : List Record) (fss : List (List (List ℕ))) (l count : ℕ) → AllByRecursion (Fitting k) rs → Lines e (n ∷ ns) rs fss → count < 10000000 → count + 1 ≡ l + length rs
      → body k e (n ∷ ns) l (pieces 10 (flat_map line_of fss ++ end_line_of count)) ≡ record { records = rs; ending = None }
  body_back [] [] l count h lines small c =
      let p = join_with_byte 44 (codes "end" ∷ decimal count ∷ []) in
      let plain = end_plain count small in
      let fields = fields_back (codes "end") (decimal count ∷ []) plain in
      on_end k e (n ∷ ns) l (l + 1) (end_line_of count) p [] (ap (pieces 10) (sym (append-nil (end_line_of count))) ∙ line_cut (codes "end" ∷ decimal count ∷ []) [] plain) refl
      (sym (ap first_is_end fields))
      (sym (ap (closes (l + 1)) fields ∙ ap (count_is (l + 1)) (number_signed (pos count) small) ∙ eq-eqb (count + 2) (l + 1) (omega arith)))
      refl
  body_back [] (fs ∷ fss) l count h lines small c = absurd lines
  body_back (r ∷ rs) [] l count h lines small c = absurd lines
  body_back (r ∷ rs) (fs ∷ fss) l count h lines small c =
      ap (λ bs. body k e (n ∷ ns) l (pieces 10 bs)) (append_assoc (line_of fs) (flat_map line_of fss) (end_line_of count))
      ∙ one_value r fs (flat_map line_of fss ++ end_line_of count) l h.0 lines.0
      ∙ ap (λ s. record { records = r ∷ s.records; ending = s.ending }) (body_back rs fss (l + 1) count h.1 lines.1 small (omega arith))

-- a file has as many bytes as records, at least
many : (fss : List (List (List ℕ))) → length fss ≤ length (flat_map line_of fss)
many [] = omega arith
many (fs ∷ fss) = simp (length-append) (omega (arith, many fss))

as_many : (e : Entry) (ns : List (List ℕ)) (rs : List Record) (fss : List (List (List ℕ))) → Lines e ns rs fss → length rs ≡ length fss
as_many e ns [] [] h = refl
as_many e ns [] (fs ∷ fss) h = absurd h
as_many e ns (r ∷ rs) [] h = absurd h
as_many e ns (r ∷ rs) (fs ∷ fss) h = ap suc (as_many e ns rs fss h.1)

pub good_accepted : (k : Kind) (rs : List Record) (bs : List ℕ) → Good k rs bs → scanned k bs ≡ record { records = rs; ending = None }
good_accepted k rs bs good =
    let e = good.entry in
    let cs = e.columns in
    let sound = one_of_all (Sound k) e _ (table k) good.listed in
    accepted good.names (all_shuffled Plain cs good.names good.order sound.plain) (order_from cs good.names sound.distinct (order_is cs good.names good.order)).1 sound
    (all_shuffled _ cs good.names good.order sound.onto) (omega (arith, length_permutation cs good.names good.order, sound.some)) refl
  where
    accepted : (ns : List (List ℕ)) → AllByRecursion Plain ns → Distinct ns → Sound k good.entry → AllByRecursion (λ n. (i : ℕ) × ((i < arity k) × (value_name good.entry i ≡ n))) ns → 0 < length ns → ns ≡ good.names → scanned k bs ≡ record { records = rs; ending = None }
    accepted [] plain distinct sound onto some is = absurd (omega arith)
    accepted (n ∷ ns) plain distinct sound onto some is =
        let e = good.entry in
        let rest = flat_map line_of good.fields ++ end_line_of (length rs) in
        let whole : bs ≡ line_of (n ∷ ns) ++ rest = subst (λ m. bs ≡ line_of m ++ rest) (sym is) good.whole in
        let lines = subst (λ m. Lines e m rs good.fields) (sym is) good.lines in
        let picked = subst (λ m. chosen (layouts k) m ≡ Some e) (sym is) (choice k e good.names good.listed good.order) in
        let long = simp length-append at (ap length whole) in
        let count : length rs < 10000000 = omega (arith, long, many good.fields, as_many e (n ∷ ns) rs good.fields lines, good.small) in
        let back = fields_back n ns plain in
        rw (ne_eqb (length bs) 0 (λ z. omega (arith, long)), le-ltb 60000 (length bs) good.small)
        (ap (λ l. file k (pieces 10 l)) whole
        ∙ on_names k (line_of (n ∷ ns) ++ rest) (join_with_byte 44 (n ∷ ns)) rest (line_cut (n ∷ ns) rest plain)
        ∙ ap (λ m. headed k (chosen (layouts k) m) m (pieces 10 rest)) back
        ∙ ap (λ o. headed k o (n ∷ ns) (pieces 10 rest)) picked
        ∙ body_back k e n ns sound distinct onto rs good.fields 1 (length rs) good.fitting lines count (omega arith))

pub one_reading : (k : Kind) (rs ss : List Record) (bs : List ℕ) → Good k rs bs → Good k ss bs → rs ≡ ss
one_reading k rs ss bs a b = ap (λ s. s.records) (sym (good_accepted k rs bs a) ∙ good_accepted k ss bs b)

nonempty : (k : Kind) (bs more : List ℕ) → (scanned k bs).ending ≡ None → (scanned k (bs ++ more)).ending ≡ None → 0 < length more → ⊥
nonempty k bs [] h j l = omega arith
nonempty k bs (b ∷ more) h j l = followed k bs b more h j

pub prefix_refused : (k : Kind) (rs : List Record) (bs : List ℕ) (i : ℕ) → Good k rs bs → i < length bs → (scanned k (take i bs)).ending ≡ None → ⊥
prefix_refused k rs bs i good l h =
    nonempty k (take i bs) (drop i bs) h (ap (λ b. (scanned k b).ending) (take-append-drop i bs) ∙ ap (λ s. s.ending) (good_accepted k rs bs good)) (simp length-drop (omega arith))

pub size_refused : (k : Kind) (bs : List ℕ)
    → (length bs ≡ 0 → scanned k bs ≡ refused (record { fault = NoBytes; line = 0 }))
    × (60000 < length bs → scanned k bs ≡ refused (record { fault = TooLong; line = 0 }))
size_refused k bs = (λ e. rw (eq-eqb (length bs) 0 e), λ l. rw (ne_eqb (length bs) 0 (λ e. omega arith), lt-ltb 60000 (length bs) l))
