-- A file's lines, one by one. Assumes nothing.
use Rattle.std.proofs.Common.{◌≡◌, ℕ, suc, ◌+◌, true, false, cond, eqb, List, [], ◌∷◌, length, Some, None, sym, refl, ap, ◌∙◌, subst, arith}
use Rattle.std.specs.List.{onto_first}
use Rattle.std.proofs.lemmas.Bool.{ne_eqb}
use Rattle.reader.specs.declared.records.Kind.{Kind}
use Rattle.reader.specs.declared.records.Record.{Record}
use Rattle.reader.specs.declared.lines.Cursor.{Cursor}
use Rattle.reader.specs.declared.reading.Reader.{Reader}
use Rattle.reader.specs.declared.faults.FileFault.TheVariants.{ValueWrong, EndWrong, EndFollowed}
use Rattle.reader.specs.Format.{body, headed, file, scanned, record_of, value_line, end_line, is_end, closes, none, stop, after, complete}
use Rattle.reader.specs.Layouts.{Entry, entry, layouts}
use Rattle.reader.specs.Names.{chosen}
use Rattle.reader.specs.Pieces.{pieces}
use Rattle.reader.specs.Reading.{left}

-- a list cut into pieces has one at least
abbrev pub SomePiece : List (List ℕ) → Type 0
SomePiece ps = (q : List ℕ) × ((qs : List (List ℕ)) × (ps ≡ q ∷ qs))

first_some : (b : ℕ) (ps : List (List ℕ)) → SomePiece ps → SomePiece (onto_first b ps)
first_some b ps h = (b ∷ h.0, (h.1.0, ap (onto_first b) h.1.1))

pub some_piece : (s : ℕ) (bs : List ℕ) → SomePiece (pieces s bs)
some_piece s [] = ([], ([], refl))
some_piece s (b ∷ bs) =
    elim (eqb b s) as (λ t. SomePiece (cond t ([] ∷ pieces s bs) (onto_first b (pieces s bs)))) [
      | true ↦ ([], (pieces s bs, refl))
      | false ↦ first_some b (pieces s bs) (some_piece s bs)
    ]

none_first : (b : ℕ) (ps : List (List ℕ)) → none (onto_first b ps) ≡ false
none_first b [] = refl
none_first b (p ∷ []) = refl
none_first b (p ∷ q ∷ ps) = refl

none_more : (ps : List (List ℕ)) → SomePiece ps → none ([] ∷ ps) ≡ false
none_more ps h = subst (λ l. none ([] ∷ l) ≡ false) (sym h.1.1) refl

pub none_left : (s : ℕ) (bs : List ℕ) → none (pieces s bs) ≡ eqb (length bs) 0
none_left s [] = refl
none_left s (b ∷ bs) =
    rw (ne_eqb (suc (length bs)) 0 (λ e. omega arith))
    (elim (eqb b s) as (λ t. none (cond t ([] ∷ pieces s bs) (onto_first b (pieces s bs))) ≡ false) [
      | true ↦ none_more (pieces s bs) (some_piece s bs)
      | false ↦ none_first b (pieces s bs)
    ])

module _ (k : Kind) (e : Entry) (ns : List (List ℕ)) (l m : ℕ) (bs p rest : List ℕ) (cut : pieces 10 bs ≡ p ∷ pieces 10 rest) (next : m ≡ l + 1) where
  -- one line more, whatever it is
  one_line : body k e ns l (pieces 10 bs) ≡ cond (is_end p) (end_line m p (pieces 10 rest)) (value_line (record_of k e ns (pieces 44 p)) m (body k e ns m (pieces 10 rest)))
  one_line =
      let some = some_piece 10 rest in
      ap (body k e ns l) cut
      ∙ subst (λ ps. body k e ns l (p ∷ ps) ≡ cond (is_end p) (end_line m p ps) (value_line (record_of k e ns (pieces 44 p)) m (body k e ns m ps))) (sym some.1.1)
      (rw next)

  pub on_value : (r : Record) → false ≡ is_end p → record_of k e ns (pieces 44 p) ≡ Some r → body k e ns l (pieces 10 bs) ≡ after r (body k e ns m (pieces 10 rest))
  on_value r t f = one_line ∙ rw (sym t, f)

  pub on_bad : false ≡ is_end p → record_of k e ns (pieces 44 p) ≡ None → body k e ns l (pieces 10 bs) ≡ stop ValueWrong m
  on_bad t f = one_line ∙ rw (sym t, f)

  pub on_miscount : true ≡ is_end p → false ≡ closes m (pieces 44 p) → body k e ns l (pieces 10 bs) ≡ stop EndWrong m
  on_miscount t f = one_line ∙ rw (sym t, sym f)

  pub on_followed : true ≡ is_end p → true ≡ closes m (pieces 44 p) → false ≡ eqb (length rest) 0 → body k e ns l (pieces 10 bs) ≡ stop EndFollowed (m + 1)
  on_followed t f h = one_line ∙ rw (sym t, sym f, none_left 10 rest, sym h)

  pub on_end : true ≡ is_end p → true ≡ closes m (pieces 44 p) → true ≡ eqb (length rest) 0 → body k e ns l (pieces 10 bs) ≡ complete
  on_end t f h = one_line ∙ rw (sym t, sym f, none_left 10 rest, sym h)

-- the names line, whatever it names
pub on_names : (k : Kind) (bs p rest : List ℕ) → pieces 10 bs ≡ p ∷ pieces 10 rest → file k (pieces 10 bs) ≡ headed k (chosen (layouts k) (pieces 44 p)) (pieces 44 p) (pieces 10 rest)
on_names k bs p rest cut =
    let some = some_piece 10 rest in
    ap (file k) cut ∙ subst (λ ps. file k (p ∷ ps) ≡ headed k (chosen (layouts k) (pieces 44 p)) (pieces 44 p) ps) (sym some.1.1) refl

-- the same of a reader: from a, the cursor b has handed out the line p, which is line m
module _ (a : Reader) (b : Cursor) (p : List ℕ) (m : ℕ) (cut : pieces 10 a.cursor.rest.now ≡ p ∷ pieces 10 b.rest.now) (next : m ≡ a.cursor.line + 1) where
  abbrev kind : Kind
  kind = a.kind

  abbrev names : List (List ℕ)
  names = pieces 44 a.names.text.now

  pub reads_value : (r : Record) → false ≡ is_end p → record_of kind (entry a.layout) names (pieces 44 p) ≡ Some r → left a ≡ after r (body kind (entry a.layout) names m (pieces 10 b.rest.now))
  reads_value = on_value kind (entry a.layout) names a.cursor.line m a.cursor.rest.now p b.rest.now cut next

  pub reads_bad : false ≡ is_end p → record_of kind (entry a.layout) names (pieces 44 p) ≡ None → left a ≡ stop ValueWrong m
  reads_bad = on_bad kind (entry a.layout) names a.cursor.line m a.cursor.rest.now p b.rest.now cut next

  pub reads_miscount : true ≡ is_end p → false ≡ closes m (pieces 44 p) → left a ≡ stop EndWrong m
  reads_miscount = on_miscount kind (entry a.layout) names a.cursor.line m a.cursor.rest.now p b.rest.now cut next

  pub reads_followed : true ≡ is_end p → true ≡ closes m (pieces 44 p) → false ≡ eqb (length b.rest.now) 0 → left a ≡ stop EndFollowed (m + 1)
  reads_followed = on_followed kind (entry a.layout) names a.cursor.line m a.cursor.rest.now p b.rest.now cut next

-- a file of the right size, of which a cursor that began at its front has handed out the line p
pub opens : (k : Kind) (bs : List ℕ) (a b : Cursor) (p : List ℕ) → scanned k bs ≡ file k (pieces 10 bs) → a.rest.now ≡ bs → pieces 10 a.rest.now ≡ p ∷ pieces 10 b.rest.now
    → scanned k bs ≡ headed k (chosen (layouts k) (pieces 44 p)) (pieces 44 p) (pieces 10 b.rest.now)
opens k bs a b p sized from cut = sized ∙ ap (λ cs. file k (pieces 10 cs)) (sym from) ∙ on_names k a.rest.now p b.rest.now cut
