-- What a file's bytes say: the records of its value lines, in order, and the refusal that ends it, if any. Assumes nothing.
use Rattle.std.specs.Prelude.{ℕ, ◌+◌, Bool, true, false, cond, List, [], ◌∷◌, length, ℤ, pos, negsuc, Some, None, codes, Option, ◌==◌, nat_lt, slice_index_or}
use Rattle.std.specs.Str.{bytes_eq}
use Rattle.reader.specs.declared.records.Kind.{Kind}
use Rattle.reader.specs.declared.records.Kind.TheVariants.{Arcs, Delays, Bounds, FalseSets}
use Rattle.reader.specs.declared.records.Side.{Side}
use Rattle.reader.specs.declared.records.Record.{Record}
use Rattle.reader.specs.declared.records.Record.TheVariants.{Arc, Delay, Bound, Pair}
use Rattle.reader.specs.declared.faults.FileFault.{FileFault}
use Rattle.reader.specs.declared.faults.FileFault.TheVariants.{NoBytes, TooLong, NamesUnended, NamesWrong, ValueUnended, ValueWrong, EndMissing, EndUnended, EndWrong, EndFollowed}
use Rattle.reader.specs.declared.faults.FileRefusal.{FileRefusal}
use Rattle.reader.specs.Records.{letter_side}
use Rattle.reader.specs.Layouts.{Entry, layouts}
use Rattle.reader.specs.Names.{lookup, chosen}
use Rattle.reader.specs.Numbers.{number}
use Rattle.reader.specs.Pieces.{pieces}

-- ---- a value line
abbrev pub both : {A B C : Type 0} → (A → B → C) → Option A → Option B → Option C
both f None b = None
both f (Some a) None = None
both f (Some a) (Some b) = Some (f a b)

abbrev pub three : {A B C D : Type 0} → (A → B → C → D) → Option A → Option B → Option C → Option D
three f None b c = None
three f (Some a) None c = None
three f (Some a) (Some b) None = None
three f (Some a) (Some b) (Some c) = Some (f a b c)

abbrev pub number_in : Option (List ℕ) → Option ℤ
number_in None = None
number_in (Some text) = number text

abbrev pub side_in : Option (List ℕ) → Option Side
side_in None = None
side_in (Some text) = letter_side text

-- the record of a kind, by the texts of its values in their order
abbrev pub record_from : Kind → (ℕ → Option (List ℕ)) → Option Record
record_from Arcs text = both Arc (number_in (text 0)) (number_in (text 1))
record_from Delays text = both Delay (number_in (text 0)) (number_in (text 1))
record_from Bounds text = three Bound (number_in (text 0)) (side_in (text 1)) (number_in (text 2))
record_from FalseSets text = three Pair (number_in (text 0)) (number_in (text 1)) (number_in (text 2))

-- the text of value i, where ns are the names and fs the fields
abbrev pub text_of : Entry → List (List ℕ) → List (List ℕ) → ℕ → Option (List ℕ)
text_of e ns fs i = lookup (slice_index_or e.values i []) ns fs

abbrev pub record_of : Kind → Entry → List (List ℕ) → List (List ℕ) → Option Record
record_of k e ns fs = cond (length ns == length fs) (record_from k (text_of e ns fs)) None

-- ---- what a file says
pub record Scan : Type 0 where
  pub records : List Record
  pub ending : Option FileRefusal

abbrev pub complete : Scan
complete = record { records = []; ending = None }

abbrev pub refused : FileRefusal → Scan
refused e = record { records = []; ending = Some e }

abbrev pub stop : FileFault → ℕ → Scan
stop f l = refused (record { fault = f; line = l })

abbrev pub after : Record → Scan → Scan
after r s = record { records = r ∷ s.records; ending = s.ending }

-- line l has the record r or none, and s is what follows it
abbrev pub value_line : Option Record → ℕ → Scan → Scan
value_line None l s = stop ValueWrong l
value_line (Some r) l s = after r s

abbrev pub first_is_end : List (List ℕ) → Bool
first_is_end [] = false
first_is_end (f ∷ fs) = bytes_eq f (codes "end")

-- the line's first field is `end`
abbrev pub is_end : List ℕ → Bool
is_end p = first_is_end (pieces 44 p)

-- line l counts the value lines before it: all lines but itself and the names
abbrev pub count_is : ℕ → Option ℤ → Bool
count_is l None = false
count_is l (Some (pos n)) = n + 2 == l
count_is l (Some (negsuc n)) = false

abbrev pub closes : ℕ → List (List ℕ) → Bool
closes l [] = false
closes l (e ∷ []) = false
closes l (e ∷ n ∷ []) = count_is l (number n)
closes l (e ∷ n ∷ m ∷ fs) = false

abbrev pub is_nil : List ℕ → Bool
is_nil [] = true
is_nil (b ∷ bs) = false

-- no byte is left
abbrev pub none : List (List ℕ) → Bool
none [] = true
none (p ∷ []) = is_nil p
none (p ∷ q ∷ ps) = false

-- what lacks its byte 10
abbrev pub unended : List ℕ → FileFault
unended p = cond (is_nil p) EndMissing (cond (is_end p) EndUnended ValueUnended)

-- line l is the end line p, and rest follows it
abbrev pub end_line : ℕ → List ℕ → List (List ℕ) → Scan
end_line l p rest = cond (closes l (pieces 44 p)) (cond (none rest) complete (stop EndFollowed (l + 1))) (stop EndWrong l)

-- the lines after the first l, with what stands after the last byte 10
abbrev pub body : Kind → Entry → List (List ℕ) → ℕ → List (List ℕ) → Scan
body k e ns l [] = stop EndMissing (l + 1)
body k e ns l (p ∷ []) = stop (unended p) (l + 1)
body k e ns l (p ∷ q ∷ ps) = cond (is_end p) (end_line (l + 1) p (q ∷ ps)) (value_line (record_of k e ns (pieces 44 p)) (l + 1) (body k e ns (l + 1) (q ∷ ps)))

-- the lines after the names line ns, if the kind has such columns
abbrev pub headed : Kind → Option Entry → List (List ℕ) → List (List ℕ) → Scan
headed k None ns ps = stop NamesWrong 1
headed k (Some e) ns ps = body k e ns 1 ps

abbrev pub file : Kind → List (List ℕ) → Scan
file k [] = stop NamesUnended 1
file k (p ∷ []) = stop NamesUnended 1
file k (p ∷ q ∷ ps) = headed k (chosen (layouts k) (pieces 44 p)) (pieces 44 p) (q ∷ ps)

abbrev pub scanned : Kind → List ℕ → Scan
scanned k bs = cond (length bs == 0) (stop NoBytes 0) (cond (nat_lt 60000 (length bs)) (stop TooLong 0) (file k (pieces 10 bs)))
