-- A file as it is written: a line of names, a line for each record, and the end line. Assumes nothing.
use Rattle.std.specs.Prelude.{◌≡◌, ℕ, ◌<◌, ◌≤◌, ◌⊎◌, List, [], ◌∷◌, ◌++◌, length, take, ℤ, Some, None, codes, decimal, ◌≢◌, slice_index_or, unsigned_abs}
use Rattle.std.specs.List.{flat_map, join_with_byte, AllByRecursion}
use Rattle.std.specs.List.Sorted.{IsPermutation}
use Rattle.std.specs.Fmt.{signed_decimal}
use Rattle.reader.specs.declared.records.Kind.{Kind}
use Rattle.reader.specs.declared.records.Kind.TheVariants.{Arcs, Delays, Bounds, FalseSets}
use Rattle.reader.specs.declared.records.Side.{Side}
use Rattle.reader.specs.declared.records.Side.TheVariants.{Start, End}
use Rattle.reader.specs.declared.records.Record.{Record}
use Rattle.reader.specs.declared.records.Record.TheVariants.{Arc, Delay, Bound, Pair}
use Rattle.reader.specs.declared.faults.FileFault.TheVariants.{NoBytes, TooLong}
use Rattle.reader.specs.Format.{scanned, refused, text_of}
use Rattle.reader.specs.Layouts.{Entry, layouts}

-- a line of fields
abbrev pub line_of : List (List ℕ) → List ℕ
line_of fs = join_with_byte 44 fs ++ (10 ∷ [])

abbrev pub letter_of : Side → List ℕ
letter_of Start = codes "s"
letter_of End = codes "e"

-- the texts of a record's values, in their order
abbrev pub texts : Record → List (List ℕ)
texts (Arc from to) = signed_decimal from ∷ signed_decimal to ∷ []
texts (Delay arc ticks) = signed_decimal arc ∷ signed_decimal ticks ∷ []
texts (Bound node side ticks) = signed_decimal node ∷ letter_of side ∷ signed_decimal ticks ∷ []
texts (Pair set from to) = signed_decimal set ∷ signed_decimal from ∷ signed_decimal to ∷ []

abbrev pub kind_of : Record → Kind
kind_of (Arc from to) = Arcs
kind_of (Delay arc ticks) = Delays
kind_of (Bound node side ticks) = Bounds
kind_of (Pair set from to) = FalseSets

abbrev pub numbers_of : Record → List ℤ
numbers_of (Arc from to) = from ∷ to ∷ []
numbers_of (Delay arc ticks) = arc ∷ ticks ∷ []
numbers_of (Bound node side ticks) = node ∷ ticks ∷ []
numbers_of (Pair set from to) = set ∷ from ∷ to ∷ []

-- a record of the kind, with numbers of at most seven digits
pub record Fitting (k : Kind) (r : Record) : Type 0 where
  pub kind : kind_of r ≡ k
  pub numbers : AllByRecursion (λ z. unsigned_abs z < 10000000) (numbers_of r)

-- the fields of a value line: one under each name, and under the column of each value the value's text
pub record Line (e : Entry) (names : List (List ℕ)) (r : Record) (fields : List (List ℕ)) : Type 0 where
  pub wide : length names ≡ length fields
  pub values : (i : ℕ) → i < length (texts r) → text_of e names fields i ≡ Some (slice_index_or (texts r) i [])

-- a line for each record, in order
abbrev pub Lines : Entry → List (List ℕ) → List Record → List (List (List ℕ)) → Type 0
Lines e names [] [] = Unit {0}
Lines e names [] (fs ∷ fss) = ⊥
Lines e names (r ∷ rs) [] = ⊥
Lines e names (r ∷ rs) (fs ∷ fss) = Line e names r fs × Lines e names rs fss

abbrev pub OneOf : Entry → List Entry → Type 0
OneOf e [] = ⊥
OneOf e (f ∷ fs) = (e ≡ f) ⊎ OneOf e fs

-- bs is a file of the records rs
pub record Good (k : Kind) (rs : List Record) (bs : List ℕ) : Type 0 where
  pub entry : Entry
  pub listed : OneOf entry (layouts k)
  pub names : List (List ℕ)
  pub order : IsPermutation entry.columns names
  pub fitting : AllByRecursion (Fitting k) rs
  pub fields : List (List (List ℕ))
  pub lines : Lines entry names rs fields
  pub whole : bs ≡ line_of names ++ (flat_map line_of fields ++ line_of (codes "end" ∷ decimal (length rs) ∷ []))
  pub small : length bs ≤ 60000

-- a good file is accepted, with just its records in order
abbrev pub GoodAccepted : Type 0
GoodAccepted = (k : Kind) (rs : List Record) (bs : List ℕ) → Good k rs bs → scanned k bs ≡ record { records = rs; ending = None }

-- what is accepted is a good file
abbrev pub AcceptedGood : Type 0
AcceptedGood = (k : Kind) (bs : List ℕ) → (scanned k bs).ending ≡ None → Good k (scanned k bs).records bs

-- a file has at most one list of records
abbrev pub OneReading : Type 0
OneReading = (k : Kind) (rs ss : List Record) (bs : List ℕ) → Good k rs bs → Good k ss bs → rs ≡ ss

-- a good file that is cut short is refused
abbrev pub PrefixRefused : Type 0
PrefixRefused = (k : Kind) (rs : List Record) (bs : List ℕ) (i : ℕ) → Good k rs bs → i < length bs → (scanned k (take i bs)).ending ≢ None

-- a file of no bytes is refused with number 1, and one of more than 60,000 bytes with number 2, both with line 0
abbrev pub SizeRefused : Type 0
SizeRefused = (k : Kind) (bs : List ℕ)
    → (length bs ≡ 0 → scanned k bs ≡ refused (record { fault = NoBytes; line = 0 }))
    × (60000 < length bs → scanned k bs ≡ refused (record { fault = TooLong; line = 0 }))
