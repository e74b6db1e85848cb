-- What the form of a field tells. Assumes nothing.
use Rattle.std.specs.Prelude.{◌≡◌, ℕ, List, [], ◌∷◌, length, Some, None, ◌≢◌}
use Rattle.reader.specs.declared.values.Field.{Field}
use Rattle.reader.specs.declared.values.Field.TheVariants.{Name, Number, Letter}
use Rattle.reader.specs.Numbers.{number}

-- the field is these bytes of the file, told as a number, else one byte as a letter, else a name
abbrev pub Told : List ℕ → Field → Type 0
Told bs (Name text) = (text.now ≡ bs) × (number bs ≡ None) × (length bs ≢ 1)
Told bs (Number text value) = (text.now ≡ bs) × (number bs ≡ Some value)
Told bs (Letter c) = (bs ≡ c ∷ []) × (number bs ≡ None)
