-- The number of each fault. Assumes nothing.
use Rattle.std.specs.Prelude.{ℕ}
use Rattle.reader.specs.declared.faults.FileFault.{FileFault}
use Rattle.reader.specs.declared.faults.FileFault.TheVariants.{NoBytes, TooLong, NamesUnended, NamesWrong, ValueUnended, ValueWrong, EndMissing, EndUnended, EndWrong, EndFollowed, Call}

-- a record that was turned down brings the number of the call that turned it down
abbrev pub number_of : FileFault → ℕ
number_of NoBytes = 1
number_of TooLong = 2
number_of NamesUnended = 3
number_of NamesWrong = 3
number_of ValueUnended = 4
number_of ValueWrong = 4
number_of EndMissing = 5
number_of EndUnended = 5
number_of EndWrong = 5
number_of EndFollowed = 5
number_of (Call n) = n
