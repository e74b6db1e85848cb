-- The words that each refusal is shown by. Assumes nothing.
use Rattle.std.specs.Prelude.{ℕ, cond, List, ◌++◌, codes, decimal, ◌==◌}
use Rattle.std.specs.Char.{encode_utf8}
use Rattle.reader.specs.declared.faults.FileFault.{FileFault}
use Rattle.reader.specs.declared.faults.FileFault.TheVariants.{NoBytes, TooLong, NamesUnended, NamesWrong, ValueUnended, ValueWrong, EndMissing, EndUnended, EndWrong, EndFollowed, Call}
use Rattle.reader.specs.declared.faults.FileRefusal.{FileRefusal}
use Rattle.reader.specs.declared.listing.ListFault.{ListFault}
use Rattle.reader.specs.declared.listing.ListFault.TheVariants.{File, Memory}
use Rattle.reader.specs.Faults.{number_of}

-- a record that a call of this number turned down
abbrev pub turned_down : ℕ → List ℕ
turned_down n =
    cond (n == 6) (codes "a number is out of range")
    (cond (n == 7) (codes "the arc's from is not below its to")
    (cond (n == 8) (codes "all 1024 arc numbers are taken")
    (cond (n == 9) (codes "the arc is not live")
    (cond (n == 10) (codes "the arc is in a false set")
    (cond (n == 11) (codes "no path of one or more live arcs leads from the first node to the second")
    (cond (n == 14) (codes "a table has the wrong length") (codes "the record was turned down")))))))

abbrev pub fault_words : FileFault → List ℕ
fault_words NoBytes = codes "the file has no bytes"
fault_words TooLong = codes "the file has more than 60000 bytes"
fault_words NamesUnended = codes "the names line has no line feed at its end"
fault_words NamesWrong = codes "the names are not those of the kind, each once"
fault_words ValueUnended = codes "the value line has no line feed at its end"
fault_words ValueWrong = codes "the value line has wrong fields or a field of the wrong form"
fault_words EndMissing = codes "the end line is missing"
fault_words EndUnended = codes "the end line has no line feed at its end"
fault_words EndWrong = codes "the end line does not count the value lines"
fault_words EndFollowed = codes "bytes follow the end line"
fault_words (Call n) = turned_down n

-- the number, the line and the fault
abbrev pub refusal_words : FileRefusal → List ℕ
refusal_words e = codes "number " ++ decimal (number_of e.fault) ++ codes " at line " ++ decimal e.line ++ codes ": " ++ fault_words e.fault

abbrev pub list_words : ListFault → List ℕ
list_words (File e) = refusal_words e
list_words Memory = codes "out of memory"

abbrev pub side_words : ℕ → List ℕ
side_words letter = codes "no end of a path has the letter " ++ encode_utf8 letter
