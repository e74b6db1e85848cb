-- The number of each cause of a fault, and the words of causes and faults.
use Rattle.std.specs.Prelude.{ℕ, List, ◌++◌, codes, decimal}
use Rattle.delay.specs.declared.fault.Cause.{Cause}
use Rattle.delay.specs.declared.fault.Cause.TheVariants.{Missing, OutOfRange, MarginOutOfRange}
use Rattle.delay.specs.declared.fault.Fault.{Fault}

abbrev pub cause_number : Cause → ℕ
cause_number Missing = 1
cause_number OutOfRange = 2
cause_number MarginOutOfRange = 3

abbrev pub cause_words : Cause → List ℕ
cause_words Missing = codes "no row or no mark"
cause_words OutOfRange = codes "a row's ticks out of range"
cause_words MarginOutOfRange = codes "ticks out of range after a margin"

abbrev pub fault_words : Fault → List ℕ
fault_words f =
    codes "no delay for arc " ++ decimal f.arc ++ codes ": " ++ cause_words f.cause
    ++ codes " (cause " ++ decimal (cause_number f.cause) ++ codes ", level " ++ decimal f.level ++ codes ")"
