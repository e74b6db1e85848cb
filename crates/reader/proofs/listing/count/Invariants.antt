use Rattle.std.proofs.Common.{◌≡◌, ◌+◌, ◌≤◌, length}
use Rattle.reader.specs.Listing.{unless_refused, counted}
use Rattle.reader.specs.Reading.{left}
use Rattle.reader.proofs.listing.count.Given as goal

-- the lines so far and those that are left are all, and each was a line of the file
abbrev pub invariant-loop-lines : goal.invariant-loop-lines
invariant-loop-lines l =
    (unless_refused (left l.reader).ending (l.lines + length (left l.reader).records) ≡ counted (left l.initial.reader))
    × (l.lines ≤ l.reader.cursor.line)

abbrev pub decreases-loop-lines : goal.decreases-loop-lines
decreases-loop-lines l = length (left l.reader).records
