use Rattle.std.proofs.Common.{length, ap, zero-add, arith}
use Rattle.reader.specs.Listing.{unless_refused}
use Rattle.reader.specs.Reading.{left}
use Rattle.reader.proofs.listing.count.Goals as goal

pub loop-lines-init : goal.loop-lines-init
loop-lines-init c = let all = left c.in_ok-reader.reader in (ap (unless_refused all.ending) (zero-add (length all.records)), omega arith)
