use Rattle.reader.proofs.Accepts.{accepted_good}
use Rattle.reader.proofs.Writes.{good_accepted, one_reading, prefix_refused, size_refused}
use Rattle.reader.proofs.laws.format_laws.Goals as goal

pub returns : goal.returns
returns c = record { accepted = good_accepted; good = accepted_good; once = one_reading; short = prefix_refused; size = size_refused }
