use Rattle.std.proofs.Common.{◌≡◌, ◌+◌, length}
use Rattle.reader.specs.Reading.{left}
use Rattle.reader.specs.Loading.{replay, reached}
use Rattle.reader.proofs.loading.drain.Given as goal

-- what is left gives what the whole gives
abbrev pub invariant-loop-record : goal.invariant-loop-record
invariant-loop-record g l =
    (replay g.S.Sink.step (left l.reader).records (left l.reader).ending (l.reader.cursor.line + 1) (g.S.Sink.holds l.sink)
    ≡ replay g.S.Sink.step (left l.initial.reader).records (left l.initial.reader).ending (l.initial.reader.cursor.line + 1) (g.S.Sink.holds l.initial.sink))
    × (reached g.S.Sink.step (left l.reader).records (g.S.Sink.holds l.sink) ≡ reached g.S.Sink.step (left l.initial.reader).records (g.S.Sink.holds l.initial.sink))

abbrev pub decreases-loop-record : goal.decreases-loop-record
decreases-loop-record g l = length (left l.reader).records
