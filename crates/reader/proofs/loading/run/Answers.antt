use Rattle.std.proofs.Common.{ℕ, ◌+◌, subst}
use Rattle.reader.specs.Loading.{Answers, loaded, replay, reached}
use Rattle.reader.specs.Reading.{left}
use Rattle.reader.proofs.loading.run.Goals as goal

pub returns : goal.returns
returns g c =
    let opened = c.in_ok-reader.ensures in
    let step = g.S.Sink.step in
    let held = g.S.Sink.holds c.args.sink.now in
    let after = g.S.Sink.holds c.drain.new.sink in
    let file = left c.in_ok-reader.reader in
    subst (λ f. Answers (loaded step f held) (reached step f.records held) c.drain.result after) opened.0
    (subst (λ (l : ℕ). Answers (replay step file.records file.ending (l + 1) held) (reached step file.records held) c.drain.result after) opened.1 c.drain.ensures)
