use Rattle.std.proofs.Common.{sym, ◌∙◌}
use Rattle.reader.specs.Layouts.{entry}
use Rattle.reader.specs.Pieces.{pieces}
use Rattle.reader.proofs.Rows.{record_row}
use Rattle.reader.proofs.reading.Reader.record.Goals as goal

pub returns : goal.returns
returns c =
    let reader = c.args.self.now in
    let row = c.in_ok-row.ensures in
    c.record_from.ensures
    ∙ record_row (λ f. f.now) c.in_ok-row.row.fields _ _ reader.kind (entry reader.layout) (pieces 44 reader.names.text.now) (pieces 44 c.args.line.text.now) reader.places (reader.wide ∙ sym row.0) row.1 reader.placed
