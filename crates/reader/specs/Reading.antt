-- What a reader has still to say. Assumes nothing.
use Rattle.std.specs.Prelude.{◌≡◌, ◌+◌, Some, None, Ok, Err, Option, Result}
use Rattle.reader.specs.declared.records.Record.{Record}
use Rattle.reader.specs.declared.faults.FileRefusal.{FileRefusal}
use Rattle.reader.specs.declared.reading.Reader.{Reader}
use Rattle.reader.specs.Format.{Scan, body, complete, refused, after}
use Rattle.reader.specs.Layouts.{entry}
use Rattle.reader.specs.Pieces.{pieces}

abbrev pub left : Reader → Scan
left r = body r.kind (entry r.layout) (pieces 44 r.names.text.now) r.cursor.line (pieces 10 r.cursor.rest.now)

-- one call of `next`, from a to b
abbrev pub Steps : Reader → Result (Option Record) FileRefusal → Reader → Type 0
Steps a (Ok (Some r)) b = (left a ≡ after r (left b)) × (b.cursor.line ≡ a.cursor.line + 1)
Steps a (Ok None) b = left a ≡ complete
Steps a (Err e) b = left a ≡ refused e
