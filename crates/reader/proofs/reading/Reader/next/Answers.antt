use Rattle.std.proofs.Common.{sym, ap, ◌∙◌}
use Rattle.reader.specs.Format.{refused}
use Rattle.reader.proofs.Bodies as bodies
use Rattle.reader.proofs.reading.Reader.next.Goals as goal

pub returns-in-Some-record : goal.returns-in-Some-record
returns-in-Some-record c =
    let here = c.in-Some.ensures in (
      bodies.reads_value c.args.self.now c.next_line.new.self c.in-Some.line.text.now c.next_line.new.self.line here.0 here.1
          c.in-Some-record.record c.if-not-is_end.ensures (sym c.record.ensures ∙ c.in-Some-record.is),
      here.1,
    )

pub returns-in-None : goal.returns-in-None
returns-in-None c =
    let here = c.in-Some.ensures in
    bodies.reads_bad c.args.self.now c.next_line.new.self c.in-Some.line.text.now c.next_line.new.self.line here.0 here.1
    c.if-not-is_end.ensures (sym c.record.ensures ∙ c.in-None.is)
    ∙ ap refused (sym c.refuse.ensures)

pub returns-then-not-counts : goal.returns-then-not-counts
returns-then-not-counts c =
    let here = c.in-Some.ensures in
    bodies.reads_miscount c.args.self.now c.next_line.new.self c.in-Some.line.text.now c.next_line.new.self.line here.0 here.1
    c.if-not-is_end.ensures c.if-not-counts.ensures
    ∙ ap refused (sym c.refuse-then-not-counts.ensures)

pub returns-then-not-is_empty : goal.returns-then-not-is_empty
returns-then-not-is_empty c =
    let here = c.in-Some.ensures in
    bodies.reads_followed c.args.self.now c.next_line.new.self c.in-Some.line.text.now c.next_line.new.self.line here.0 here.1
    c.if-not-is_end.ensures c.if-not-counts.ensures c.if-not-is_empty.ensures
    ∙ ap refused (sym c.refuse-then-not-is_empty.ensures)
