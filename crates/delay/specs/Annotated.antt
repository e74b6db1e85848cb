-- What a row of an annotated table shows.
use Rattle.std.specs.Prelude.{cond, ℤ, Some, None, Option}
use Rattle.delay.specs.declared.annotated.AnnotatedRow.{AnnotatedRow}

abbrev pub annotated_ticks : AnnotatedRow → Option ℤ
annotated_ticks row = cond row.marked (Some row.ticks) None
