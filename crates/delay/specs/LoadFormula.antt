-- What a row of a load formula shows.
use Rattle.std.specs.Prelude.{cond, ℤ, pos, ◌+ℤ◌, ◌*ℤ◌, Some, None, Option}
use Rattle.delay.specs.declared.load_formula.LoadRow.{LoadRow}

abbrev pub load_ticks : LoadRow → Option ℤ
load_ticks row = cond row.marked (Some (row.intrinsic +ℤ (row.slope *ℤ pos row.load))) None
