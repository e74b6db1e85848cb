use Rattle.std.proofs.Common.{◌≡◌, subst}
use Rattle.std.specs.Prelude.{IfOk}
use Rattle.sheet.specs.Blanks.{blank_line, blank_entry}
use Rattle.tables.specs.Tables.{sheet_of, full_of}
use Rattle.tables.proofs.tables.Tables.blank.Goals as goal

pub returns : goal.returns
returns g c = subst (λ z. IfOk c.filled.result (λ t. sheet_of g.M.Measure.row t ≡ full_of c.args.lines 256 blank_line blank_entry z)) c.zero.ensures c.filled.ensures
