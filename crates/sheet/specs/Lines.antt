-- A read past the end of a table of lines.
use Rattle.std.specs.Prelude.{false}
use Rattle.sheet.specs.declared.line.Line.{Line}

-- what it gives
abbrev pub past_line : Line
past_line = record { node = 0; tag = 0; back_arc = 0; back_line = 0; fore_arc = 0; fore_line = 0; required = false }
