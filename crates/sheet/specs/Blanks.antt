-- What a blank table has: the marks that mean "none", and rows of zeros.
use Rattle.std.specs.Prelude.{false}
use Rattle.sheet.specs.declared.line.Line.{Line}
use Rattle.sheet.specs.declared.node.NodeEntry.{NodeEntry}

abbrev pub blank_line : Line
blank_line = record { node = 256; tag = 0; back_arc = 1024; back_line = 4096; fore_arc = 1024; fore_line = 4096; required = false }

abbrev pub blank_entry : NodeEntry
blank_entry = record { timed = false; line = 4096 }
