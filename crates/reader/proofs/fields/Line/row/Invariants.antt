use Rattle.std.proofs.Common.{◌≡◌, ◌++◌, map, length, take}
use Rattle.reader.specs.Pieces.{pieces, fields_in}
use Rattle.reader.proofs.fields.Line.row.Given as goal

-- the fields so far and those that are still to come are all
abbrev pub invariant-loop-i : goal.invariant-loop-i
invariant-loop-i l = record {
  so_far : map (λ f. f.now) (take l.i l.fields) ++ fields_in l.rest.rest ≡ pieces 44 l.fn.self.text.now;
  long : length l.fields ≡ 3;
}
