use Rattle.std.proofs.Common.{arith}
use Rattle.reader.proofs.Cuts.{pieces_few}
use Rattle.reader.proofs.fields.Line.fields.Goals as goal

pub invariant_of-result : goal.invariant_of-result
invariant_of-result c = let few = pieces_few 44 c.args.self.text.now in omega (arith, c.args.self.short)
