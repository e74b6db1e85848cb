use Rattle.std.proofs.Common.{◌<◌, length, rules, arith, length-drop, length-take}
use Rattle.std.proofs.lemmas.List.{take_rest}
use Rattle.reader.proofs.Cuts.{cut_at, cut_none}
use Rattle.reader.proofs.lines.cut.Goals as goal

pub returns-in_err-n : goal.returns-in_err-n
returns-in_err-n c = rw c.from_residual.ensures (cut_none _ c.args.text.now (search rules))

pub returns : goal.returns
returns c = (simp take_rest (cut_at c.args.mark c.args.text.now c.in_ok-n.n (search rules) (search rules) (search rules)), let within : c.in_ok-n.n < length c.args.text.now = search rules in simp (take_rest, length-drop) (omega (arith, length-take c.in_ok-n.n c.args.text.now)))
