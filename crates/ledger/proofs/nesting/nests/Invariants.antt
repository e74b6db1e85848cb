use Rattle.std.proofs.Common.{◌≡◌, false, drop}
use Rattle.ledger.specs.Histories.{nested_by}
use Rattle.ledger.proofs.nesting.nests.Given as goal

abbrev pub invariant-loop-act : goal.invariant-loop-act
invariant-loop-act g l = nested_by g.A.Nesting.after (drop l.act-index l.acts) l.trying ≡ nested_by g.A.Nesting.after l.acts false
