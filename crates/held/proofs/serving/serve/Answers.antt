use Rattle.std.proofs.Common.{sym, ◌∙◌}
use Rattle.held.proofs.Served.{served}
use Rattle.held.proofs.serving.serve.Goals as goal

pub returns : goal.returns
returns c = served c.args.held.now c.make.new.graph c.args.call _ _ (sym c.is_made.ensures ∙ c.if-not-is_made.false) c.if-held.false c.make.ensures c.into.ensures
