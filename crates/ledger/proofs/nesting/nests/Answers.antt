use Rattle.std.proofs.Common.{◌+◌, drop, sym, ap, ◌∙◌}
use Rattle.ledger.proofs.Histories.{by_next, left_at, left_none}
use Rattle.ledger.proofs.nesting.nests.Goals as goal

pub returns-in_default : goal.returns-in_default
returns-in_default g c =
    let after = g.A.Nesting.after in
    let next = left_at after c.args.acts.now c.loop-act.act-index c.act-item.result c.act-item.result c.loop-act.trying c.loop-act-test.true (sym c.act-item.is) in
    ap (λ o. by_next after o (drop (c.loop-act.act-index + 1) c.args.acts.now)) (sym c.in_default.is ∙ c.open_after.ensures) ∙ sym next ∙ c.loop-act.invariant

pub loop-act-preserved : goal.loop-act-preserved
loop-act-preserved g c =
    let after = g.A.Nesting.after in
    let next = left_at after c.args.acts.now c.loop-act.act-index c.act-item.result c.act-item.result c.loop-act.trying c.loop-act-test.true (sym c.act-item.is) in
    ap (λ o. by_next after o (drop (c.loop-act.act-index + 1) c.args.acts.now)) (sym c.in-Some.is ∙ c.open_after.ensures) ∙ sym next ∙ c.loop-act.invariant

pub returns : goal.returns
returns g c = sym (left_none g.A.Nesting.after c.args.acts.now c.loop-act.act-index c.loop-act.trying c.loop-act-test.false) ∙ c.loop-act.invariant
