use Rattle.std.proofs.Common.{Err, Option, Result, sym, ap, ◌∙◌, subst, subst₂}
use Rattle.std.proofs.lemmas.Result.{err_from_is_err_and}
use Rattle.delay.specs.Entries.{Entry}
use Rattle.graph.specs.declared.parts.LiveArc.{LiveArc}
use Rattle.graph.specs.Block.{block_of}
use Rattle.timing.specs.declared.refusals.TimeRefusal.{TimeRefusal}
use Rattle.timing.specs.Asking.{AskedOne, Asked}
use Rattle.timing.proofs.Asking.{asked_stops}
use Rattle.timing.proofs.ask.ask_all.Goals as goal

pub returns-in_err-ask_arc : goal.returns-in_err-ask_arc
returns-in_err-ask_arc g c =
    let p = err_from_is_err_and c.from_residual.result c.from_residual.ensures.1 in
    let b = c.in_err-ask_arc.ensures in
    let i = c.loop-number.invariant in
    let arcs = (block_of c.args.graph.now).arcs in
    let means = g.S.Source.means c.args.source.now in
    let one = subst₂ (λ (o : Option LiveArc) (f : _ → Entry). AskedOne c.loop-number.number o f c.loop-number.ticks c.ask_arc.new.ticks (Err c.in_err-ask_arc.field-0.0)) c.arc.ensures i.same b.asked in
    record {
      asked = subst (λ (r : Result Unit TimeRefusal). Asked arcs means c.ask_arc.new.ticks r) (sym (p.1 ∙ ap Err p.2)) (asked_stops means arcs c.loop-number.ticks c.ask_arc.new.ticks c.loop-number.number c.in_err-ask_arc.field-0.0 i.asked one);
      same = b.same ∙ i.same;
      level = b.level ∙ i.level;
    }
