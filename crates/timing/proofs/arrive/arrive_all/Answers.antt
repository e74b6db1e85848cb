use Rattle.std.proofs.Common.{◌+◌, set, sym, subst, arith, rules}
use Rattle.timing.specs.Measured.{measured}
use Rattle.timing.specs.TimedBlock.{rows_of}
use Rattle.timing.specs.Arrived.{Arrives}
use Rattle.timing.proofs.Passing.{arrived_all, arrived_more, arrived_full, arrived_ready, arrived_near}
use Rattle.timing.proofs.arrive.arrive_all.Goals as goal

pub arrive-requires : goal.arrive-requires
arrive-requires g c =
    let m = g.M.Measure in
    let laws = g.met.M.Measure.laws in
    let b = c.args.block.now in
    let l = c.loop-node in
    let a = l.invariant.arrived in
    record {
      ready = arrived_ready m laws b c.by-heads.result c.by-heads.ensures l.node (omega arith) l.firsts l.lines l.times l.base a;
      entering = record {
        few = omega (arith, a.fit);
        room = omega (arith, a.fit);
        even = a.even;
        near = arrived_near m laws b c.by-heads.result c.by-heads.ensures l.node (omega arith) l.firsts l.lines l.times l.base a;
        sorted = tt;
      };
    }

pub loop-node-preserved : goal.loop-node-preserved
loop-node-preserved g c =
    let l = c.loop-node in
    record {
      sized = search rules;
      arrived = arrived_more g.M.Measure g.met.M.Measure.laws c.args.block.now c.by-heads.result c.by-heads.ensures l.node (omega arith) l.firsts l.lines l.times l.base l.invariant.arrived
          c.arrive.new.lines c.arrive.new.times c.in_ok-base.field-0 l.invariant.sized c.in_ok-base.ensures;
    }

pub returns-in_err-base : goal.returns-in_err-base
returns-in_err-base g c =
    let m = g.M.Measure in
    let b = c.args.block.now in
    let l = c.loop-node in
    let full = arrived_full m g.met.M.Measure.laws b c.by-heads.result c.by-heads.ensures l.node (omega arith) l.firsts l.lines l.times l.base l.invariant.arrived c.in_err-base.ensures in
    subst (λ r. Arrives m.row (measured m) (rows_of m b) c.arrive.new.lines c.arrive.new.times l.firsts r) (sym c.from_residual.ensures) (omega (arith, full))

pub returns-in_ok-base : goal.returns-in_ok-base
returns-in_ok-base g c =
    let m = g.M.Measure in
    let laws = g.met.M.Measure.laws in
    let b = c.args.block.now in
    let l = c.loop-node in
    let n = c.in_ok-base.field-0 in
    arrived_all m laws b (l.node + 1) (set l.firsts (l.node + 1) (l.base + n)) c.arrive.new.lines c.arrive.new.times (l.base + n) (omega arith)
    (arrived_more m laws b c.by-heads.result c.by-heads.ensures l.node (omega arith) l.firsts l.lines l.times l.base l.invariant.arrived c.arrive.new.lines c.arrive.new.times n l.invariant.sized c.in_ok-base.ensures)
