use Rattle.std.proofs.Common.{◌≡◌, ℕ, ◌+◌, ◌-◌, List, map, get_or, set, sym, ap, ◌∙◌, subst, arith, rules, option_to_list}
use Rattle.std.proofs.lemmas.List.{map-set}
use Rattle.timing.specs.Measured.{measured}
use Rattle.timing.specs.TimedBlock.{arcs_in, rows_of}
use Rattle.timing.specs.Requiring.{told, AllBeyond, AllAskBeyond}
use Rattle.timing.specs.RequiredFrom.{RequiredFrom}
use Rattle.timing.proofs.Falling.{lines_count, node_rises, node_stands, all_beyond, all_ask_beyond, required_more}
use Rattle.timing.proofs.backward.require_node.Goals as goal

pub loop-i-init : goal.loop-i-init
loop-i-init g c =
    let m = g.M.Measure in
    let laws = g.met.M.Measure.laws in
    let b = c.args.block.now in
    let firsts = c.args.firsts.now in
    record {
      within = node_rises m laws b firsts c.requires.firsts c.args.node c.requires.node;
      fit = omega (arith, node_stands m laws b firsts c.requires.firsts c.args.node c.requires.node, lines_count m laws b (get_or firsts (c.args.node + 1) 0) c.args.lines.now c.args.required.now c.requires.after);
      required = c.requires.after;
    }

pub require-asked-requires : goal.require-asked-requires
require-asked-requires g c =
    let m = g.M.Measure in
    let laws = g.met.M.Measure.laws in
    let b = c.args.block.now in
    let firsts = c.args.firsts.now in
    let l = c.loop-i in
    record {
      beyond = subst (λ (ks : List ℕ). AllBeyond (arcs_in b) firsts l.lines ks) (sym c.requires.numbers)
          (all_beyond m laws b firsts c.requires.firsts c.args.node l.lines l.invariant.required.arrived);
      within = subst (λ (ks : List ℕ). AllAskBeyond m.width m.row (arcs_in b) firsts l.lines l.required ks) (sym c.requires.numbers)
          (all_ask_beyond m laws b firsts c.requires.firsts c.args.node l.i l.lines l.required l.auto.i l.invariant.required);
    }

pub loop-i-preserved : goal.loop-i-preserved
loop-i-preserved g c =
    let m = g.M.Measure in
    let b = c.args.block.now in
    let firsts = c.args.firsts.now in
    let l = c.loop-i in
    let j = l.i - 1 in
    let z : l.i ≡ j + 1 = omega (arith, c.loop-i-test.true) in
    let asked = c.require-asked.result in
    let x = c.row_or_zero.result in
    record {
      within = omega (arith, c.loop-i-test.true);
      fit = search rules;
      required = required_more m g.met.M.Measure.laws b firsts c.requires.firsts c.args.numbers.now c.args.node c.requires.numbers j l.lines (set l.lines j c.with_asked.result) l.required (set l.required j x)
          (option_to_list (told m.row c.args.end)) (told m.row asked) c.requires.node (omega (arith, c.loop-i-test.true)) (omega (arith, l.auto.i, c.loop-i-test.true))
          (omega (arith, l.invariant.fit, c.loop-i-test.true)) (omega (arith, l.auto.lines, l.auto.required, c.requires.even))
          (subst (λ k. RequiredFrom m.row (measured m) (rows_of m b) 256 k l.lines l.required) z l.invariant.required) c.requires.end c.require-asked.ensures
          (ap (set l.lines j) c.with_asked.ensures) (map-set m.row l.required j x ∙ ap (set (map m.row l.required) j) c.row_or_zero.ensures);
    }

pub returns : goal.returns
returns g c =
    let m = g.M.Measure in
    let l = c.loop-i in
    let z : l.i ≡ get_or c.args.firsts.now c.args.node 0 = omega (arith, c.loop-i-test.false, l.invariant.within) in
    subst (λ k. RequiredFrom m.row (measured m) (rows_of m c.args.block.now) 256 k l.lines l.required) z l.invariant.required
